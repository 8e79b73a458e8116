-- What is claimed of the limits that Bitcoin's consensus sets to scripts: that of a position meets none of them, whether it opens or not,
-- by the key plan.
use Rattle.std.specs.Prelude.{◌≡◌, ℕ, ◌+◌, ◌≤◌, List, [], ◌∷◌, length, Bool, not, if◌then◌else◌, Option, Some, None}
use Rattle.std.specs.Option.{option_and_then}
use Rattle.spec_terms.specs.Term.{Contract}
use Rattle.spec_terms.specs.declared.path.PathStep.{PathStep}
use Rattle.spec_bitcoin.specs.declared.script.Op.{Op}
use Rattle.spec_bitcoin.specs.declared.script.Op.TheVariants.{Push, Code}
use Rattle.spec_bitcoin.specs.Opcodes.{opcode_of}
use Rattle.spec_bitcoin.specs.Effects.{Item, Stacks, truth, effect}
use Rattle.spec_bitcoin.specs.Trees.{Items, End, Plain, Block, Sections, NoMore, Section, tree_of}
use Rattle.spec_bitcoin.specs.Meaning.{outcome}
use Rattle.spec_compiler.specs.Keyed.Keys.{by_plan}
use Rattle.spec_compiler.specs.Instance.{Instance}
use Rattle.spec_compiler.specs.Statements.{IsHash, IsCompiled}
use Rattle.theory_script.specs.Keyed.Limits as keyed

-- the operations of a position's script
abbrev pub ops_at : (List ℕ → List ℕ) → Instance → List PathStep → Contract → List Op
ops_at hash = keyed.ops_at hash by_plan

-- few bytes, which are read as operations; no push is too long, few operations count, and there are few of them in all
abbrev pub MeetsNoLimit : (List ℕ → List ℕ) → Instance → List PathStep → Contract → Type 0
MeetsNoLimit hash = keyed.MeetsNoLimit hash by_plan

-- of every position of a checked contract
abbrev pub NoLimitIsMet : Type 0
NoLimitIsMet = (hash : List ℕ → List ℕ) (s : Instance) (position : List PathStep) (contract : Contract)
    → IsHash hash → IsCompiled s position contract → MeetsNoLimit hash s position contract

-- ---- the limit on items

-- an operation that runs, with no limit on the items
abbrev pub free_act : (Item → Item) → (Item → Item → Bool) → Op → Stacks → Option Stacks
free_act hash valid (Push item) s = Some (record { main = item ∷ s.main; alt = s.alt })
free_act hash valid (Code c) s = effect hash valid (opcode_of c) s.main s.alt

-- the item that IF or NOTIF pops, as whether the sections at even places run
abbrev pub free_choose : Bool → Stacks → Option (Bool × Stacks)
free_choose negated s = elim s.main as (λ _. Option (Bool × Stacks)) [
  | [] ↦ None
  | x ∷ rest ↦ Some (if negated then not (truth x) else truth x, record { main = rest; alt = s.alt })
]

-- what the operations and blocks make of the stacks, with no limit on the items
abbrev mutual
  pub free_items : (Item → Item) → (Item → Item → Bool) → Items → Stacks → Option Stacks
  free_items hash valid End s = Some s
  free_items hash valid (Plain op rest) s = option_and_then (free_items hash valid rest) (free_act hash valid op s)
  free_items hash valid (Block negated sections rest) s =
      option_and_then (free_items hash valid rest)
      (option_and_then (λ (p : Bool × Stacks). free_sections hash valid sections p.0 p.1) (free_choose negated s))

  pub free_sections : (Item → Item) → (Item → Item → Bool) → Sections → Bool → Stacks → Option Stacks
  free_sections hash valid NoMore even s = Some s
  free_sections hash valid (Section items others) even s =
      option_and_then (free_sections hash valid others (not even)) (if even then free_items hash valid items s else Some s)

-- the stacks after the operations, on a stack from its top, with no limit on the items
abbrev pub free_outcome : (Item → Item) → (Item → Item → Bool) → List Op → List Item → Option Stacks
free_outcome hash valid ops stack =
    option_and_then (λ (items : Items). free_items hash valid items (record { main = stack; alt = [] })) (tree_of ops)

-- an operation adds at most one item: where items and operations together are at most 1,000, the limit changes nothing.
-- So the 402 operations of a position never meet it on a stack of at most 598 items
abbrev pub LimitOnItems : Type 0
LimitOnItems = (hash : Item → Item) (valid : Item → Item → Bool) (ops : List Op) (stack : List Item)
    → length stack + length ops ≤ 1000 → outcome hash valid ops stack ≡ free_outcome hash valid ops stack
