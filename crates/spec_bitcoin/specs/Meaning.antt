-- The meaning of a script, as Bitcoin's consensus runs it, for the opcodes of contracts: a recursion on the tree of blocks, with
-- all limits.
use Rattle.std.specs.Prelude.{ℕ, ◌+◌, List, [], ◌∷◌, length, reverse, Bool, true, false, not, ◌&&◌, if◌then◌else◌, nat_le, nat_lt, count_by}
use Rattle.std.specs.Prelude.{Option, Some, None}
use Rattle.std.specs.List.{list_all}
use Rattle.std.specs.Option.{option_and_then, option_map_or}
use Rattle.spec_data.specs.Ranges.{most_script_bytes, most_operations, most_item_bytes, most_items}
use Rattle.spec_bitcoin.specs.declared.script.Op.{Op}
use Rattle.spec_bitcoin.specs.declared.script.Op.TheVariants.{Push, Code}
use Rattle.spec_bitcoin.specs.Opcodes.{opcode_of}
use Rattle.spec_bitcoin.specs.Trees.{Items, End, Plain, Block, Sections, NoMore, Section, tree_of}
use Rattle.spec_bitcoin.specs.Effects.{Item, Stacks, truth, effect}
use Rattle.spec_bitcoin.specs.Scripts.{script_ops}

-- ---- operations and blocks

-- the stacks, where both together hold at most 1,000 items
abbrev pub within_limit : Stacks → Option Stacks
within_limit s = if nat_le (length s.main + length s.alt) most_items then Some s else None

-- an operation that runs
abbrev pub act : (Item → Item) → (Item → Item → Bool) → Op → Stacks → Option Stacks
act hash valid (Push item) s = within_limit (record { main = item ∷ s.main; alt = s.alt })
act hash valid (Code c) s = option_and_then within_limit (effect hash valid (opcode_of c) s.main s.alt)

-- the item that IF or NOTIF pops, as whether the sections at even places run
abbrev pub pop_condition : Bool → Stacks → Option (Bool × Stacks)
pop_condition negated s = elim s.main as (λ _. Option (Bool × Stacks)) [
  | [] ↦ None
  | x ∷ rest ↦ option_and_then (λ (t : Stacks). Some (if negated then not (truth x) else truth x, t))
      (within_limit (record { main = rest; alt = s.alt }))
]

-- what the operations and blocks make of the stacks, where none fails
abbrev mutual
  pub run : (Item → Item) → (Item → Item → Bool) → Items → Stacks → Option Stacks
  run hash valid End s = Some s
  run hash valid (Plain op rest) s = option_and_then (run hash valid rest) (act hash valid op s)
  run hash valid (Block negated sections rest) s =
      option_and_then (run hash valid rest)
      (option_and_then (λ (p : Bool × Stacks). run_sections hash valid sections p.0 p.1) (pop_condition negated s))

  -- the sections at even places run where the flag says so, and else those at odd places
  pub run_sections : (Item → Item) → (Item → Item → Bool) → Sections → Bool → Stacks → Option Stacks
  run_sections hash valid NoMore even s = Some s
  run_sections hash valid (Section items others) even s =
      option_and_then (run_sections hash valid others (not even)) (if even then run hash valid items s else Some s)

-- the main stack has one item, and it counts as true
abbrev pub succeeds : Option Stacks → Bool
succeeds None = false
succeeds (Some s) = elim s.main as (λ _. Bool) [ [] ↦ false | x ∷ rest ↦ elim rest as (λ _. Bool) [ [] ↦ truth x | _ ∷ _ ↦ false ] ]

-- the stacks after the operations, on a stack from its top
abbrev pub outcome : (Item → Item) → (Item → Item → Bool) → List Op → List Item → Option Stacks
outcome hash valid ops stack = option_and_then (λ (items : Items). run hash valid items (record { main = stack; alt = [] })) (tree_of ops)

-- the meaning of operations that meet the limits, on a stack from its top
abbrev pub meaning : (Item → Item) → (Item → Item → Bool) → List Op → List Item → Bool
meaning hash valid ops stack = succeeds (outcome hash valid ops stack)

-- ---- the bytes of a script

-- the push has no more bytes than an item
abbrev pub is_short_push : Op → Bool
is_short_push (Push item) = nat_le (length item) most_item_bytes
is_short_push (Code c) = true

-- the operation counts against the limit, whether it runs or not
abbrev pub is_counted : Op → Bool
is_counted (Push item) = false
is_counted (Code c) = nat_lt 0x60 c

-- no push is too long, and at most 201 operations count
abbrev pub within_limits : List Op → Bool
within_limits ops = list_all is_short_push ops && nat_le (count_by is_counted ops) most_operations

-- whether a script is true on a stack, given from its bottom; the hash, and which signature is valid for which key, are given
unfoldable pub script_meaning : (Item → Item) → (Item → Item → Bool) → List ℕ → List Item → Bool
script_meaning hash valid script stack =
    nat_le (length script) most_script_bytes
    && option_map_or (λ ops. within_limits ops && meaning hash valid ops (reverse stack)) (script_ops script) false
