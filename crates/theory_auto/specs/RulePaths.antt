-- What is claimed of rules that name a path: they have an event exactly where the path's branch may be named, and it names that branch.
use Rattle.std.specs.Prelude.{◌≡◌, ℕ, List, true, is_some, Option, Some, None}
use Rattle.spec_terms.specs.declared.path.PathStep.{PathStep}
use Rattle.spec_run.specs.declared.event.Event.{Event}
use Rattle.spec_run.specs.declared.event.Event.TheVariants as events
use Rattle.spec_run.specs.Setup.{Setup, contract_at}
use Rattle.spec_run.specs.World.{ContractPosition, World, live_position_at}
use Rattle.spec_run.specs.Ledger.{branch_in, position_path}
use Rattle.spec_tool.specs.declared.rule.Act.TheVariants as acts
use Rattle.spec_tool.specs.Turns.{act_event}

-- the first contract has a branch at the path, and at this live output stands the position whose branch of this number it is
pub record IsAtPath (s : Setup) (w : World) (path : List PathStep) (output branch : ℕ) : Type 0 where
  pub known : is_some (branch_in (contract_at s 0) path) ≡ true
  pub held : ContractPosition
  pub stands : live_position_at w output ≡ Some held
  pub contract : held.contract ≡ 0
  pub path_is : position_path held branch ≡ path

-- the event is of the branch at the path, and there is none only where no live output has it
pub record TakesItsBranch (s : Setup) (w : World) (path : List PathStep) (named : ℕ → ℕ → Event) (has : Option Event) : Type 0 where
  pub some : (e : Event) → has ≡ Some e → (output : ℕ) × (branch : ℕ) × (e ≡ named output branch) × IsAtPath s w path output branch
  pub none : has ≡ None → (output branch : ℕ) → IsAtPath s w path output branch → ⊥

-- of the two kinds of rule that name a path
pub record TakeTheirBranches (s : Setup) (w : World) (party : List ℕ) (path : List PathStep) : Type 0 where
  pub authorise : TakesItsBranch s w path (λ n i. events.Authorise party n i) (act_event s w party (acts.Authorise path))
  pub fire : TakesItsBranch s w path (λ n i. events.Fire n i) (act_event s w party (acts.Fire path))

-- in every world
abbrev pub RulesTakeTheirBranches : Type 0
RulesTakeTheirBranches = (s : Setup) (w : World) (party : List ℕ) (path : List PathStep) → TakeTheirBranches s w party path
