-- What is claimed of the totals of a contract's weights: in a run the transactions on the way to a path weigh together no less than the
-- least total of the path and no more than the greatest.
use Rattle.std.specs.Prelude.{◌≡◌, ◌↔◌, ℕ, ◌+◌, List, [], ◌∷◌, ◌++◌, map, sum_by, true, Some, slice_get}
use Rattle.std.specs.List.{Contains, filter}
use Rattle.spec_terms.specs.declared.path.PathStep.{PathStep}
use Rattle.spec_bitcoin.specs.declared.tx.Tx.{Tx}
use Rattle.spec_compiler.specs.Instance.{Instance}
use Rattle.spec_compiler.specs.declared.unsigned.Unsigned.{Unsigned}
use Rattle.spec_compiler.specs.Compilation.{path_transactions}
use Rattle.spec_run.specs.declared.event.Event.{Event}
use Rattle.spec_run.specs.declared.event.Event.TheVariants as events
use Rattle.spec_run.specs.Setup.{Setup}
use Rattle.spec_run.specs.World.{ContractPosition, World, live_position_at}
use Rattle.spec_run.specs.Compiled.{compiled_instance}
use Rattle.spec_run.specs.Ledger.{position_path}
use Rattle.spec_run.specs.Event.{opening_world}
use Rattle.spec_run.specs.Values.{is_accepted}
use Rattle.spec_run.specs.Translation.{Turn, course, last_world}
use Rattle.spec_run.specs.Statements.{IsRun}
use Rattle.spec_tool.specs.declared.weight.Weight.{Weight}
use Rattle.spec_tool.specs.Weights.{weight_of, weights, is_on_way, path_weights}
use Rattle.theory_weights.specs.Bounds.{IsWithin}

-- ---- the way to a path

-- those of these paths that are on the way to a path, the path itself among them
abbrev pub way_to : List PathStep → List (List PathStep) → List (List PathStep)
way_to path paths = filter (λ p. is_on_way p path) paths

-- a path goes on from another with more steps, or is the same
pub record GoesOnFrom (path to : List PathStep) : Type 0 where
  pub more : List PathStep
  pub is : to ≡ path ++ more

-- a contract's weights of those of its paths that are on the way to this one
abbrev pub weights_to : List PathStep → (List ℕ → List ℕ) → Instance → List (List PathStep × Weight)
weights_to path hash s = filter (λ p. is_on_way (p.0) path) (path_weights hash s)

-- the total of the initial transaction is its weight; that of a path is the sum of the weights of the initial transaction and of each
-- path on the way
pub record TotalsAreSums (hash : List ℕ → List ℕ) (s : Instance) : Type 0 where
  pub on_way : (path to : List PathStep) → (is_on_way path to ≡ true) ↔ GoesOnFrom path to
  pub initial : (weight total : Weight) → slice_get (weights hash s) 0 ≡ Some (weight, total) → total ≡ weight
  pub paths : (n : ℕ) (path : List PathStep) (d : Unsigned) (initial initial_total weight total : Weight)
      → slice_get (path_transactions hash s) n ≡ Some (path, d) → slice_get (weights hash s) 0 ≡ Some (initial, initial_total)
      → slice_get (weights hash s) (n + 1) ≡ Some (weight, total)
      → (total.least ≡ initial.least + sum_by (λ p. (p.1).least) (weights_to path hash s))
      × (total.most ≡ initial.most + sum_by (λ p. (p.1).most) (weights_to path hash s))

abbrev pub WeightsAddUp : Type 0
WeightsAddUp = (hash : List ℕ → List ℕ) (s : Instance) → TotalsAreSums hash s

-- ---- runs

-- each of these turns beside the world before it
abbrev pub with_worlds : World → List Turn → List (World × Turn)
with_worlds w [] = []
with_worlds w (t ∷ ts) = (w, t) ∷ with_worlds t.world ts

-- the turns of a run up to its halt
abbrev pub turns_of : Setup → List Event → List (World × Turn)
turns_of s es = with_worlds (opening_world s) (course s es).turns

-- in the run this event was accepted in this world, with this transaction
pub record IsAccepted (s : Setup) (es : List Event) (w : World) (e : Event) (tx : Tx) : Type 0 where
  pub turn : Turn
  pub there : Contains (turns_of s es) (w, turn)
  pub event : turn.event ≡ e
  pub accepted : is_accepted turn.outcome ≡ true
  pub is : turn.tx ≡ Some tx

-- the contract's initial transaction was fired and accepted
pub record FiredInitial (s : Setup) (es : List Event) (contract : ℕ) (tx : Tx) : Type 0 where
  pub world : World
  pub fired : IsAccepted s es world (events.FireInit contract) tx

-- the branch at this path of the contract was fired and accepted
pub record FiredPath (s : Setup) (es : List Event) (contract : ℕ) (path : List PathStep) (tx : Tx) : Type 0 where
  pub world : World
  pub output : ℕ
  pub branch : ℕ
  pub fired : IsAccepted s es world (events.Fire output branch) tx
  pub held : ContractPosition
  pub position : live_position_at world output ≡ Some held
  pub same_contract : held.contract ≡ contract
  pub same_path : position_path held branch ≡ path

-- each of these paths, with its transaction
abbrev pub FiredAll : Setup → List Event → ℕ → List (List PathStep) → List Tx → Type 0
FiredAll s es contract [] [] = Unit {0}
FiredAll s es contract [] (tx ∷ txs) = ⊥
FiredAll s es contract (path ∷ paths) [] = ⊥
FiredAll s es contract (path ∷ paths) (tx ∷ txs) = FiredPath s es contract path tx × FiredAll s es contract paths txs

-- the initial transaction and those of a path and of each path on the way to it weigh together what the total says
abbrev pub TotalsBoundRuns : Type 0
TotalsBoundRuns = (s : Setup) (es : List Event) → IsRun s es
    → (contract : ℕ) (instance : Instance) → compiled_instance s (last_world s es) contract ≡ Some instance
    → (n : ℕ) (path : List PathStep) (d : Unsigned) (weight total : Weight)
    → slice_get (path_transactions s.hash instance) n ≡ Some (path, d)
    → slice_get (weights s.hash instance) (n + 1) ≡ Some (weight, total)
    → (initial : Tx) (txs : List Tx) → FiredInitial s es contract initial
    → FiredAll s es contract (way_to path (map (λ p. p.0) (path_transactions s.hash instance))) txs
    → IsWithin total (weight_of initial + sum_by weight_of txs)
