-- By whose leave an honest party's deposit was spent, as a relation: its own gift, or a contract's transaction that it signed for before.
use Rattle.std.specs.Prelude.{◌≡◌, ℕ, List, ◌⊎◌, ◌↔◌, true, false, Option, Some, None}
use Rattle.std.specs.List.{Contains}
use Rattle.spec_data.specs.Lists.{look_up}
use Rattle.spec_terms.specs.Precondition.{Holding, persistent, volatile}
use Rattle.spec_bitcoin.specs.declared.tx.Tx.{Tx}
use Rattle.spec_calculus.specs.declared.step.Owner.TheVariants.{Party}
use Rattle.spec_run.specs.declared.event.Event.{Event}
use Rattle.spec_run.specs.declared.event.Event.TheVariants as events
use Rattle.spec_run.specs.declared.outcome.Outcome.{Outcome}
use Rattle.spec_run.specs.declared.outcome.Outcome.TheVariants as outcomes
use Rattle.spec_run.specs.declared.outcome.Record.{Record}
use Rattle.spec_run.specs.Setup.{Setup, pre_at, is_honest}
use Rattle.spec_run.specs.World.{World, output_at, is_deposit, bindings_at}
use Rattle.spec_run.specs.Owners.{owner_of}
use Rattle.spec_run.specs.Ledger.{Kind, Begins, Takes, Moves, is_initial, kind_of, position_path, position_branch}
use Rattle.spec_run.specs.Compiled.{compiled_instance}
use Rattle.spec_run.specs.HonestDeposits.{is_of_path, put_by, has_leave}
use Rattle.spec_run.specs.Statements.{Claim, HoldsThroughout, spends_with_leave}
use Rattle.spec_run.specs.Translation.{record_in}

-- this event was done, and so is recorded
pub record WasDone (e : Event) (before : List Record) : Type 0 where
  pub r : Record
  pub there : Contains before r
  pub event : r.event ≡ e
  pub done : r.outcome ≡ outcomes.Done

-- the number is bound to a persistent deposit of the party in the contract
pub record TakesPersistent (s : Setup) (w : World) (contract : ℕ) (party : List ℕ) (number : ℕ) : Type 0 where
  pub name : List ℕ
  pub holding : Holding
  pub there : Contains (persistent (pre_at s contract)) (name, holding)
  pub owner : holding.owner ≡ party
  pub bound : look_up name (bindings_at w.advertised contract) ≡ Some number

-- the branch puts a volatile deposit of the party to which the number is bound
pub record TakesPut (s : Setup) (w : World) (contract : ℕ) (names : List (List ℕ)) (party : List ℕ) (number : ℕ) : Type 0 where
  pub name : List ℕ
  pub holding : Holding
  pub put : Contains names name
  pub is : look_up name (volatile (pre_at s contract)) ≡ Some holding
  pub owner : holding.owner ≡ party
  pub bound : look_up name (bindings_at w.advertised contract) ≡ Some number

-- the transaction is the compiled initial one of a contract which takes a persistent deposit of the party, and that the party started; or
-- the one of a branch which puts a deposit of the party, of a contract that the party endorsed
abbrev pub ByContract : Setup → World → List Record → List ℕ → ℕ → Tx → Kind → Type 0
ByContract s w before party number tx (Begins contract) =
    (is_initial s tx (compiled_instance s w contract) ≡ true) × TakesPersistent s w contract party number
    × WasDone (events.Init contract party) before
ByContract s w before party number tx (Takes held output branch) =
    (is_of_path s tx (position_path held branch) (compiled_instance s w held.contract) ≡ true)
    × TakesPut s w held.contract (put_by (position_branch s held branch)) party number
    × WasDone (events.Endorse held.contract party) before
ByContract s w before party number tx Moves = ⊥

abbrev pub ByTransaction : Setup → World → List Record → List ℕ → ℕ → List ℕ → Option Tx → Type 0
ByTransaction s w before party number spent None = ⊥
ByTransaction s w before party number spent (Some tx) = ByContract s w before party number tx (kind_of s w tx spent)

-- the event is the party's gift of this deposit among others
pub record Gives (party : List ℕ) (number : ℕ) (e : Event) : Type 0 where
  pub inputs : List ℕ
  pub outputs : List (List ℕ × ℕ)
  pub is : e ≡ events.Give party inputs outputs
  pub among : Contains inputs number

-- an accepted event had the party's leave to spend the deposit of this number
abbrev pub HasLeave : Setup → World → List Record → Event → Option Tx → List ℕ → ℕ → Outcome → Type 0
HasLeave s w before e tx party number outcomes.Done = ⊥
HasLeave s w before e tx party number (outcomes.Accepted spent made lock) =
    Gives party number e ⊎ ByTransaction s w before party number spent tx
HasLeave s w before e tx party number (outcomes.Refused reason) = ⊥

-- a deposit of an honest party that was live before a turn, and isn't after it, went by such leave
abbrev pub goes_by_leave : Setup → Claim
goes_by_leave s before g w t =
    (party : List ℕ) (number : ℕ) → is_honest s party ≡ true → owner_of s (output_at w number) ≡ Party party
    → is_deposit (output_at t.world number) ≡ false
    → HasLeave s w before (record_in t).event (record_in t).tx party number (record_in t).outcome

pub record LeaveIsMeant : Type 0 where
  -- the test on runs is this relation, whatever came before
  pub test : (s : Setup) (w : World) (before : List Record) (e : Event) (tx : Option Tx) (party : List ℕ) (number : ℕ) (outcome : Outcome)
      → (has_leave s w before e tx party number outcome ≡ true) ↔ HasLeave s w before e tx party number outcome
  -- so it holds throughout where the test does
  pub throughout : (s : Setup) (es : List Event) → HoldsThroughout s (spends_with_leave s) es → HoldsThroughout s (goes_by_leave s) es
