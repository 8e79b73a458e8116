-- What is claimed of deposits while a contract isn't compiled: it takes no honest party's, whatever they are bound to.
use Rattle.std.specs.Prelude.{◌≡◌, ℕ, List, true, false, ◌⊎◌, Option, Some, None}
use Rattle.spec_bitcoin.specs.declared.tx.Tx.{Tx}
use Rattle.spec_calculus.specs.declared.step.Owner.TheVariants.{Party}
use Rattle.spec_run.specs.declared.event.Event.{Event}
use Rattle.spec_run.specs.declared.outcome.Outcome.{Outcome}
use Rattle.spec_run.specs.declared.outcome.Outcome.TheVariants as outcomes
use Rattle.spec_run.specs.Setup.{Setup, is_honest}
use Rattle.spec_run.specs.World.{World, output_at, is_deposit}
use Rattle.spec_run.specs.Owners.{owner_of}
use Rattle.spec_run.specs.Ledger.{Kind, Begins, Takes, Moves, kind_of}
use Rattle.spec_run.specs.Compiled.{compiled_instance}
use Rattle.spec_run.specs.HonestDeposits.{gives}
use Rattle.spec_run.specs.Statements.{Claim, HoldsThroughout, IsRun}

-- the contract that a transaction of this kind begins or goes on with
abbrev pub contract_of_kind : Kind → Option ℕ
contract_of_kind (Begins contract) = Some contract
contract_of_kind (Takes held output branch) = Some held.contract
contract_of_kind Moves = None

-- the contract whose transaction spent the outputs of these numbers
abbrev pub contract_spending : Setup → World → List ℕ → Option Tx → Option ℕ
contract_spending s w spent None = None
contract_spending s w spent (Some tx) = contract_of_kind (kind_of s w tx spent)

-- an accepted transaction of another contract
abbrev pub IsOfAnother : Setup → World → ℕ → Option Tx → Outcome → Type 0
IsOfAnother s w contract tx outcomes.Done = ⊥
IsOfAnother s w contract tx (outcomes.Accepted spent made lock) =
    (other : ℕ) × (contract_spending s w spent tx ≡ Some other) × (other ≡ contract → ⊥)
IsOfAnother s w contract tx (outcomes.Refused reason) = ⊥

-- while the contract isn't compiled, an honest party's live deposit goes only by the party's own gift, or by a transaction of another
abbrev pub bound_deposits : Setup → Claim
bound_deposits s before g w t =
    (contract number : ℕ) (party : List ℕ) → compiled_instance s w contract ≡ None → is_honest s party ≡ true
    → owner_of s (output_at w number) ≡ Party party → is_deposit (output_at t.world number) ≡ false
    → (gives party number t.event ≡ true) ⊎ IsOfAnother s w contract t.tx t.outcome

abbrev pub BoundDepositsTheorem : Type 0
BoundDepositsTheorem = (s : Setup) (es : List Event) → IsRun s es → HoldsThroughout s (bound_deposits s) es
