-- What is claimed where signatures by hand count: a contract begins, and a branch is taken, exactly where nothing is said to be missing.
use Rattle.std.specs.Prelude.{◌≡◌, ◌↔◌, ℕ, List, true, is_some}
use Rattle.spec_calculus.specs.Beginning.{contract_at}
use Rattle.spec_calculus.specs.Steps.{branch_at}
use Rattle.spec_run.specs.declared.event.Event.{Event}
use Rattle.spec_run.specs.declared.event.Event.TheVariants as events
use Rattle.spec_run.specs.Setup.{Setup}
use Rattle.spec_run.specs.Translation.{last_configuration}
use Rattle.spec_run.specs.Statements.{IsRun}
use Rattle.theory_next.specs.Others.{NothingSaid, ComesAfter}

-- whatever was signed by hand: nothing is said to be missing for the event exactly where it can come, or would halt the run
pub record HandsBring (s : Setup) (es : List Event) : Type 0 where
  pub beginnings : (k : ℕ) → is_some (contract_at (last_configuration s es).contracts k) ≡ true
      → NothingSaid s es (events.FireInit k) ↔ ComesAfter s es (events.FireInit k)
  pub branches : (n i : ℕ) → is_some (branch_at (last_configuration s es) n i) ≡ true
      → NothingSaid s es (events.Fire n i) ↔ ComesAfter s es (events.Fire n i)

-- after every run
abbrev pub HandsBringTheorem : Type 0
HandsBringTheorem = (s : Setup) (es : List Event) → IsRun s es → HandsBring s es
