-- What is claimed where a secret alone is said to be missing for a branch: the event that shows it can come, and after it the branch can be
-- taken, if its predicate is true of the secrets' lengths.
use Rattle.std.specs.Prelude.{◌≡◌, ℕ, ◌++◌, List, [], ◌∷◌, Bool, true, false, Option, Some, None}
use Rattle.spec_terms.specs.Core.{core, reveals_of, test_of}
use Rattle.spec_terms.specs.Term as term
use Rattle.spec_terms.specs.Value.{holds}
use Rattle.spec_calculus.specs.declared.parts.ActiveContract.{ActiveContract}
use Rattle.spec_calculus.specs.Configuration.{Configuration}
use Rattle.spec_calculus.specs.Beginning.{pre_of}
use Rattle.spec_calculus.specs.Branches.{active_at, advert_of, contract_number, secret_lengths}
use Rattle.spec_calculus.specs.Steps.{branch_at}
use Rattle.spec_run.specs.declared.event.Event.{Event}
use Rattle.spec_run.specs.declared.event.Event.TheVariants as events
use Rattle.spec_run.specs.Conditions.{IsEvent}
use Rattle.spec_run.specs.Revealing.{fits}
use Rattle.spec_run.specs.Secrets.{digest_at}
use Rattle.spec_run.specs.Setup.{Setup}
use Rattle.spec_run.specs.Statements.{IsRun}
use Rattle.spec_run.specs.Translation.{last_configuration, last_world, first_halt}
use Rattle.spec_next.specs.declared.outlook.Ruling.TheVariants as rulings
use Rattle.spec_next.specs.declared.requirement.Requirement.{Requirement}
use Rattle.spec_next.specs.declared.requirement.Requirement.TheVariants as requirements
use Rattle.spec_next.specs.Prospects.{outstanding, prospect, ruling}
use Rattle.theory_next.specs.MetAlone.{IsAlone}
use Rattle.theory_next.specs.Ready.{CanUnlessHalts}

-- this alone is said after a run to be missing for the branch
abbrev pub SaysAlone : Setup → List Event → ℕ → ℕ → Requirement → Type 0
SaysAlone s es n i x = IsAlone x (prospect s (last_configuration s es) (last_world s es) (events.Fire n i)).requirements

-- whether the predicate of a branch is true of the lengths of its secrets
abbrev pub predicate_by : Configuration → Option ActiveContract → Option term.Guarded → Bool
predicate_by g active None = false
predicate_by g active (Some b) =
    holds (secret_lengths g.committed (contract_number active) (pre_of (advert_of g.contracts active)) (reveals_of (core b))) (test_of (core b))

abbrev pub predicate_at : Configuration → ℕ → ℕ → Bool
predicate_at g n i = predicate_by g (active_at g.active n) (branch_at g n i)

-- the run with this event, which doesn't halt: the branch can be taken where its predicate is true, and else lacks that alone
pub record ShowsIt (s : Setup) (es : List Event) (n i : ℕ) : Type 0 where
  pub is_run : IsRun s es
  pub goes_on : first_halt s es ≡ None
  pub comes : predicate_at (last_configuration s es) n i ≡ true → CanUnlessHalts s (last_world s es) (events.Fire n i)
  pub fails : predicate_at (last_configuration s es) n i ≡ false
      → IsAlone requirements.Predicate (outstanding s (last_configuration s es) (last_world s es) (events.Fire n i))

-- the event can come, unless it halts the run, and then shows it
pub record IsMetBy (s : Setup) (es : List Event) (e : Event) (n i : ℕ) : Type 0 where
  pub can : CanUnlessHalts s (last_world s es) e
  pub shows : ruling s (last_world s es) e ≡ rulings.Can → ShowsIt s (es ++ e ∷ []) n i

pub record MetShown (s : Setup) (es : List Event) : Type 0 where
  -- an honest party's secret by its own reveal
  pub reveals : (party : List ℕ) (k : ℕ) (secret : List ℕ) (n i : ℕ) → IsEvent s (events.Reveal k party secret)
      → SaysAlone s es n i (requirements.Secret party k secret) → IsMetBy s es (events.Reveal k party secret) n i
  -- another's by a post of a string that fits the digest that it committed
  pub posts : (party : List ℕ) (k : ℕ) (secret digest bytes : List ℕ) (n i : ℕ) → IsEvent s (events.Post bytes)
      → contract_number (active_at (last_configuration s es).active n) ≡ k
      → digest_at (last_world s es).promises (record { contract = k; party = party; secret = secret }) ≡ Some digest
      → fits s digest bytes ≡ true → SaysAlone s es n i (requirements.Posted party secret)
      → IsMetBy s es (events.Post bytes) n i

-- after every run that doesn't halt
abbrev pub MetShownTheorem : Type 0
MetShownTheorem = (s : Setup) (es : List Event) → IsRun s es → first_halt s es ≡ None → MetShown s es
