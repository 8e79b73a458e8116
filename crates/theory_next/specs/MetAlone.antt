-- What is claimed of what is missing for a branch: where one thing alone is missing and is met, the branch can be taken.
use Rattle.std.specs.Prelude.{◌≡◌, ℕ, ◌++◌, List, [], ◌∷◌, None, true, nat_le}
use Rattle.std.specs.List.{Contains}
use Rattle.spec_data.specs.Ranges.{last_height}
use Rattle.spec_run.specs.declared.event.Event.{Event}
use Rattle.spec_run.specs.declared.event.Event.TheVariants as events
use Rattle.spec_run.specs.Setup.{Setup, is_declared}
use Rattle.spec_run.specs.Translation.{last_configuration, last_world, first_halt}
use Rattle.spec_run.specs.Statements.{IsRun}
use Rattle.spec_next.specs.declared.requirement.Requirement.{Requirement}
use Rattle.spec_next.specs.declared.requirement.Requirement.TheVariants as requirements
use Rattle.spec_next.specs.declared.outlook.Ruling.TheVariants as rulings
use Rattle.spec_next.specs.Prospects.{ruling}
use Rattle.spec_next.specs.Requirements.{requirements_of}
use Rattle.theory_next.specs.Ready.{CanUnlessHalts}

-- it stands in the list, and nothing else does
pub record IsAlone (x : Requirement) (required : List Requirement) : Type 0 where
  pub there : Contains required x
  pub alone : (y : Requirement) → Contains required y → y ≡ x

-- this alone is missing after a run for the branch to be taken
abbrev pub AloneOutstanding : Setup → List Event → ℕ → ℕ → Requirement → Type 0
AloneOutstanding s es n i x = IsAlone x (requirements_of s (last_configuration s es) (last_world s es) (events.Fire n i))

-- the event can come after the run; it makes a longer run, which doesn't halt, and after which the branch can be taken
pub record TurnsAround (s : Setup) (es : List Event) (e : Event) (n i : ℕ) : Type 0 where
  pub can : ruling s (last_world s es) e ≡ rulings.Can
  pub is_run : IsRun s (es ++ e ∷ [])
  pub goes_on : first_halt s (es ++ e ∷ []) ≡ None
  pub comes : CanUnlessHalts s (last_world s (es ++ e ∷ [])) (events.Fire n i)

pub record MetAlone (s : Setup) (es : List Event) : Type 0 where
  -- an authorisation is met by the party's own event
  pub authorisation : (party : List ℕ) (n i : ℕ) → is_declared s party ≡ true
      → AloneOutstanding s es n i (requirements.Authorisation party n i) → TurnsAround s es (events.Authorise party n i) n i
  -- a height, if it can be reached, by the blocks that are said to lead to it
  pub height : (t blocks n i : ℕ) → nat_le t last_height ≡ true
      → AloneOutstanding s es n i (requirements.Height t blocks) → TurnsAround s es (events.Mine blocks) n i

-- after every run that doesn't halt
abbrev pub MetAloneTheorem : Type 0
MetAloneTheorem = (s : Setup) (es : List Event) → IsRun s es → first_halt s es ≡ None → MetAlone s es
