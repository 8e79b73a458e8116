-- What is claimed of contracts that have begun: each was endorsed before.
use Rattle.std.specs.Prelude.{◌≡◌, ℕ, List, Bool, true, false, ◌||◌, Option, Some, None}
use Rattle.std.specs.List.{list_all}
use Rattle.spec_data.specs.Lists.{has_number}
use Rattle.spec_compiler.specs.Instance.{Instance}
use Rattle.spec_compiler.specs.Endorsements.{is_endorsed}
use Rattle.spec_run.specs.declared.event.Event.{Event}
use Rattle.spec_run.specs.Setup.{Setup}
use Rattle.spec_run.specs.World.{World}
use Rattle.spec_run.specs.Compiled.{compiled_instance}
use Rattle.spec_run.specs.Translation.{last_world}
use Rattle.spec_run.specs.Statements.{Claim, HoldsThroughout, IsRun}

-- whether a contract that is compiled so has all its endorsements in the book
abbrev pub is_endorsed_so : Setup → World → Option Instance → Bool
is_endorsed_so s w None = false
is_endorsed_so s w (Some instance) = is_endorsed s.hash instance w.book

-- whether the contract of this number is compiled and endorsed
abbrev pub is_endorsed_at : Setup → World → ℕ → Bool
is_endorsed_at s w contract = is_endorsed_so s w (compiled_instance s w contract)

-- a contract that has begun after an event had begun before it, or was endorsed before it
abbrev pub StartsEndorsed : Setup → World → World → Type 0
StartsEndorsed s w next =
    (contract : ℕ) → has_number contract next.begun ≡ true → (has_number contract w.begun || is_endorsed_at s w contract) ≡ true

abbrev pub starts_endorsed : Setup → Claim
starts_endorsed s before g w t = StartsEndorsed s w t.world

-- in a run a contract begins only where it is endorsed, and stays endorsed from then on
pub record EndorsedThroughout (s : Setup) (es : List Event) : Type 0 where
  pub before : HoldsThroughout s (starts_endorsed s) es
  pub after : list_all (is_endorsed_at s (last_world s es)) (last_world s es).begun ≡ true

abbrev pub EndorsedBeforeStart : Type 0
EndorsedBeforeStart = (s : Setup) (es : List Event) → IsRun s es → EndorsedThroughout s es
