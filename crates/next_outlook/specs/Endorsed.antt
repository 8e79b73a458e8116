-- The endorsements that a contract waits for, compiled or not.
use Rattle.std.specs.Prelude.{ℕ, List, map, Option}
use Rattle.spec_compiler.specs.Instance.{Instance}
use Rattle.spec_run.specs.Setup.{Setup}
use Rattle.spec_run.specs.World.{World}
use Rattle.spec_next.specs.declared.requirement.Requirement.TheVariants as requirements
use Rattle.spec_next.specs.Candidates.{has_endorsed}
use Rattle.spec_next.specs.Requirements.{Condition}

-- each of these people has signed all that it endorses
abbrev pub endorsed_by : Setup → World → ℕ → Option Instance → List (List ℕ) → List Condition
endorsed_by s w k instance people = map (λ party. (has_endorsed s w instance party, requirements.Endorsement party k)) people
