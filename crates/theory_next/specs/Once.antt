-- What is claimed of the list of candidates: each stands in it once.
use Rattle.std.specs.Prelude.{List, [], ◌∷◌}
use Rattle.std.specs.List.{Contains}
use Rattle.spec_run.specs.declared.event.Event.{Event}
use Rattle.spec_run.specs.Setup.{Setup}
use Rattle.spec_run.specs.Translation.{last_configuration, last_world}
use Rattle.spec_run.specs.Statements.{IsRun}
use Rattle.spec_next.specs.Candidates.{all_candidates}

-- no event stands again after itself
abbrev pub EachOnce : List Event → Type 0
EachOnce [] = Unit {0}
EachOnce (e ∷ es) = (Contains es e → ⊥) × EachOnce es

-- after every run
abbrev pub CandidatesStandOnce : Type 0
CandidatesStandOnce = (s : Setup) (es : List Event) → IsRun s es → EachOnce (all_candidates s (last_configuration s es) (last_world s es))
