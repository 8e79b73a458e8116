use Rattle.std.proofs.Common.{◌≡◌, drop}
use Rattle.spec_terms.specs.Paths.{subterm_from, position}
use Rattle.bm_syntax.specs.SubtermView.{subterm}
use Rattle.bm_syntax.specs.View.{contract}
use Rattle.bm_syntax.proofs.walk.follow.Given as goal

abbrev pub invariant-loop-step : goal.invariant-loop-step
invariant-loop-step l = subterm_from (subterm l.place) (drop l.step-index l.step-items) ≡ subterm_from (position (contract l.fn.root)) l.path
