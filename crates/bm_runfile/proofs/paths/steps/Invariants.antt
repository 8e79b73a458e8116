use Rattle.std.proofs.Common.{◌≡◌, length}
use Rattle.spec_text.specs.Words.{steps}
use Rattle.bm_runfile.specs.Gives.{behind}
use Rattle.bm_runfile.proofs.paths.steps.Given as goal

abbrev pub invariant-loop-rest : goal.invariant-loop-rest
invariant-loop-rest l = behind l.list.items (steps l.rest) ≡ steps l.bytes

abbrev pub decreases-loop-rest : goal.decreases-loop-rest
decreases-loop-rest l = length l.rest
