use Rattle.std.proofs.Common.{◌≡◌, ◌++◌, drop}
use Rattle.bm_calculus.specs.Agreed.{agreed}
use Rattle.bm_calculus.proofs.moves.agreed.Given as goal

abbrev pub invariant-loop-a : goal.invariant-loop-a
invariant-loop-a l = l.parties.items ++ agreed (drop l.a-index l.authorised) l.action ≡ agreed l.authorised l.action
