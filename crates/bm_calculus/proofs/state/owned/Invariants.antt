use Rattle.std.proofs.Common.{◌≡◌, take}
use Rattle.spec_calculus.specs.Steps.{owned}
use Rattle.bm_calculus.proofs.state.owned.Given as goal

abbrev pub invariant-loop-party : goal.invariant-loop-party
invariant-loop-party l = l.outputs.items ≡ owned (take l.party-index l.deposits)
