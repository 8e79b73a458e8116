use Rattle.bm_auto.specs.Extending.{Between}
use Rattle.bm_auto.proofs.Steps.{lent}
use Rattle.bm_auto.proofs.extending.extend.Given as goal

abbrev pub invariant-loop : goal.invariant-loop
invariant-loop g l = Between g.H.Hash32.digest_of l.initial.world l.world l.rules (lent l.left.items) l.events.items l.counter
