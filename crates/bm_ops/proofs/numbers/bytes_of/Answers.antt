use Rattle.std.proofs.Common.{arith}
use Rattle.bm_ops.proofs.NumberLemmas.{byte_more, byte_end}
use Rattle.bm_ops.proofs.numbers.bytes_of.Goals as goal

pub loop-preserved : goal.loop-preserved
loop-preserved c = byte_more _ _ _ c.loop.counter c.loop.rest _ c.loop-test.true c.if-rest-lt128.false c.in_ok-push-2.ensures.items c.loop.invariant

pub returns : goal.returns
returns c = byte_end _ _ c.loop.counter c.loop.rest _ c.loop-test.false c.loop.invariant
