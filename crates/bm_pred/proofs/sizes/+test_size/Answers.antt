use Rattle.bm_syntax.specs.View.{test}
use Rattle.bm_syntax.proofs.Views.{test-And}
use Rattle.bm_pred.proofs.Deep.{test_size_capped}
use Rattle.bm_pred.proofs.HeldLemmas.{held_operation}
use Rattle.bm_pred.proofs.sizes.+test_size.Goals as goal

pub returns-in-And : goal.returns-in-And
returns-in-And t c =
    let first = rw c.deref.ensures at c.test_size.ensures in
    let second = rw (c.deeper.ensures, c.deref-in-And.ensures, test_size_capped c.args.reveals.now c.args.depth (test c.in-And.q.value)) at c.test_size-in-And.ensures in
    rw (c.in-And.is, test-And c.in-And.p c.in-And.q) (held_operation _ _ _ _ _ first second c.operation.ensures.bytes c.operation.ensures.operations)
