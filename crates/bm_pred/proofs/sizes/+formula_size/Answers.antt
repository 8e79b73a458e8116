use Rattle.bm_syntax.specs.View.{formula}
use Rattle.bm_syntax.proofs.Views.{formula-Plus, formula-Minus}
use Rattle.bm_pred.proofs.Deep.{formula_size_capped}
use Rattle.bm_pred.proofs.HeldLemmas.{held_operation}
use Rattle.bm_pred.proofs.sizes.+formula_size.Goals as goal

pub returns-in-Plus : goal.returns-in-Plus
returns-in-Plus t c =
    let first = rw c.deref.ensures at c.formula_size.ensures in
    let second = rw (c.deeper.ensures, c.deref-in-Plus.ensures, formula_size_capped c.args.reveals.now c.args.depth (formula c.in-Plus.f.value)) at c.formula_size-in-Plus.ensures in
    rw (c.in-Plus.is, formula-Plus c.in-Plus.e c.in-Plus.f) (held_operation _ _ _ _ _ first second c.operation.ensures.bytes c.operation.ensures.operations)

pub returns-in-Minus : goal.returns-in-Minus
returns-in-Minus t c =
    let first = rw c.deref-in-Minus.ensures at c.formula_size-in-Minus.ensures in
    let second = rw (c.deeper-in-Minus.ensures, c.deref-in-Minus-2.ensures, formula_size_capped c.args.reveals.now c.args.depth (formula c.in-Minus.f.value)) at c.formula_size-in-Minus-2.ensures in
    rw (c.in-Minus.is, formula-Minus c.in-Minus.e c.in-Minus.f) (held_operation _ _ _ _ _ first second c.operation-in-Minus.ensures.bytes c.operation-in-Minus.ensures.operations)
