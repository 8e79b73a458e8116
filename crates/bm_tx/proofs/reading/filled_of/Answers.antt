use Rattle.std.proofs.Common.{◌≡◌, ◌∙◌, sym, ap, arith, length}
use Rattle.std.proofs.lemmas.List.{nil_from_length}
use Rattle.std.proofs.lemmas.Result.{err_from_is_err_and}
use Rattle.bm_tx.proofs.Filled.{filled_goes_on, filled_ends, filled_done}
use Rattle.bm_tx.proofs.reading.filled_of.Goals as goal

pub overflow_sub-left : goal.overflow_sub-left
overflow_sub-left c = let n = c.loop-input.invariant.0 ∙ ap length c.in-Some.ensures.steps.0 in omega (arith, n)

pub returns-in_err-witness : goal.returns-in_err-witness
returns-in_err-witness c =
    let p = err_from_is_err_and c.from_residual.result c.from_residual.ensures.1 in
    rw (p.1, p.2) (filled_ends c.in_err-witness.field-0.0
    c.loop-input.all c.loop-input.input-iterator.rest.items c.next.new.self.rest.items c.in-Some.input c.loop-input.left c.loop-input.seen
    c.loop-input.rest.now _ c.in-Some.ensures.steps.0 c.loop-input.invariant.0 c.in_err-witness.ensures c.loop-input.invariant.1)

pub loop-input-preserved : goal.loop-input-preserved
loop-input-preserved c =
    let n = c.loop-input.invariant.0 ∙ ap length c.in-Some.ensures.steps.0 in (
      omega (arith, n),
      filled_goes_on c.loop-input.all c.push.new.self
          c.loop-input.input-iterator.rest.items c.next.new.self.rest.items c.in-Some.input c.filled.result c.loop-input.left c.loop-input.seen
          c.is_seen-seen.result c.loop-input.rest.now c.in_ok-witness.witness c.in_ok-witness.after.now _ c.in-Some.ensures.steps.0
          c.loop-input.invariant.0 c.filled.ensures c.is_seen-seen.ensures c.in_ok-push.ensures.ok c.in_ok-witness.ensures c.loop-input.invariant.1,
    )

pub returns : goal.returns
returns c =
    let none = nil_from_length c.loop-input.input-iterator.rest.items (sym c.loop-input.input-iterator.rest.ok.0 ∙ c.in-None.ensures.steps.0) in
    filled_done c.loop-input.all c.loop-input.input-iterator.rest.items c.loop-input.seen c.loop-input.rest.now _ none c.loop-input.invariant.1
