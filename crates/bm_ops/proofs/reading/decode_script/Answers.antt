use Rattle.std.proofs.Common.{◌≡◌, ℕ, sym, ap, ◌∙◌, arith, Some, drop}
use Rattle.std.specs.Prelude.{slice_range}
use Rattle.spec_bitcoin.specs.declared.script.Op.{Op}
use Rattle.spec_bitcoin.specs.declared.script.Op.TheVariants.{Push, Code}
use Rattle.bm_ops.proofs.ScriptLemmas.{decode_step, decode_end, decode_bad, none_left, some_left}
use Rattle.bm_ops.proofs.reading.decode_script.Goals as goal

pub returns-in-None-clause-bad : goal.returns-in-None-clause-bad
returns-in-None-clause-bad c _ =
    decode_bad c.loop-rest.ops.items c.loop-rest.rest.now _ (some_left _ c.loop-rest-test.ensures) (sym c.in-None.ensures.value) c.loop-rest.invariant

pub loop-rest-preserved-in-Some-Span : goal.loop-rest-preserved-in-Some-Span
loop-rest-preserved-in-Some-Span c =
    let found = rw c.in-Some-Span.field-0-is at c.in-Some-Span.ensures.value in
    decode_step c.loop-rest.ops.items c.push.new.self.items c.loop-rest.rest.now c.split_at.result.1.now
    (Push (slice_range c.loop-rest.rest.now c.in-Some-Span.start c.in-Some-Span.end)) _
    (sym found ∙ ap (λ l. Some (Push (slice_range c.loop-rest.rest.now c.in-Some-Span.start c.in-Some-Span.end), l)) (sym c.split_at.ensures.back))
    (rw c.in_ok-from_slice-in-Some-Span.ensures at c.in_ok-push-in-Some-Span.ensures.items)
    c.loop-rest.invariant

pub loop-rest-preserved : goal.loop-rest-preserved
loop-rest-preserved c =
    let found = rw c.in-Some-Single.field-0-is at c.in-Some-Single.ensures.value in
    decode_step c.loop-rest.ops.items c.push-in-Some-Single.new.self.items c.loop-rest.rest.now c.split_at-in-Some-Single.result.1.now
    (Code c.in-Some-Single.code) _
    (sym found ∙ ap (λ l. Some (Code c.in-Some-Single.code, l)) (sym c.split_at-in-Some-Single.ensures.back))
    c.in_ok-push-in-Some-Single.ensures.items
    c.loop-rest.invariant

pub returns-clause-ok : goal.returns-clause-ok
returns-clause-ok c = decode_end c.loop-rest.ops.items c.loop-rest.rest.now _ (none_left _ c.loop-rest-test.ensures) c.loop-rest.invariant
