use Rattle.std.proofs.Common.{sym, ◌∙◌, ◌^◌, arith}
use Rattle.bm_text.proofs.DecimalLemmas.{below-next}
use Rattle.bm_text.proofs.decimals.value_of.Goals as goal

pub returns-then-next : goal.returns-then-next
returns-then-next c =
    let great = below-next (2 ^ 64) c.loop-byte.value c.args.digits.now c.loop-byte.byte-index (omega (arith, c.loop-byte-test.true)) (omega (arith, c.if-next.true)) in
    sym great ∙ c.loop-byte.invariant.told
