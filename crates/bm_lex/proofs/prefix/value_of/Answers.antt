use Rattle.std.proofs.Common.{◌^◌, sym, ◌∙◌, arith}
use Rattle.bm_lex.proofs.Values.{stays_great}
use Rattle.bm_lex.proofs.prefix.value_of.Goals as goal

pub returns-then-value-ge18446744073709551616 : goal.returns-then-value-ge18446744073709551616
returns-then-value-ge18446744073709551616 c =
    sym (sym c.loop-digit.invariant.told ∙ stays_great (2 ^ 64) c.loop-digit.value c.args.digits.now c.loop-digit.digit-index (omega arith)
    (omega (arith, c.saturating_sub.ensures, c.if-value-ge18446744073709551616.true)))
