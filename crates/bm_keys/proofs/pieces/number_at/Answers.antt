use Rattle.std.proofs.Common.{sym, ◌∙◌, arith}
use Rattle.bm_keys.proofs.NumberAt.{count_within, number_is, no_number}
use Rattle.bm_keys.proofs.pieces.number_at.Goals as goal

pub split_at-requires : goal.split_at-requires
split_at-requires c = let h = count_within c.args.text.now in let e = c.digit_count.ensures in omega arith

pub returns-in_err-number-clause-none : goal.returns-in_err-number-clause-none
returns-in_err-number-clause-none c =
    rw c.from_residual.ensures (no_number c.args.text.now c.split_at.result.0.now (rw c.digit_count.ensures at c.split_at.ensures.front)
    (sym c.small_number.ensures ∙ c.in_err-number.was))

pub returns-clause-some : goal.returns-clause-some
returns-clause-some c =
    number_is c.args.text.now c.split_at.result.0.now c.split_at.result.1.now c.in_ok-number.number
    (rw c.digit_count.ensures at c.split_at.ensures.front) (rw c.digit_count.ensures at c.split_at.ensures.back)
    (sym c.small_number.ensures ∙ c.in_ok-number.was)
