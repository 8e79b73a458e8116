use Rattle.std.proofs.Common.{◌≡◌, ◌%◌, ◌∙◌, ap, sym, arith}
use Rattle.spec_curve.specs.Field.{field_prime, minus}
use Rattle.curve_field.specs.Value.{value}
use Rattle.curve_key.proofs.Points.{sign_kept, sign_turned}
use Rattle.curve_key.proofs.key.of_sign.Goals as goal

pub returns-then-is_odd-sign-clause-same : goal.returns-then-is_odd-sign-clause-same
returns-then-is_odd-sign-clause-same c =
    let alike : value c.args.y % 2 ≡ c.args.sign % 2 = grind arith in
    sym (sign_kept c.args.sign (value c.args.y) alike)

pub returns-else-is_odd-sign-clause-same : goal.returns-else-is_odd-sign-clause-same
returns-else-is_odd-sign-clause-same c =
    let other : value c.args.y % 2 ≡ c.args.sign % 2 → ⊥ = grind arith in
    c.subtract.ensures.same ∙ (ap (λ z. minus field_prime z (value c.args.y)) c.small.ensures ∙ sym (sign_turned c.args.sign (value c.args.y) other))
