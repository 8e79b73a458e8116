use Rattle.std.proofs.Common.{◌≡◌, ℕ, ◌∙◌, ap, sym, arith, rules, Some}
use Rattle.spec_curve.specs.Field.{field_prime, times, root}
use Rattle.spec_curve.specs.Point.{at}
use Rattle.spec_curve.specs.Key.{square_at, of_sign}
use Rattle.curve_field.specs.Value.{value}
use Rattle.curve_key.proofs.Points.{point_rooted, point_rootless}
use Rattle.curve_key.proofs.key.point_at.Goals as goal

pub returns-then-is_equal-clause-same : goal.returns-then-is_equal-clause-same
returns-then-is_equal-clause-same c =
    let x : ℕ = value c.args.x in
    let sign : ℕ = c.args.sign in
    let root_is : value c.root-y.result ≡ root field_prime (square_at x) = c.root-y.ensures.same ∙ ap (λ z. root field_prime z) c.square_at-square.ensures.same in
    let equal : value c.multiply-tried.result ≡ value c.square_at-square.result = first_of (search rules, grind arith) in
    let tried : times field_prime (root field_prime (square_at x)) (root field_prime (square_at x)) ≡ square_at x =
    ap (λ z. times field_prime z z) (sym root_is) ∙ (sym c.multiply-tried.ensures.same ∙ (equal ∙ c.square_at-square.ensures.same)) in
    let second : value c.of_sign.result ≡ of_sign sign (root field_prime (square_at x)) = c.of_sign.ensures.same ∙ ap (λ z. of_sign sign z) root_is in
    ap (λ z. Some (at x z)) second ∙ sym (point_rooted sign x tried)

pub returns-else-is_equal-clause-same : goal.returns-else-is_equal-clause-same
returns-else-is_equal-clause-same c =
    let x : ℕ = value c.args.x in
    let root_is : value c.root-y.result ≡ root field_prime (square_at x) = c.root-y.ensures.same ∙ ap (λ z. root field_prime z) c.square_at-square.ensures.same in
    let apart : value c.multiply-tried.result ≡ value c.square_at-square.result → ⊥ = first_of (search rules, grind arith) in
    let tried : times field_prime (root field_prime (square_at x)) (root field_prime (square_at x)) ≡ square_at x → ⊥ =
    λ e. apart (c.multiply-tried.ensures.same ∙ (ap (λ z. times field_prime z z) root_is ∙ (e ∙ sym c.square_at-square.ensures.same))) in
    sym (point_rootless c.args.sign x tried)
