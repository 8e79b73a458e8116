use Rattle.std.proofs.Common.{ℕ, ◌∙◌, ap, ap₂}
use Rattle.spec_curve.specs.Field.{field_prime, plus, times}
use Rattle.spec_curve.specs.Key.{square_at}
use Rattle.curve_field.specs.Value.{value}
use Rattle.curve_key.proofs.key.square_at.Goals as goal

pub returns-clause-same : goal.returns-clause-same
unfolding square_at
returns-clause-same c =
    let x : ℕ = value c.args.x in
    let cube = c.multiply-cube.ensures.same ∙ ap (λ z. times field_prime x z) c.multiply-square.ensures.same in
    c.add.ensures.same ∙ ap₂ (λ a b. plus field_prime a b) cube c.small.ensures
