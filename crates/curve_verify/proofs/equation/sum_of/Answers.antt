use Rattle.std.proofs.Common.{◌∙◌}
use Rattle.spec_curve.specs.Point.{add, multiple}
use Rattle.spec_curve.specs.Verify.{sum_of}
use Rattle.curve_field.specs.Value.{value}
use Rattle.curve_verify.proofs.equation.sum_of.Goals as goal

pub returns-clause-same : goal.returns-clause-same
unfolding sum_of
returns-clause-same c =
    c.sum.ensures.same
    ∙ (λ i. add ((c.multiple.ensures.same ∙ (λ j. multiple 256 (value c.args.u) (c.base.ensures.same j))) i) (c.multiple-2.ensures.same i))
