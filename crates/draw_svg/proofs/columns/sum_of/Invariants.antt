use Rattle.std.proofs.Common.{◌≡◌, ◌+◌, drop}
use Rattle.std.specs.Prelude.{sum_by}
use Rattle.draw_svg.proofs.columns.sum_of.Given as goal

abbrev pub invariant-loop-width : goal.invariant-loop-width
invariant-loop-width l = l.sum + sum_by (λ w. w) (drop l.width-index l.widths) ≡ sum_by (λ w. w) l.widths
