use Rattle.std.proofs.Common.{◌≡◌, ◌++◌, drop}
use Rattle.draw_svg.proofs.columns.put_rest.Given as goal

abbrev pub invariant-loop-width : goal.invariant-loop-width
invariant-loop-width l = l.all ++ drop l.width-index l.rest ≡ l.initial.all ++ l.rest
