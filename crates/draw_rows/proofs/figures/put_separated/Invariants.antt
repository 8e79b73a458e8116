use Rattle.std.proofs.Common.{◌≡◌, ◌++◌, length}
use Rattle.spec_page.specs.Figures.{separated}
use Rattle.draw_rows.proofs.figures.put_separated.Given as goal

abbrev pub invariant-loop-digit : goal.invariant-loop-digit
invariant-loop-digit l =
    l.out.items ++ separated l.rest ≡ l.initial.out.items ++ separated l.initial.rest

abbrev pub decreases-loop-digit : goal.decreases-loop-digit
decreases-loop-digit l = length l.rest
