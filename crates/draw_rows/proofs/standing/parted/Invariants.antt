use Rattle.std.proofs.Common.{◌≡◌, length}
use Rattle.spec_page.specs.Statuses.{parted}
use Rattle.draw_rows.proofs.standing.parted.Given as goal

abbrev pub invariant-loop-a : goal.invariant-loop-a
invariant-loop-a l = parted l.left l.right ≡ parted l.initial.left l.initial.right

abbrev pub decreases-loop-a : goal.decreases-loop-a
decreases-loop-a l = length l.left
