use Rattle.std.proofs.Common.{◌+◌, ◌*◌}
use Rattle.bm_reader.proofs.branch.+reading.Given as goal

abbrev pub decreases-guarded_of : goal.decreases-guarded_of
decreases-guarded_of l = 102 * l.depth

abbrev pub decreases-allowed_of : goal.decreases-allowed_of
decreases-allowed_of l = 102 * l.depth + 1

abbrev pub decreases-auth_of : goal.decreases-auth_of
decreases-auth_of l = 102 * l.depth + 1

abbrev pub decreases-after_of : goal.decreases-after_of
decreases-after_of l = 102 * l.depth + 1

abbrev pub decreases-one_branch_of : goal.decreases-one_branch_of
decreases-one_branch_of l = 102 * l.depth + 2

abbrev pub decreases-branches_of : goal.decreases-branches_of
decreases-branches_of l = 102 * l.depth + 2 + l.more

abbrev pub decreases-choice_of : goal.decreases-choice_of
decreases-choice_of l = 102 * l.depth + 35

abbrev pub decreases-headed_of : goal.decreases-headed_of
decreases-headed_of l = 102 * l.depth + 36

abbrev pub decreases-put_of : goal.decreases-put_of
decreases-put_of l = 102 * l.depth + 37

abbrev pub decreases-reveal_of : goal.decreases-reveal_of
decreases-reveal_of l = 102 * l.depth + 37

abbrev pub decreases-parts_of : goal.decreases-parts_of
decreases-parts_of l = 102 * l.depth + 36 + l.more

abbrev pub decreases-split_of : goal.decreases-split_of
decreases-split_of l = 102 * l.depth + 101
