use Rattle.std.proofs.Common.{◌+◌, ◌*◌}
use Rattle.bm_reader.proofs.predicate.+testing.Given as goal

abbrev pub decreases-test_of : goal.decreases-test_of
decreases-test_of l = 2 * l.depth

abbrev pub decreases-negation_of : goal.decreases-negation_of
decreases-negation_of l = 2 * l.depth + 1

abbrev pub decreases-conjunction_of : goal.decreases-conjunction_of
decreases-conjunction_of l = 2 * l.depth + 1
