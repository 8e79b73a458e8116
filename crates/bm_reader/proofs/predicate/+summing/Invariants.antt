use Rattle.std.proofs.Common.{◌+◌, ◌*◌}
use Rattle.bm_reader.proofs.predicate.+summing.Given as goal

abbrev pub decreases-formula_of : goal.decreases-formula_of
decreases-formula_of l = 2 * l.depth

abbrev pub decreases-sum_of : goal.decreases-sum_of
decreases-sum_of l = 2 * l.depth + 1
