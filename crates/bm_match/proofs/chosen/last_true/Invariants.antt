use Rattle.std.proofs.Common.{◌≡◌, ◌≤◌, ◌-◌, length}
use Rattle.std.specs.Prelude.{take, reverse}
use Rattle.spec_compiler.specs.Witness.{first_true}
use Rattle.bm_match.proofs.chosen.last_true.Given as goal

-- what is left chooses what all choose
abbrev pub invariant-loop-item : goal.invariant-loop-item
invariant-loop-item l = record {
  within : l.place ≤ l.most;
  chooses : first_true l.place l.most (take (l.most - l.place) (reverse l.rest)) ≡ first_true 0 l.most (take l.most (reverse l.items));
}

abbrev pub decreases-loop-item : goal.decreases-loop-item
decreases-loop-item l = length l.rest
