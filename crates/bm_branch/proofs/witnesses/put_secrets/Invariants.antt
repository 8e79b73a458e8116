use Rattle.std.specs.Prelude.{◌≡◌, ◌++◌, reverse, length}
use Rattle.bm_branch.proofs.witnesses.put_secrets.Given as goal

abbrev pub invariant-loop-secret : goal.invariant-loop-secret
invariant-loop-secret l = l.stack.items ++ reverse l.rest ≡ l.initial.stack.items ++ reverse l.secrets

abbrev pub decreases-loop-secret : goal.decreases-loop-secret
decreases-loop-secret l = length l.rest
