use Rattle.std.proofs.Common.{◌≡◌, ◌++◌, drop}
use Rattle.spec_run.specs.Firing.{witnessed}
use Rattle.bm_tx_filled.proofs.filling.witnessed.Given as goal

-- what is there, and what is left, are the whole
abbrev pub invariant-loop-k : goal.invariant-loop-k
invariant-loop-k l = l.new ++ witnessed (drop l.k l.inputs) (drop l.k l.witnesses) ≡ witnessed l.inputs l.witnesses
