use Rattle.std.proofs.Common.{◌≡◌, drop, map}
use Rattle.spec_bitcoin.specs.Live.{without}
use Rattle.bm_ledger.proofs.outputs.remove_spent.Given as goal

abbrev pub invariant-loop-k : goal.invariant-loop-k
invariant-loop-k l = without l.live (map (λ i. i.prev) (drop l.k l.inputs)) ≡ without l.fn.live (map (λ i. i.prev) l.inputs)
