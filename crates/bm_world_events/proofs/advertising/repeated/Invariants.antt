use Rattle.std.proofs.Common.{◌≡◌, ℕ, List, [], drop, take, map}
use Rattle.spec_run.specs.Advertising.{repeated}
use Rattle.bm_world_events.proofs.advertising.repeated.Given as goal

abbrev pub invariant-loop-k : goal.invariant-loop-k
invariant-loop-k l = repeated (map (λ (b : List ℕ × ℕ). b.1) (take l.k l.bindings)) (drop l.k l.bindings) ≡ repeated [] l.bindings
