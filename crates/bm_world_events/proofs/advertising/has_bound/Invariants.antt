use Rattle.std.proofs.Common.{◌≡◌, ℕ, List, drop, map}
use Rattle.spec_data.specs.Lists.{has_number}
use Rattle.bm_world_events.proofs.advertising.has_bound.Given as goal

abbrev pub invariant-loop-binding : goal.invariant-loop-binding
invariant-loop-binding l =
    has_number l.number (map (λ (b : List ℕ × ℕ). b.1) (drop l.binding-index l.bindings)) ≡ has_number l.number (map (λ (b : List ℕ × ℕ). b.1) l.bindings)
