use Rattle.std.proofs.Common.{◌≡◌, ◌++◌, drop, map, true}
use Rattle.bm_world_commit.specs.Committed.{placed_at, are_made}
use Rattle.bm_world_commit.proofs.compiling.bound_outpoints.Given as goal

abbrev pub invariant-loop-binding : goal.invariant-loop-binding
invariant-loop-binding l = record {
  made : are_made l.coins.outputs (drop l.binding-index l.bindings) ≡ true;
  so_far : l.bound ++ map (placed_at l.coins.outputs) (drop l.binding-index l.bindings) ≡ map (placed_at l.coins.outputs) l.bindings;
}
