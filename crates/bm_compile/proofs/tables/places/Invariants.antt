use Rattle.std.proofs.Common.{◌≡◌, ◌≤◌, ◌++◌, map, drop}
use Rattle.bm_arena.specs.NodeView.{node_view}
use Rattle.bm_compile.specs.Numbered.{places_from}
use Rattle.bm_compile.proofs.tables.places.Given as goal

abbrev pub invariant-loop-node : goal.invariant-loop-node
invariant-loop-node l = record {
  few : l.next ≤ l.node-index;
  places : l.places ++ places_from l.branch l.next (map node_view (drop l.node-index l.nodes)) ≡ places_from l.branch 0 (map node_view l.nodes);
}
