use Rattle.std.proofs.Common.{◌≡◌, drop, map}
use Rattle.bm_arena.specs.NodeView.{node_view}
use Rattle.bm_honest.specs.Gates.{gate_of_paths}
use Rattle.bm_honest.specs.Seen.{AreSeen}
use Rattle.bm_honest.proofs.gate.gate_by_paths.Given as goal

-- the gate of the paths that are left is that of all
abbrev pub invariant-loop-path : goal.invariant-loop-path
invariant-loop-path g l = record {
  nodes : AreSeen l.checked.root (map node_view l.nodes);
  gate : gate_of_paths (g.H.Hash32.digest_of l.hash) l.book l.checked (drop l.path-index l.paths) l.rest
      ≡ gate_of_paths (g.H.Hash32.digest_of l.hash) l.book l.checked l.paths l.table;
}
