use Rattle.std.proofs.Common.{◌≡◌, ◌++◌, drop, map}
use Rattle.bm_arena.specs.NodeView.{node_view}
use Rattle.bm_honest.specs.Seen.{AreSeen}
use Rattle.bm_honest.specs.Pairs.{pairs_of_paths}
use Rattle.bm_honest.proofs.endorsing.pairs_by_paths.Given as goal

-- the pairs so far and those of the rest are all
abbrev pub invariant-loop-path : goal.invariant-loop-path
invariant-loop-path g l = record {
  nodes : AreSeen l.checked.root (map node_view l.nodes);
  pairs : l.pairs.items ++ pairs_of_paths (g.H.Hash32.digest_of l.hash) l.checked l.party (drop l.path-index l.paths) l.rest
      ≡ pairs_of_paths (g.H.Hash32.digest_of l.hash) l.checked l.party l.paths l.table;
}
