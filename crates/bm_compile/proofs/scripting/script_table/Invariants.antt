use Rattle.std.proofs.Common.{◌≡◌, ◌++◌, map, take, drop}
use Rattle.std.specs.List.{flat_map}
use Rattle.bm_hash.specs.Trails.{Hashed}
use Rattle.bm_arena.specs.NodeView.{node_view}
use Rattle.bm_compile.specs.Passes.{script_of_node, scripts_of_node}
use Rattle.bm_compile.proofs.scripting.script_table.Given as goal

abbrev pub invariant-loop-node : goal.invariant-loop-node
invariant-loop-node g l =
    let hash = g.H.Hash32.digest_of l.fn.trail.hasher in
    let keys = g.K.KeySource.keys l.source in
    let all = map node_view l.nodes in
    record {
      hasher : l.trail.hasher ≡ l.fn.trail.hasher;
      scripts : l.scripts ++ map (λ node. script_of_node hash keys l.setting all (node_view node)) (drop l.node-index l.nodes)
          ≡ map (λ node. script_of_node hash keys l.setting all (node_view node)) l.nodes;
      trail : Hashed hash l.fn.trail.messages l.trail.messages
          (flat_map (λ node. scripts_of_node hash keys l.setting all (node_view node)) (take l.node-index l.nodes));
    }
