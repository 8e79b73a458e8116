use Rattle.std.proofs.Common.{◌≡◌, [], ◌∷◌, map, drop}
use Rattle.std.specs.Prelude.{reverse}
use Rattle.theory_nodes.specs.Keyed.Walk.{walk}
use Rattle.bm_arena.specs.NodeView.{node_view}
use Rattle.bm_compile.specs.Keyed.Detailed.{kept_of}
use Rattle.bm_compile.specs.Passes.{listed_script, ready_strings}
use Rattle.bm_compile.proofs.Walks.{Walked}
use Rattle.bm_compile.proofs.walking.prepare_nodes.Given as goal

abbrev pub invariant-loop-node : goal.invariant-loop-node
invariant-loop-node g l =
    let hash = g.H.Hash32.digest_of l.fn.trail.hasher in
    let keys = g.K.KeySource.keys l.source in
    let script = listed_script l.scripts in
    record {
      hasher : l.trail.hasher ≡ l.fn.trail.hasher;
      walked : Walked (kept_of g.M.Kept.kept hash) (ready_strings hash) hash l.fn.trail.messages l.trail.messages
          (walk hash keys l.setting script (map node_view l.nodes) (l.fn.root ∷ []))
          (walk hash keys l.setting script (map node_view (drop l.node-index l.nodes)) (reverse l.stack.items))
          l.made;
    }
