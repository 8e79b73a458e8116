use Rattle.std.proofs.Common.{◌≡◌, ◌++◌, map, drop}
use Rattle.theory_nodes.specs.Walk.{listed_scripts}
use Rattle.bm_arena.specs.NodeView.{node_view}
use Rattle.bm_compile.specs.Passes.{listed_script}
use Rattle.bm_compile.proofs.tables.position_scripts.Given as goal

abbrev pub invariant-loop-number : goal.invariant-loop-number
invariant-loop-number l =
    let script = listed_script l.scripts in
    l.made ++ listed_scripts script l.number (map node_view (drop l.number l.nodes)) ≡ listed_scripts script 0 (map node_view l.nodes)
