use Rattle.std.proofs.Common.{◌≡◌, ℕ, List, ◌++◌, map, drop, true}
use Rattle.std.specs.Prelude.{slice_get}
use Rattle.std.specs.List.{list_all}
use Rattle.spec_bitcoin.specs.Meaning.{is_short_push}
use Rattle.spec_compiler.specs.Keyed.Keys.{Keys}
use Rattle.spec_compiler.specs.Scripts.{branch_ops}
use Rattle.theory_nodes.specs.Keyed.Walk.{node_demands}
use Rattle.bm_arena.specs.NodeView.{node_view}
use Rattle.bm_compile.specs.Passes.{keys_of_node}
use Rattle.bm_compile.proofs.scripting.choice_script.Given as goal

abbrev pub invariant-loop-number : goal.invariant-loop-number
invariant-loop-number l = record {
  made : (hash : List ℕ → List ℕ) (all : Keys) → l.keys ≡ map (λ node. keys_of_node hash all l.setting (node_view node)) l.nodes →
      map (λ ops. ops.items) l.ops.items ++ map (λ m. branch_ops (node_demands hash all l.setting (slice_get (map node_view l.nodes) m)))
      (drop l.number-index l.branches)
      ≡ map (λ m. branch_ops (node_demands hash all l.setting (slice_get (map node_view l.nodes) m))) l.branches;
  short : list_all (λ ops. list_all is_short_push ops.items) l.ops.items ≡ true;
}
