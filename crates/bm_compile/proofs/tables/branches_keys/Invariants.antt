use Rattle.std.proofs.Common.{◌≡◌, ◌++◌, map}
use Rattle.bm_arena.specs.NodeView.{node_view}
use Rattle.bm_compile.specs.Numbered.{keys_of_branches}
use Rattle.bm_compile.proofs.tables.branches_keys.Given as goal

-- what is there, and those of the rest, are all
abbrev pub invariant-loop-keys : goal.invariant-loop-keys
invariant-loop-keys l =
    l.made ++ keys_of_branches (map node_view l.rest) l.keys-iterator.rest.items ≡ keys_of_branches (map node_view l.nodes) l.fn.table
