use Rattle.std.proofs.Common.{◌≡◌, ◌++◌, drop, map}
use Rattle.std.specs.List.{flat_map}
use Rattle.bm_arena.specs.NodeView.{node_view}
use Rattle.deal_payees.specs.Paid.{node_paid}
use Rattle.deal_payees.proofs.withdraws.put_nodes.Given as goal

abbrev pub invariant-loop-node : goal.invariant-loop-node
invariant-loop-node l =
    l.out.items ++ flat_map node_paid (map node_view (drop l.node-index l.nodes))
    ≡ l.initial.out.items ++ flat_map node_paid (map node_view l.nodes)
