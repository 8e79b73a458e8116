-- The nodes of the definitions that the nodes of code are seen as, and how many branches they have.
use Rattle.std.specs.Prelude.{ℕ, length, Option, Some, None}
use Rattle.spec_nodes.specs.Nodes as spec
use Rattle.bm_syntax.specs.View.{test}
use Rattle.bm_arena.specs.declared.node.Core.{Core}
use Rattle.bm_arena.specs.declared.node.Core.TheVariants.{PutReveal, Withdraw, Split}
use Rattle.bm_arena.specs.declared.node.Node.{Node}
use Rattle.bm_arena.specs.declared.node.Node.TheVariants.{Choice, Branch}

-- what the code says that a branch does
abbrev pub deed_view : Core → spec.Deed
deed_view (PutReveal puts reveals t next) = spec.puts_reveals puts.items reveals.items (test t) next
deed_view (Withdraw party) = spec.withdraws party
deed_view (Split parts) = spec.splits parts.items

-- the node that a `Node` is
abbrev pub node_view : Node → spec.Node
node_view (Choice position branches) = spec.choice_node position branches.items
node_view (Branch path asks lock core) = spec.branch_node path asks.items lock (deed_view core)

-- how many branches a choice's node has
abbrev pub branches_in : Option spec.Node → ℕ
branches_in None = 0
branches_in (Some (spec.choice_node position branches)) = length branches
branches_in (Some (spec.branch_node path asked height deed)) = 0
