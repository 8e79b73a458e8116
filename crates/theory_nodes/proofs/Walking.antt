-- A walk over the nodes makes the transactions of the term, by the key plan.
use Rattle.std.proofs.Common.{◌≡◌, ℕ, List, ◌∷◌, ◌++◌}
use Rattle.spec_compiler.specs.Keyed.Keys.{by_plan}
use Rattle.spec_compiler.specs.Instance.{Instance}
use Rattle.spec_nodes.specs.Nodes.{Node}
use Rattle.theory_nodes.specs.declared.waiting.Waiting.{Waiting}
use Rattle.theory_nodes.specs.Walk.{walk, next_stack, made_by, NodesGiveTransactions, NodesGivePaths, NodesGiveScripts}
use Rattle.theory_nodes.proofs.Keyed.Walking as keyed

pub transactions_walked : NodesGiveTransactions
transactions_walked hash = keyed.transactions_walked hash by_plan

pub paths_listed : NodesGivePaths
paths_listed hash = keyed.paths_listed hash by_plan

pub scripts_listed : NodesGiveScripts
scripts_listed hash = keyed.scripts_listed hash by_plan

-- one node, and then the others
pub walk-step : (hash : List ℕ → List ℕ) (s : Instance) (script : ℕ → List ℕ) (n : Node) (ns : List Node) (stack : List Waiting)
    → walk hash s script (n ∷ ns) stack ≡ made_by hash s script n stack ++ walk hash s script ns (next_stack hash s script n stack)
walk-step hash = keyed.walk-step hash by_plan
