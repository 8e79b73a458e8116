use Rattle.std.proofs.Common.{◌∙◌}
use Rattle.bm_honest.proofs.Nodes.{all_seen}
use Rattle.bm_honest.proofs.branches.first_nodes.Goals as goal

pub returns : goal.returns
returns c = c.from_branch.ensures c.args.checked.now.root (all_seen c.args.checked.now.root _ (c.nodes.ensures ∙ c.requires))
