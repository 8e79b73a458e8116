use Rattle.bm_honest.proofs.branches.next_nodes.Goals as goal

pub returns : goal.returns
returns c = c.from_branch.ensures c.args.checked.now.root (c.after_first.ensures c.args.checked.now.root c.requires)
