use Rattle.std.proofs.Common.{◌∙◌}
use Rattle.bm_compile.proofs.Indexing.{transaction_there}
use Rattle.bm_compile.proofs.compiled.Compiled.transaction_at.Goals as goal

pub returns-in-Some-clause-by_list : goal.returns-in-Some-clause-by_list
returns-in-Some-clause-by_list c =
    c.transaction.ensures.by_node
    ∙ transaction_there c.args.self.now.paths c.args.path.now c.args.self.now.nodes c.in-Some.number c.in-Some.ensures

pub returns-in-Some-clause-compiled : goal.returns-in-Some-clause-compiled
returns-in-Some-clause-compiled c = λ hash s is.
    returns-in-Some-clause-by_list c ∙ (rw is (c.paths_are_listed.ensures hash s c.args.path.now))
