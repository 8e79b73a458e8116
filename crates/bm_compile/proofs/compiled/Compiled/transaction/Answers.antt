use Rattle.bm_compile.specs.Numbered.{value_at, transaction_of}
use Rattle.bm_compile.proofs.Indexing.{same_found, transaction_found}
use Rattle.std.proofs.Common.{◌∙◌}
use Rattle.bm_compile.proofs.compiled.Compiled.transaction.Goals as goal

pub returns-clause-by_node : goal.returns-clause-by_node
returns-clause-by_node c =
    rw (← c.self.view_is) (rw (c.as_slice.ensures, c.as_slice-2.ensures) at c.entry.ensures
    ∙ same_found (value_at c.self.inside.paths) (transaction_of c.self.inside.paths) c.self.inside.branches c.self.inside.arena
    c.args.number c.self.invariant.transactions)

pub returns-clause-compiled : goal.returns-clause-compiled
returns-clause-compiled c hash s is = returns-clause-by_node c ∙ transaction_found hash s c.args.self.now is c.args.number c.paths_are_listed.ensures
