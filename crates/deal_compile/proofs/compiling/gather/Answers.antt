use Rattle.std.proofs.Common.{◌∙◌}
use Rattle.deal_compile.specs.Parts.{transactions_by}
use Rattle.deal_compile.proofs.Whole.{same_transactions}
use Rattle.deal_compile.proofs.compiling.gather.Goals as goal

pub returns-clause-transactions : goal.returns-clause-transactions
returns-clause-transactions g c deal keys made =
    let hash = g.H.Hash32.digest_of c.args.hasher.now in
    c.in_ok-transactions.ensures ∙ (λ j. transactions_by hash (keys j) c.args.checked.now (made j)) ∙ same_transactions hash c.args.checked.now deal
