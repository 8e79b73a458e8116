use Rattle.std.proofs.Common.{◌++◌, ◌∙◌}
use Rattle.std.proofs.lemmas.Result.{IfOk-weaker}
use Rattle.deal_missing.proofs.Told.{ready_is}
use Rattle.deal_missing.proofs.ready.ready_text.Goals as goal

pub returns : goal.returns
returns c = λ hash keys s strings warned are.
    let given = c.args.given.now in
    let transactions = c.args.transactions.now in
    IfOk-weaker c.ready_of.result _ _
    (λ _ e. e ∙ (λ j. warned j ++ ready_is hash keys given s transactions are j)) c.ready_of.ensures
