use Rattle.std.proofs.Common.{ap, ◌∙◌}
use Rattle.spec_bitcoin.specs.declared.tx.TxOut.{TxOut}
use Rattle.bm_world_board.specs.declared.accounts.Account.{Account}
use Rattle.bm_world_opening.proofs.opening.output_of.Goals as goal

pub returns : goal.returns
returns c = λ hash parties same.
    c.in_ok-output.ensures ∙ ap {B = TxOut} (λ (a : Account). record { value = c.args.deposit.now.1; script = a.pays })
    (c.declared_account-account.ensures hash parties same)
