use Rattle.std.proofs.Common.{ap, ◌∙◌}
use Rattle.spec_bitcoin.specs.declared.tx.TxOut.{TxOut}
use Rattle.bm_world_board.specs.declared.accounts.Account.{Account}
use Rattle.bm_world_spend.proofs.gifts.output_to.Goals as goal

pub returns : goal.returns
returns c = λ s same.
    c.in_ok-paid.ensures ∙ ap {B = TxOut} (λ (a : Account). record { value = c.args.output.now.1; script = a.pays })
    (c.declared_account-account.ensures s.hash s.header.parties same)
