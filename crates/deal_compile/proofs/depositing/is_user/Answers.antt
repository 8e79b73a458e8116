use Rattle.std.proofs.Common.{◌∙◌, sym, ap, subst}
use Rattle.std.specs.Prelude.{is_some}
use Rattle.spec_data.specs.Lists.{look_up}
use Rattle.deal_payees.specs.Brought.{AreBrought}
use Rattle.deal_payees.proofs.UsedLemmas.{found_among}
use Rattle.deal_compile.specs.Keyed.{keys_of}
use Rattle.deal_compile.proofs.Under.{some_mapped}
use Rattle.deal_compile.proofs.depositing.is_user.Goals as goal

pub returns : goal.returns
returns c =
    let held = c.args.keys.now in
    let brought : AreBrought (keys_of held) c.args.brought.now =
    subst (AreBrought (keys_of held)) (sym c.requires.brought) (λ name. found_among name held.own.deposits) in
    c.uses_key.ensures (keys_of held) brought
    (c.is_some-has_payee.ensures ∙ some_mapped (λ script. script.now) c.own_payee.result ∙ ap is_some c.own_payee.ensures
    ∙ ap (λ party. is_some (look_up party held.own.payees)) c.bytes.ensures.bytes)
