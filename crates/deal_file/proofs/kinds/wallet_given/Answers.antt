use Rattle.std.proofs.Common.{Option, sym, ap, subst, ◌∙◌}
use Rattle.spec_deal.specs.declared.deal.Needed.{Needed}
use Rattle.spec_deal.specs.DealFile.{with_needed, wallet_of_words}
use Rattle.spec_deal.specs.Verifier.{secp256k1}
use Rattle.deal_file.specs.Gives.{Leads}
use Rattle.deal_file.proofs.LineLemmas.{named_deposit}
use Rattle.deal_file.proofs.kinds.wallet_given.Goals as goal

pub returns-in-Some-clause-leads : goal.returns-in-Some-clause-leads
returns-in-Some-clause-leads c =
    let value = wallet_of_words secp256k1 c.args.network.now c.args.txid.now c.args.vout.now c.args.script.now in
    λ entries.
    subst (λ (o : Option Needed). Leads entries c.entry_with.result (with_needed entries c.args.line o value))
    (sym c.in-Some.is ∙ c.in_ok-needed.ensures ∙ named_deposit c.args.checked.now c.args.needs.now c.args.word.now c.requires)
    (c.entry_with.ensures.leads entries value c.wallet_of_words-value.ensures.reads)

pub returns-in-None-clause-leads : goal.returns-in-None-clause-leads
returns-in-None-clause-leads c =
    let value = wallet_of_words secp256k1 c.args.network.now c.args.txid.now c.args.vout.now c.args.script.now in
    λ entries.
    ap (λ (o : Option Needed). with_needed entries c.args.line o value)
    (sym (named_deposit c.args.checked.now c.args.needs.now c.args.word.now c.requires) ∙ sym c.in_ok-needed.ensures ∙ c.in-None.is)
