use Rattle.std.proofs.Common.{Option, sym, ap, subst, ◌∙◌}
use Rattle.spec_deal.specs.declared.deal.Needed.{Needed}
use Rattle.spec_deal.specs.DealFile.{with_needed, place_of_words}
use Rattle.deal_file.specs.Gives.{Leads}
use Rattle.deal_file.proofs.LineLemmas.{named_deposit}
use Rattle.deal_file.proofs.kinds.deposit_given.Goals as goal

pub returns-in-Some-clause-leads : goal.returns-in-Some-clause-leads
returns-in-Some-clause-leads c = λ entries.
    subst (λ (o : Option Needed). Leads entries c.entry_with.result (with_needed entries c.args.line o (place_of_words c.args.txid.now c.args.vout.now)))
    (sym c.in-Some.is ∙ c.in_ok-needed.ensures ∙ named_deposit c.args.checked.now c.args.needs.now c.args.word.now c.requires)
    (c.entry_with.ensures.leads entries (place_of_words c.args.txid.now c.args.vout.now) c.place_of_words.ensures.reads)

pub returns-in-None-clause-leads : goal.returns-in-None-clause-leads
returns-in-None-clause-leads c = λ entries.
    ap (λ (o : Option Needed). with_needed entries c.args.line o (place_of_words c.args.txid.now c.args.vout.now))
    (sym (named_deposit c.args.checked.now c.args.needs.now c.args.word.now c.requires) ∙ sym c.in_ok-needed.ensures ∙ c.in-None.is)
