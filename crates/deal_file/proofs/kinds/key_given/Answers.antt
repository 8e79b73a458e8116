use Rattle.std.proofs.Common.{Option, sym, ap, subst, ◌∙◌}
use Rattle.spec_deal.specs.declared.deal.Needed.{Needed}
use Rattle.spec_deal.specs.DealFile.{with_needed, key_of_word}
use Rattle.spec_deal.specs.Verifier.{secp256k1}
use Rattle.deal_file.specs.Gives.{Leads}
use Rattle.deal_file.proofs.LineLemmas.{named_key}
use Rattle.deal_file.proofs.kinds.key_given.Goals as goal

pub returns-in-Some-clause-leads : goal.returns-in-Some-clause-leads
returns-in-Some-clause-leads c = λ entries.
    subst (λ (o : Option Needed). Leads entries c.entry_with.result (with_needed entries c.args.line o (key_of_word secp256k1 c.args.value.now)))
    (sym c.in-Some.is ∙ c.in_ok-needed.ensures ∙ named_key c.args.checked.now c.args.needs.now c.args.word.now c.requires)
    (c.entry_with.ensures.leads entries (key_of_word secp256k1 c.args.value.now) c.key_of_word.ensures.reads)

pub returns-in-None-clause-leads : goal.returns-in-None-clause-leads
returns-in-None-clause-leads c = λ entries.
    ap (λ (o : Option Needed). with_needed entries c.args.line o (key_of_word secp256k1 c.args.value.now))
    (sym (named_key c.args.checked.now c.args.needs.now c.args.word.now c.requires) ∙ sym c.in_ok-needed.ensures ∙ c.in-None.is)
