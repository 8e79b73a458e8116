use Rattle.std.proofs.Common.{Option, sym, ap, subst, ◌∙◌}
use Rattle.spec_deal.specs.declared.deal.Needed.{Needed}
use Rattle.spec_deal.specs.DealFile.{with_needed, hash_of_word}
use Rattle.deal_file.specs.Gives.{Leads}
use Rattle.deal_file.proofs.LineLemmas.{named_hash}
use Rattle.deal_file.proofs.kinds.hash_given.Goals as goal

pub returns-in-Some-clause-leads : goal.returns-in-Some-clause-leads
returns-in-Some-clause-leads c = λ entries.
    subst (λ (o : Option Needed). Leads entries c.entry_with.result (with_needed entries c.args.line o (hash_of_word c.args.value.now)))
    (sym c.in-Some.is ∙ c.in_ok-needed.ensures ∙ named_hash c.args.checked.now c.args.needs.now c.args.word.now c.requires)
    (c.entry_with.ensures.leads entries (hash_of_word c.args.value.now) c.hash_of_word.ensures.reads)

pub returns-in-None-clause-leads : goal.returns-in-None-clause-leads
returns-in-None-clause-leads c = λ entries.
    ap (λ (o : Option Needed). with_needed entries c.args.line o (hash_of_word c.args.value.now))
    (sym (named_hash c.args.checked.now c.args.needs.now c.args.word.now c.requires) ∙ sym c.in_ok-needed.ensures ∙ c.in-None.is)
