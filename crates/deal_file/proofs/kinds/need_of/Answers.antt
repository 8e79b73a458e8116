use Rattle.std.proofs.Common.{◌≡◌, ap, subst, ◌∙◌, IfOk}
use Rattle.std.specs.Prelude.{option_map}
use Rattle.deal_file.specs.Entries.{needed_in}
use Rattle.deal_file.specs.Gives.{found_need}
use Rattle.deal_file.proofs.EntryLemmas.{need_found}
use Rattle.deal_file.proofs.kinds.need_of.Goals as goal

pub returns : goal.returns
returns c =
    subst (λ what. IfOk c.copied.result (λ o. o ≡ what))
    (ap (option_map needed_in) c.find.ensures.found ∙ need_found c.args.needs.now c.deref.result.now
    ∙ ap (found_need c.args.needs.now) (c.deref.ensures.value ∙ c.in_ok-key.ensures))
    c.copied.ensures
