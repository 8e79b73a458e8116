use Rattle.std.proofs.Common.{List, map, ap, subst, ◌∙◌}
use Rattle.spec_deal.specs.declared.deal.Deal.{Deal}
use Rattle.spec_deal.specs.declared.deal.Needed.{Needed}
use Rattle.spec_deal.specs.Setting.{own_scripts}
use Rattle.deal_file.specs.Building.{own_deal, onto_deal, whole}
use Rattle.deal_file.specs.Entries.{told, needed_in}
use Rattle.deal_file.specs.Gives.{Gives}
use Rattle.deal_file.proofs.WholeLemmas.{whole_is}
use Rattle.deal_file.proofs.whole.whole_deal.Goals as goal

pub returns : goal.returns
returns c =
    let checked = c.args.checked.now in
    let entries = told c.args.entries.now in
    let start = own_deal checked entries in
    subst (Gives {X = Deal} {Y = Deal} (λ (deal : Deal). deal) c.with_needs.result)
    (ap (λ (d : Deal). onto_deal d (whole (own_scripts d) checked entries (map needed_in c.args.needs.now))) c.in_ok-deal.ensures
    ∙ ap (λ (ns : List Needed). onto_deal start (whole (own_scripts start) checked entries ns)) c.requires.needs
    ∙ whole_is checked entries)
    c.with_needs.ensures
