use Rattle.std.proofs.Common.{◌≡◌, List, refl, ap, subst, ◌∙◌, IfOk}
use Rattle.std.specs.List.{filter}
use Rattle.std.proofs.lemmas.List.Elements.{filter_agree}
use Rattle.spec_terms.specs.Parties.{participants}
use Rattle.spec_deal.specs.declared.deal.Deal.{Deal}
use Rattle.spec_deal.specs.declared.entry.Entry.{Entry}
use Rattle.spec_deal.specs.DealFile.{entry_keys}
use Rattle.spec_deal.specs.Setting.{deal_keys}
use Rattle.spec_deal.specs.Used.{uses_key}
use Rattle.deal_file.specs.Building.{own_deal}
use Rattle.deal_file.specs.Entries.{told}
use Rattle.deal_file.proofs.part.Part.key_users.Goals as goal

pub returns : goal.returns
returns c =
    let advert = c.args.checked.now in
    let entries = told c.self.inside.entries in
    subst (λ users. IfOk c.key_users.result (λ parties. parties.items ≡ users))
    (ap (λ (d : Deal). filter (uses_key (deal_keys d) advert) (participants advert)) c.in_ok-deal.ensures
    ∙ filter_agree (uses_key (deal_keys (own_deal advert entries)) advert) (uses_key (entry_keys advert entries) advert) (λ party. refl)
    (participants advert)
    ∙ ap (λ (es : List Entry). filter (uses_key (entry_keys advert es) advert) (participants advert)) c.self.view_is)
    c.key_users.ensures
