use Rattle.std.proofs.Common.{◌≡◌, ℕ, List, ◌++◌, flat_map, ap, ◌∙◌}
use Rattle.spec_tool.specs.Keyed.Listed.{Listed, listed}
use Rattle.bitml_deal.specs.Endorsed.{endorsed_part}
use Rattle.bitml_deal.proofs.EndorsedLemmas.{parts_are}
use Rattle.bitml_deal.proofs.endorse.endorsed.Goals as goal

pub returns : goal.returns
returns c = λ hash keys s same.
    let part : Listed → List ℕ = endorsed_part hash keys s.advert c.args.party.now in
    let all : c.put_all_endorsed.new.out.items ≡ c.new-out.result.items ++ flat_map part (listed hash keys s) =
    c.in_ok-put_all_endorsed.ensures hash keys s.advert (listed hash keys s) same in
    all ∙ ap (λ (o : List ℕ). o ++ flat_map part (listed hash keys s)) c.new-out.ensures.items
    ∙ parts_are hash keys s.advert c.args.party.now (listed hash keys s)
