use Rattle.std.proofs.Common.{sym, ap, subst}
use Rattle.spec_deal.specs.declared.deal.Deal.{Deal}
use Rattle.spec_deal.specs.DealFile.{deal_judged}
use Rattle.deal_file.specs.Gives.{Gives}
use Rattle.deal_file.proofs.reading.deal_of.Goals as goal

pub returns : goal.returns
returns c =
    subst (Gives {X = Deal} {Y = Deal} (λ (deal : Deal). deal) c.whole_deal.result)
    (ap (deal_judged c.args.checked.now) (sym c.in_ok-entries.ensures.gives)) c.whole_deal.ensures
