use Rattle.std.proofs.Common.{◌≡◌, map, Some, sym, ap, subst, ◌∙◌}
use Rattle.std.specs.Prelude.{Ok, IfSome}
use Rattle.spec_deal.specs.SecretFile.{line_says}
use Rattle.deal_secrets.specs.Gives.{LeadsOn, Takes}
use Rattle.deal_secrets.specs.Offers.{shown_at}
use Rattle.deal_secrets.proofs.lines.take_line.Goals as goal

pub returns-in-Some-clause-takes : goal.returns-in-Some-clause-takes
returns-in-Some-clause-takes g c = λ s advert judges.
    let hash = g.H.Hash32.digest_of c.args.trail.now.hasher in
    let messages = c.args.trail.now.messages in
    let taken = c.args.strings.now in
    let says = subst
    (λ o. LeadsOn hash s messages taken (Ok o) (line_says hash s messages taken c.args.number (map (λ w. w.now) c.deref.result.now)))
    c.in-Some.is (c.in_ok-shown.ensures.leads hash s messages taken advert) in
    let words = ap (map (λ w. w.now)) c.deref.ensures.value ∙ c.in_ok-words.ensures in
    let at = subst (λ o. IfSome o (λ shown. Some shown ≡ shown_at c.args.number (map (λ w. w.now) c.deref.result.now))) c.in-Some.is
    c.in_ok-shown.ensures.shown in
    subst (Takes hash messages c.take_shown.new.trail.messages taken c.take_shown.new.strings c.take_shown.result)
    (sym says ∙ ap (line_says hash s messages taken c.args.number) words)
    (c.take_shown.ensures.takes s (judges c.in-Some.shown (at ∙ ap (shown_at c.args.number) words)))
