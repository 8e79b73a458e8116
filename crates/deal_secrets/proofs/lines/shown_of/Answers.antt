use Rattle.std.proofs.Common.{None, map, sym, subst, ◌∙◌}
use Rattle.deal_secrets.specs.Gives.{Stops}
use Rattle.deal_secrets.proofs.LinesSay.{says_nothing, says_other}
use Rattle.deal_secrets.proofs.lines.shown_of.Goals as goal

pub returns-then-is_read_over-clause-leads : goal.returns-then-is_read_over-clause-leads
returns-then-is_read_over-clause-leads c = λ hash s messages taken advert.
    says_nothing hash s messages taken c.args.line (map (λ w. w.now) c.args.words.now) (sym c.is_read_over.ensures ∙ c.if-is_read_over.true)

pub returns-in-Ok-clause-leads : goal.returns-in-Ok-clause-leads
returns-in-Ok-clause-leads c = λ hash s messages taken advert.
    says_other hash s messages taken c.args.line (map (λ w. w.now) c.args.words.now) (sym c.is_read_over.ensures ∙ c.if-is_read_over.false)
    ∙ c.in-Ok.ensures.leads hash s messages taken advert

pub returns-in-Err-clause-leads : goal.returns-in-Err-clause-leads
returns-in-Err-clause-leads c = λ hash s messages taken advert.
    subst (Stops None c.in-Err.error)
    (sym (says_other hash s messages taken c.args.line (map (λ w. w.now) c.args.words.now) (sym c.is_read_over.ensures ∙ c.if-is_read_over.false)))
    (c.in-Err.ensures.leads hash s messages taken advert)
