use Rattle.std.proofs.Common.{◌∙◌}
use Rattle.std.proofs.lemmas.Result.{IfOk-weaker}
use Rattle.deal_follow.specs.Seen.{course_in}
use Rattle.deal_state.proofs.Defined.{text_is}
use Rattle.deal_state.proofs.text.state_text.Goals as goal

pub returns : goal.returns
returns c = λ hash keys s messages advert are.
    IfOk-weaker c.text_by.result _ _
    (λ _ e.
    e
    ∙ text_is hash keys s c.args.checked.now c.args.transactions.now (course_in messages c.args.course.now) c.args.tip c.args.given.now
    c.args.strings.now advert are)
    (c.text_by.ensures messages)
