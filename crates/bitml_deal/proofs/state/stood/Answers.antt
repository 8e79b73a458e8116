use Rattle.std.proofs.Common.{refl, ◌∙◌}
use Rattle.spec_deal.specs.Setting.{deal_keys, deal_instance}
use Rattle.spec_chain.specs.StateText.{state_text}
use Rattle.deal_follow.specs.Seen.{course_in}
use Rattle.bitml_deal.proofs.Replies.{replied}
use Rattle.bitml_deal.proofs.state.stood.Goals as goal

pub returns : goal.returns
returns c = λ hash messages made.
    let keys = deal_keys c.args.compiled.now.deal in
    let s = deal_instance c.args.compiled.now.contract c.args.compiled.now.deal in
    replied c.new.result 0 (state_text hash keys s (course_in messages c.args.course.now) c.args.tip c.args.given.now c.args.strings.now)
    c.new.ensures.status
    (c.new.ensures.text
    ∙ c.in_ok-text.ensures hash keys s messages refl (c.as_slice-transactions.ensures ∙ made.transactions))
