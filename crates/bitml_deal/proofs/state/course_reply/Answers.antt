use Rattle.std.proofs.Common.{◌≡◌, sym, ap, subst, ◌∙◌}
use Rattle.std.specs.Prelude.{IfOk, option_map}
use Rattle.spec_tool.specs.Commands.{Printed}
use Rattle.spec_deal.specs.Answers.{with_signatures}
use Rattle.spec_deal.specs.Setting.{deal_keys, deal_instance}
use Rattle.spec_tool.specs.Replies.{printed}
use Rattle.deal_follow.specs.Seen.{course_in}
use Rattle.bitml_deal.specs.Later.{given_in, given_answer}
use Rattle.bitml_deal.proofs.FinishLemmas.{given_is, refused_for}
use Rattle.bitml_deal.proofs.state.course_reply.Goals as goal

pub returns-in-Ok : goal.returns-in-Ok
returns-in-Ok g c =
    let hash = g.H.Hash32.digest_of c.args.trail.now.hasher in
    let keys = deal_keys c.args.compiled.now.deal in
    let s = deal_instance c.args.compiled.now.contract c.args.compiled.now.deal in
    let course = course_in c.args.trail.now.messages c.args.course.now in
    subst (λ (p : Printed). IfOk c.stood_by_file.result (λ reply. printed reply ≡ p))
    (sym (ap (with_signatures (given_answer hash keys s course c.args.tip (option_map (λ text. text.now) c.args.secrets)))
    (given_is hash keys s c.as_slice.result.now c.args.signatures.now (c.as_slice.ensures ∙ c.requires.made.transactions) ∙ c.in-Ok.ensures)))
    c.stood_by_file.ensures

pub returns-in-Err-Refused : goal.returns-in-Err-Refused
returns-in-Err-Refused g c =
    let hash = g.H.Hash32.digest_of c.args.trail.now.hasher in
    let keys = deal_keys c.args.compiled.now.deal in
    let s = deal_instance c.args.compiled.now.contract c.args.compiled.now.deal in
    let course = course_in c.args.trail.now.messages c.args.course.now in
    subst (λ (p : Printed). IfOk c.signatures_refused.result (λ reply. printed reply ≡ p))
    (sym (ap (with_signatures (given_answer hash keys s course c.args.tip (option_map (λ text. text.now) c.args.secrets)))
    (given_is hash keys s c.as_slice.result.now c.args.signatures.now (c.as_slice.ensures ∙ c.requires.made.transactions)
    ∙ refused_for c.in-Err-Refused.field-0 c.in-Err-Refused.fault (given_in c.as_slice.result.now c.args.signatures.now) c.in-Err-Refused.ensures c.in-Err-Refused.field-0-is)))
    c.signatures_refused.ensures
