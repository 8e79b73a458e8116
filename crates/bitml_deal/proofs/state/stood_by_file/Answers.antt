use Rattle.std.proofs.Common.{◌≡◌, sym, ap, subst}
use Rattle.std.specs.Prelude.{IfOk, option_map}
use Rattle.spec_tool.specs.Commands.{Printed}
use Rattle.spec_tool.specs.Replies.{printed}
use Rattle.spec_deal.specs.Answers.{with_secrets}
use Rattle.spec_deal.specs.SecretFile.{shows}
use Rattle.spec_deal.specs.Setting.{deal_keys, deal_instance}
use Rattle.spec_chain.specs.Answers.{stood_answer}
use Rattle.deal_follow.specs.Seen.{course_in}
use Rattle.bitml_deal.specs.declared.secrets.Shown.{Shown}
use Rattle.bitml_deal.specs.Later.{told_by, Tells}
use Rattle.bitml_deal.proofs.state.stood_by_file.Goals as goal

pub returns-in-Taken : goal.returns-in-Taken
returns-in-Taken g c =
    let hash = g.H.Hash32.digest_of c.args.trail.now.hasher in
    let keys = deal_keys c.args.compiled.now.deal in
    let s = deal_instance c.args.compiled.now.contract c.args.compiled.now.deal in
    let messages = c.args.trail.now.messages in
    let read = told_by hash s messages (option_map (λ text. text.now) c.args.secrets) in
    let told : read ≡ shows c.in-Taken.strings =
    subst (λ (shown : Shown). Tells read shown) c.in-Taken.is c.in_ok-reply.ensures.told in
    subst (λ (p : Printed). IfOk c.stood.result (λ reply. printed reply ≡ p))
    (sym (ap (with_secrets (λ strings. stood_answer hash keys s (course_in messages c.args.course.now) c.args.tip c.args.given.now strings)) told))
    (c.stood.ensures hash messages c.requires.made)
