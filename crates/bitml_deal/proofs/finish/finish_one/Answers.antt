use Rattle.std.proofs.Common.{◌≡◌, List, sym, ap, subst, ◌∙◌}
use Rattle.std.specs.Prelude.{IfOk, option_map}
use Rattle.spec_tool.specs.Commands.{Printed}
use Rattle.spec_deal.specs.declared.signed.Signed.{Signed}
use Rattle.spec_deal.specs.Answers.{finished_answer, with_signatures, with_secrets}
use Rattle.spec_deal.specs.Setting.{deal_keys, deal_instance}
use Rattle.spec_tool.specs.Replies.{printed}
use Rattle.bitml_deal.specs.Later.{given_in, strings_in}
use Rattle.bitml_deal.proofs.FinishLemmas.{given_is, refused_for}
use Rattle.bitml_deal.proofs.finish.finish_one.Goals as goal

pub returns-in-Ok : goal.returns-in-Ok
returns-in-Ok g c = λ l one.
    let hash = g.H.Hash32.digest_of c.args.trail.now.hasher in
    let keys = deal_keys c.args.compiled.now.deal in
    let s = deal_instance c.args.compiled.now.contract c.args.compiled.now.deal in
    let answer : List Signed → Printed =
    λ given. with_secrets (λ strings. finished_answer hash keys s l given strings) (strings_in hash keys s (option_map (λ text. text.now) c.args.secrets)) in
    subst (λ (p : Printed). IfOk c.finish_by_file.result (λ reply. printed reply ≡ p))
    (sym (ap (with_signatures answer)
    (given_is hash keys s c.as_slice.result.now c.args.signatures.now (c.as_slice.ensures ∙ c.requires.made.transactions) ∙ c.in-Ok.ensures)))
    (c.finish_by_file.ensures l one)

pub returns-in-Err-Refused : goal.returns-in-Err-Refused
returns-in-Err-Refused g c = λ l one.
    let hash = g.H.Hash32.digest_of c.args.trail.now.hasher in
    let keys = deal_keys c.args.compiled.now.deal in
    let s = deal_instance c.args.compiled.now.contract c.args.compiled.now.deal in
    let answer : List Signed → Printed =
    λ given. with_secrets (λ strings. finished_answer hash keys s l given strings) (strings_in hash keys s (option_map (λ text. text.now) c.args.secrets)) in
    subst (λ (p : Printed). IfOk c.signatures_refused.result (λ reply. printed reply ≡ p))
    (sym (ap (with_signatures answer)
    (given_is hash keys s c.as_slice.result.now c.args.signatures.now (c.as_slice.ensures ∙ c.requires.made.transactions)
    ∙ refused_for c.in-Err-Refused.field-0 c.in-Err-Refused.fault (given_in c.as_slice.result.now c.args.signatures.now) c.in-Err-Refused.ensures c.in-Err-Refused.field-0-is)))
    c.signatures_refused.ensures
