use Rattle.std.proofs.Common.{◌≡◌, sym, ap, subst, ◌∙◌}
use Rattle.std.specs.Prelude.{IfOk, option_map}
use Rattle.spec_tool.specs.Commands.{Printed}
use Rattle.spec_deal.specs.Setting.{deal_keys, deal_instance}
use Rattle.spec_tool.specs.Replies.{printed}
use Rattle.bitml_deal.specs.Later.{finish_answer}
use Rattle.bitml_deal.proofs.NamedLemmas.{found_there, not_there, of_there}
use Rattle.bitml_deal.proofs.finish.finish_reply.Goals as goal

pub returns-in-None : goal.returns-in-None
returns-in-None g c =
    let hash = g.H.Hash32.digest_of c.args.trail.now.hasher in
    let keys = deal_keys c.args.compiled.now.deal in
    let s = deal_instance c.args.compiled.now.contract c.args.compiled.now.deal in
    subst (λ (p : Printed). IfOk c.no_path.result (λ reply. printed reply ≡ p))
    (sym (not_there hash keys s c.args.which.now c.as_slice.result.now (c.as_slice.ensures ∙ c.requires.made.transactions)
    (sym (ap (option_map (λ t. t.now)) c.in-None.is) ∙ c.named.ensures) (finish_answer hash c.args.signatures.now (option_map (λ text. text.now) c.args.secrets))))
    c.no_path.ensures

pub returns-in-Some : goal.returns-in-Some
returns-in-Some g c =
    let hash = g.H.Hash32.digest_of c.args.trail.now.hasher in
    let keys = deal_keys c.args.compiled.now.deal in
    let s = deal_instance c.args.compiled.now.contract c.args.compiled.now.deal in
    let x = found_there hash keys s c.args.which.now c.as_slice.result.now c.in-Some.transaction.now
    (c.as_slice.ensures ∙ c.requires.made.transactions) (sym (ap (option_map (λ t. t.now)) c.in-Some.is) ∙ c.named.ensures) in
    subst (λ (p : Printed). IfOk c.finish_one.result (λ reply. printed reply ≡ p))
    (sym (of_there hash keys s c.args.which.now c.in-Some.transaction.now x (finish_answer hash c.args.signatures.now (option_map (λ text. text.now) c.args.secrets))))
    (c.finish_one.ensures x.l (record { there = x.again; made = x.made }))
