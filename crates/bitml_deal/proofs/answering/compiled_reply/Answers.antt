use Rattle.std.proofs.Common.{◌≡◌, ℕ, List, sym, subst, ◌∙◌}
use Rattle.spec_tool.specs.Commands.{prints}
use Rattle.spec_deal.specs.ReadyText.{endorse_text}
use Rattle.std.specs.Prelude.{IfOk}
use Rattle.spec_deal.specs.Setting.{deal_keys, deal_instance}
use Rattle.spec_tool.specs.Replies.{printed}
use Rattle.deal_command.specs.declared.command.DealCommand.{DealCommand as Call}
use Rattle.deal_command.specs.Seen.{command}
use Rattle.bitml_deal.specs.Later.{later_answer}
use Rattle.bitml_deal.specs.Opens.{shown_answered}
use Rattle.bitml_deal.proofs.answering.compiled_reply.Goals as goal

pub returns-in-Psbts : goal.returns-in-Psbts
returns-in-Psbts g c =
    let hash = g.H.Hash32.digest_of c.args.trail.now.hasher in
    let deal = c.args.compiled.now.deal in
    subst (λ (call : Call). IfOk c.psbts_reply.result
    (λ reply. printed reply ≡ shown_answered (later_answer hash (command call) c.args.texts.now) c.args.compiled.now))
    (sym c.in-Psbts.is)
    (c.psbts_reply.ensures hash (deal_keys deal) (deal_instance c.args.compiled.now.contract deal)
    (c.as_slice-transactions.ensures ∙ c.requires.made.transactions))

pub returns-in-Endorse : goal.returns-in-Endorse
returns-in-Endorse g c =
    let hash = g.H.Hash32.digest_of c.args.trail.now.hasher in
    let deal = c.args.compiled.now.deal in
    let keys = deal_keys deal in
    let s = deal_instance c.args.compiled.now.contract deal in
    subst (λ (call : Call). IfOk c.endorse_reply.result
    (λ reply. printed reply ≡ shown_answered (later_answer hash (command call) c.args.texts.now) c.args.compiled.now))
    (sym c.in-Endorse.is)
    (subst (λ (party : List ℕ). IfOk c.endorse_reply.result (λ reply. printed reply ≡ prints 0 (endorse_text hash keys s party)))
    c.as_bytes.ensures.value
    (c.endorse_reply.ensures hash keys s (c.as_slice-transactions.ensures ∙ c.requires.made.transactions)))
