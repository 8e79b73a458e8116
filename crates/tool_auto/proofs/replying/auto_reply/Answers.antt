use Rattle.std.proofs.Common.{◌≡◌, List, Ok, refl, sym, ap, subst, ◌∙◌}
use Rattle.std.specs.Prelude.{IfOk}
use Rattle.spec_run.specs.Setup.{Setup}
use Rattle.spec_tool.specs.declared.rule.Rule.{Rule}
use Rattle.spec_tool.specs.Answers.{if_whole, rules_judged}
use Rattle.spec_tool.specs.AutoText.{strategy_in, auto_answer}
use Rattle.spec_tool.specs.Commands.{Printed, setup_of}
use Rattle.spec_tool.specs.Replies.{printed}
use Rattle.bm_auto.specs.Judged.{judged}
use Rattle.tool_auto.proofs.Judging.{IsRead, read_is}
use Rattle.tool_auto.proofs.Replied.{refused_beside, rules_beside}
use Rattle.tool_auto.proofs.replying.auto_reply.Goals as goal

pub rules_reply-requires-clause-honest : goal.rules_reply-requires-clause-honest
rules_reply-requires-clause-honest g c =
    let run = c.args.run.now in
    let rules = c.as_slice.result.now in
    let spelled : strategy_in c.args.run_bytes run.header run.events c.args.strategy.now ≡ Ok rules =
    sym c.in_ok-judgement.ensures ∙ ap judged c.in-Taken.is ∙ ap (λ (rs : List Rule). Ok rs) (sym c.as_slice.ensures.value) in
    let f : IsRead run.header run.events c.args.strategy.now rules =
    read_is c.args.run_bytes run.header run.events c.args.strategy.now rules spelled in
    c.strategies_are_honest.ensures run.header f.text rules f.reads

pub rules_reply-requires-clause-room : goal.rules_reply-requires-clause-room
rules_reply-requires-clause-room g c =
    let run = c.args.run.now in
    let rules = c.as_slice.result.now in
    let spelled : strategy_in c.args.run_bytes run.header run.events c.args.strategy.now ≡ Ok rules =
    sym c.in_ok-judgement.ensures ∙ ap judged c.in-Taken.is ∙ ap (λ (rs : List Rule). Ok rs) (sym c.as_slice.ensures.value) in
    (read_is c.args.run_bytes run.header run.events c.args.strategy.now rules spelled).room

pub returns-in-Refused-clause-reply : goal.returns-in-Refused-clause-reply
returns-in-Refused-clause-reply g c =
    let run = c.args.run.now in
    let s : Setup = setup_of (g.H.Hash32.digest_of c.args.hash) run c.args.contracts.items in
    subst (λ (p : Printed). IfOk c.refused_reply.result (λ reply. printed reply ≡ p))
    (ap (λ j. rules_judged j s run.events) (sym (ap judged c.in-Refused.is) ∙ c.in_ok-judgement.ensures))
    c.refused_reply.ensures

pub returns-in-Refused-clause-continued : goal.returns-in-Refused-clause-continued
returns-in-Refused-clause-continued g c =
    let run = c.args.run.now in
    refused_beside c.refused_reply.result (setup_of (g.H.Hash32.digest_of c.args.hash) run c.args.contracts.items) run c.args.run_bytes
    c.args.strategy.now _ c.refused_reply.ensures

pub returns-in-Taken-clause-reply : goal.returns-in-Taken-clause-reply
returns-in-Taken-clause-reply g c =
    let run = c.args.run.now in
    let s : Setup = setup_of (g.H.Hash32.digest_of c.args.hash) run c.args.contracts.items in
    subst (λ (p : Printed). IfOk c.rules_reply.result (λ reply. printed reply ≡ p))
    (ap (λ (rs : List Rule). if_whole (auto_answer rs) s run.events) c.as_slice.ensures.value
    ∙ ap (λ j. rules_judged j s run.events) (sym (ap judged c.in-Taken.is) ∙ c.in_ok-judgement.ensures))
    c.rules_reply.ensures.reply

pub returns-in-Taken-clause-continued : goal.returns-in-Taken-clause-continued
returns-in-Taken-clause-continued g c =
    let run = c.args.run.now in
    let s : Setup = setup_of (g.H.Hash32.digest_of c.args.hash) run c.args.contracts.items in
    let rules = c.as_slice.result.now in
    let spelled : strategy_in c.args.run_bytes run.header run.events c.args.strategy.now ≡ Ok rules =
    sym c.in_ok-judgement.ensures ∙ ap judged c.in-Taken.is ∙ ap (λ (rs : List Rule). Ok rs) (sym c.as_slice.ensures.value) in
    rules_beside c.rules_reply.result c.longer_runs_are_spelled.ensures s run c.args.run_bytes c.args.strategy.now rules refl spelled
    c.rules_reply.ensures.continued
