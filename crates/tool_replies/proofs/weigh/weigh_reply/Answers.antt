use Rattle.std.proofs.Common.{◌≡◌, length, ap, subst, ◌∙◌}
use Rattle.std.specs.Prelude.{IfOk}
use Rattle.spec_run.specs.Setup.{Setup}
use Rattle.spec_tool.specs.Commands.{Printed, setup_of}
use Rattle.spec_tool.specs.Answers.{printed_of}
use Rattle.spec_tool.specs.WeighText.{weigh_text}
use Rattle.spec_tool.specs.Replies.{printed}
use Rattle.bm_world.specs.Playing.{setup_in}
use Rattle.tool_replies.specs.Weighed.{weigh_line}
use Rattle.tool_replies.specs.Last.{IsWhole}
use Rattle.tool_replies.proofs.Ended.{halted_if_whole, whole_weigh}
use Rattle.tool_replies.proofs.Endings.{halted_told}
use Rattle.tool_replies.proofs.Left.{contracts_are}
use Rattle.tool_replies.proofs.weigh.weigh_reply.Goals as goal

pub weighed-reply-requires : goal.weighed-reply-requires
weighed-reply-requires g c =
    let digest = g.H.Hash32.digest_of in
    let s : Setup = setup_of (digest c.args.hash) c.args.run.now c.args.contracts.items in
    let left = c.in-Ok.world in
    let w : IsWhole digest s c.args.run.now.events left = c.in-Ok.ensures.whole in
    ap length (contracts_are digest s c.args.run.now.events left _ w.left_is) ∙ c.requires.one

pub returns-in-Err : goal.returns-in-Err
returns-in-Err g c =
    let s : Setup = setup_of (g.H.Hash32.digest_of c.args.hash) c.args.run.now c.args.contracts.items in
    let es = c.args.run.now.events in
    halted_told c.halt_reply.result s es c.in-Err.halt _ c.in-Err.ensures.halted c.halt_reply.ensures (λ reply. halted_if_whole s es reply (printed_of weigh_text))

pub returns-in-Ok : goal.returns-in-Ok
returns-in-Ok g c =
    let digest = g.H.Hash32.digest_of in
    let s : Setup = setup_of (digest c.args.hash) c.args.run.now c.args.contracts.items in
    let left = c.in-Ok.world in
    let w : IsWhole digest s c.args.run.now.events left = c.in-Ok.ensures.whole in
    subst (λ (p : Printed). IfOk c.weighed-reply.result (λ reply. printed reply ≡ p))
    (whole_weigh digest s c.args.run.now.events left w (weigh_line (setup_in digest left) left.world)
    (ap (λ (t : Setup). weigh_line t left.world) w.left_is.setup))
    c.weighed-reply.ensures
