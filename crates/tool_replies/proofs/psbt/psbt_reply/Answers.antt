use Rattle.std.proofs.Common.{◌≡◌, length, ap, subst, ◌∙◌}
use Rattle.std.specs.Prelude.{IfOk}
use Rattle.spec_run.specs.Setup.{Setup}
use Rattle.spec_tool.specs.Commands.{Printed, setup_of}
use Rattle.spec_tool.specs.Answers.{printed_of}
use Rattle.spec_tool.specs.PsbtText.{psbt_text, which_psbt}
use Rattle.spec_tool.specs.Replies.{printed}
use Rattle.bm_world.specs.Playing.{setup_in}
use Rattle.tool_replies.specs.Last.{IsWhole}
use Rattle.tool_replies.proofs.Ended.{halted_if_whole, whole_psbt}
use Rattle.tool_replies.proofs.Endings.{halted_told}
use Rattle.tool_replies.proofs.Left.{contracts_are}
use Rattle.tool_replies.proofs.psbt.psbt_reply.Goals as goal

pub signed-reply-requires-clause-one : goal.signed-reply-requires-clause-one
signed-reply-requires-clause-one g c =
    let digest = g.H.Hash32.digest_of in
    let s : Setup = setup_of (digest c.args.hash) c.args.run.now c.args.contracts.items in
    let left = c.in-Ok.world in
    let w : IsWhole digest s c.args.run.now.events left = c.in-Ok.ensures.whole in
    ap length (contracts_are digest s c.args.run.now.events left _ w.left_is) ∙ c.requires.one

pub signed-reply-requires-clause-left : goal.signed-reply-requires-clause-left
signed-reply-requires-clause-left g c =
    let digest = g.H.Hash32.digest_of in
    let s : Setup = setup_of (digest c.args.hash) c.args.run.now c.args.contracts.items in
    let left = c.in-Ok.world in
    let w : IsWhole digest s c.args.run.now.events left = c.in-Ok.ensures.whole in
    record { setup = s; events = c.args.run.now.events; left_is = w.left_is }

pub returns-in-Err : goal.returns-in-Err
returns-in-Err g c =
    let s : Setup = setup_of (g.H.Hash32.digest_of c.args.hash) c.args.run.now c.args.contracts.items in
    let es = c.args.run.now.events in
    halted_told c.halt_reply.result s es c.in-Err.halt _ c.in-Err.ensures.halted c.halt_reply.ensures (λ reply. halted_if_whole s es reply (printed_of (psbt_text c.args.which.now)))

pub returns-in-Ok : goal.returns-in-Ok
returns-in-Ok g c =
    let digest = g.H.Hash32.digest_of in
    let s : Setup = setup_of (digest c.args.hash) c.args.run.now c.args.contracts.items in
    let left = c.in-Ok.world in
    let w : IsWhole digest s c.args.run.now.events left = c.in-Ok.ensures.whole in
    subst (λ (p : Printed). IfOk c.signed-reply.result (λ reply. printed reply ≡ p))
    (whole_psbt digest s c.args.run.now.events left w c.args.which.now (which_psbt (setup_in digest left) left.world c.args.which.now)
    (ap (λ (t : Setup). which_psbt t left.world c.args.which.now) w.left_is.setup))
    c.signed-reply.ensures
