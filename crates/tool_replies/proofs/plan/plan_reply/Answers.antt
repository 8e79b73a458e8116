use Rattle.std.proofs.Common.{◌≡◌, ap, subst}
use Rattle.std.specs.Prelude.{IfOk}
use Rattle.spec_run.specs.Setup.{Setup}
use Rattle.spec_run.specs.Compiled.{compiled_instance}
use Rattle.spec_text.specs.PlanText.{setting_text}
use Rattle.spec_tool.specs.Commands.{Printed, setup_of}
use Rattle.spec_tool.specs.Replies.{printed}
use Rattle.bm_world.specs.Playing.{setup_in}
use Rattle.tool_replies.specs.Last.{IsWhole}
use Rattle.tool_replies.proofs.Ended.{halted_plan, whole_plan}
use Rattle.tool_replies.proofs.Endings.{halted_told}
use Rattle.tool_replies.proofs.plan.plan_reply.Goals as goal

pub returns-in-Err : goal.returns-in-Err
returns-in-Err g c =
    let s : Setup = setup_of (g.H.Hash32.digest_of c.args.hash) c.args.run.now c.args.contracts.items in
    let es = c.args.run.now.events in
    halted_told c.halt_reply.result s es c.in-Err.halt _ c.in-Err.ensures.halted c.halt_reply.ensures (halted_plan s es)

pub returns-in-Ok : goal.returns-in-Ok
returns-in-Ok g c =
    let digest = g.H.Hash32.digest_of in
    let s : Setup = setup_of (digest c.args.hash) c.args.run.now c.args.contracts.items in
    let left = c.in-Ok.world in
    let w : IsWhole digest s c.args.run.now.events left = c.in-Ok.ensures.whole in
    subst (λ (p : Printed). IfOk c.planned-reply.result (λ reply. printed reply ≡ p))
    (whole_plan digest s c.args.run.now.events left w (setting_text (setup_in digest left).hash (compiled_instance (setup_in digest left) left.world 0))
    (ap (λ (t : Setup). setting_text t.hash (compiled_instance t left.world 0)) w.left_is.setup))
    c.planned-reply.ensures
