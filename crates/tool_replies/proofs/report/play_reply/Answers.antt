use Rattle.std.proofs.Common.{◌≡◌, ap, subst}
use Rattle.std.specs.Prelude.{IfOk}
use Rattle.spec_run.specs.Setup.{Setup}
use Rattle.spec_text.specs.Played.{play_text}
use Rattle.spec_tool.specs.Commands.{Printed, setup_of, run_answer}
use Rattle.spec_tool.specs.Replies.{printed}
use Rattle.tool_replies.proofs.Reports.{unopened_told}
use Rattle.tool_replies.proofs.Left.{of_its_own}
use Rattle.tool_replies.proofs.report.play_reply.Goals as goal

pub left_reply-requires : goal.left_reply-requires
left_reply-requires g c =
    let digest = g.H.Hash32.digest_of in
    let s : Setup = setup_of (digest c.args.hash) c.args.run c.args.contracts.items in
    let left = c.in-Ok.world in
    of_its_own digest s c.args.run.events left c.in-Ok.stop c.in-Ok.ensures.left

pub returns-in-Err : goal.returns-in-Err
returns-in-Err g c =
    let s : Setup = setup_of (g.H.Hash32.digest_of c.args.hash) c.args.run c.args.contracts.items in
    unopened_told c.halt_reply.result s c.args.run.events c.in-Err.halt c.in-Err.ensures.unopened c.halt_reply.ensures

pub returns-in-Ok : goal.returns-in-Ok
returns-in-Ok g c =
    let digest = g.H.Hash32.digest_of in
    let s : Setup = setup_of (digest c.args.hash) c.args.run c.args.contracts.items in
    let left = c.in-Ok.world in
    subst (λ (p : Printed). IfOk c.left_reply.result (λ reply. printed reply ≡ p))
    (ap (λ (t : Setup). run_answer play_text t c.args.run.events) c.in-Ok.ensures.left.setup)
    c.left_reply.ensures
