use Rattle.std.proofs.Common.{◌≡◌, ap, subst, ◌∙◌}
use Rattle.std.specs.Prelude.{IfOk}
use Rattle.spec_run.specs.Setup.{Setup}
use Rattle.spec_tool.specs.Commands.{Printed, setup_of}
use Rattle.spec_tool.specs.Replies.{printed}
use Rattle.bm_translate_course.specs.Courses.{events_of}
use Rattle.bm_world.specs.Playing.{setup_in}
use Rattle.tool_replies.specs.Counted.{run_counts}
use Rattle.tool_replies.specs.Last.{IsWhole}
use Rattle.tool_replies.proofs.Ended.{halted_make, whole_make}
use Rattle.tool_replies.proofs.Endings.{halted_told}
use Rattle.tool_replies.proofs.Left.{by_its_trace, all_recorded}
use Rattle.tool_replies.proofs.made.generated_reply.Goals as goal

pub counted-reply-requires : goal.counted-reply-requires
counted-reply-requires g c =
    let digest = g.H.Hash32.digest_of in
    let s : Setup = setup_of (digest c.args.hash) c.args.run c.args.contracts.items in
    let left = c.in-Ok.world in
    let w : IsWhole digest s c.args.run.events left = c.in-Ok.ensures.whole in
    by_its_trace digest s c.args.run.events left w.left_is

pub returns-in-Err : goal.returns-in-Err
returns-in-Err g c =
    let s : Setup = setup_of (g.H.Hash32.digest_of c.args.hash) c.args.run c.args.contracts.items in
    let es = c.args.run.events in
    halted_told c.halt_reply.result s es c.in-Err.halt _ c.in-Err.ensures.halted c.halt_reply.ensures (halted_make s es)

pub returns-in-Ok : goal.returns-in-Ok
returns-in-Ok g c =
    let digest = g.H.Hash32.digest_of in
    let s : Setup = setup_of (digest c.args.hash) c.args.run c.args.contracts.items in
    let es = c.args.run.events in
    let left = c.in-Ok.world in
    let w : IsWhole digest s es left = c.in-Ok.ensures.whole in
    subst (λ (p : Printed). IfOk c.counted-reply.result (λ reply. printed reply ≡ p))
    (whole_make digest s es left w (run_counts (setup_in digest left) (events_of left.trace))
    (ap (run_counts (setup_in digest left)) (all_recorded digest s es left w.left_is) ∙ ap (λ (t : Setup). run_counts t es) w.left_is.setup))
    c.counted-reply.ensures
