use Rattle.std.proofs.Common.{◌≡◌, List, sym, ap, subst, ◌∙◌}
use Rattle.std.specs.Prelude.{IfOk}
use Rattle.spec_run.specs.declared.event.Event.{Event}
use Rattle.spec_run.specs.Setup.{Setup}
use Rattle.spec_tool.specs.Commands.{Printed, setup_of, run_answer}
use Rattle.spec_tool.specs.Replies.{printed}
use Rattle.bm_world.specs.Playing.{setup_in}
use Rattle.tool_replies.specs.Whole.{IsLeft}
use Rattle.tool_replies.proofs.Left.{of_its_own}
use Rattle.draw_replies.specs.DrawnTexts.{run_drawn}
use Rattle.draw_replies.proofs.Drawn.{unopened_drawn}
use Rattle.draw_replies.proofs.playing.draw_reply.Goals as goal

pub left_reply-reply-requires : goal.left_reply-reply-requires
left_reply-reply-requires g c =
    let digest = g.H.Hash32.digest_of in
    let s : Setup = setup_of (digest c.args.hash) c.args.run.now c.args.contracts.items in
    let left = c.in-Ok.world in
    subst (λ (es : List Event). IsLeft digest (setup_in digest left) es left c.in-Ok.stop) (sym c.as_slice.ensures)
    (of_its_own digest s c.args.run.now.events left c.in-Ok.stop c.in-Ok.ensures.left)

pub returns-in-Err-Collided : goal.returns-in-Err-Collided
returns-in-Err-Collided g c =
    let s : Setup = setup_of (g.H.Hash32.digest_of c.args.hash) c.args.run.now c.args.contracts.items in
    subst (λ (p : Printed). IfOk c.unopened_reply.result (λ reply. printed reply ≡ p))
    (unopened_drawn s c.args.run.now.events c.args.form c.args.title.now c.deref-in-Err-Collided.result.now c.in-Err-Collided.field-0-0 c.in-Err-Collided.field-0-1
    (c.in-Err-Collided.ensures.unopened.collided c.in-Err-Collided.field-0-0 c.in-Err-Collided.field-0-1 c.in-Err-Collided.field-0-is)
    (c.deref-in-Err-Collided.ensures.value ∙ c.in_ok-held.ensures ∙ c.deref.ensures.value))
    c.unopened_reply.ensures

pub returns : goal.returns
returns g c =
    let digest = g.H.Hash32.digest_of in
    let s : Setup = setup_of (digest c.args.hash) c.args.run.now c.args.contracts.items in
    let left = c.in-Ok.world in
    let l : IsLeft digest s c.args.run.now.events left c.in-Ok.stop = c.in-Ok.ensures.left in
    subst (λ (p : Printed). IfOk c.left_reply-reply.result (λ reply. printed reply ≡ p))
    (ap (run_answer (run_drawn c.args.form c.args.title.now) (setup_in digest left)) c.as_slice.ensures
    ∙ ap (λ (t : Setup). run_answer (run_drawn c.args.form c.args.title.now) t c.args.run.now.events) l.setup)
    c.left_reply-reply.ensures
