use Rattle.std.proofs.Common.{◌≡◌, List, Option, None, subst}
use Rattle.std.specs.Prelude.{ℕ, IfOk}
use Rattle.spec_run.specs.declared.event.Event.{Event as Happening}
use Rattle.spec_text.specs.Played.{play_text}
use Rattle.spec_tool.specs.Commands.{run_answer}
use Rattle.spec_tool.specs.Replies.{printed}
use Rattle.tool_replies.specs.Whole.{IsLeft}
use Rattle.bm_world.specs.Playing.{setup_in}
use Rattle.bm_world.specs.declared.halt.Halt.{Halt}
use Rattle.tool_replies.proofs.Left.{all_recorded, by_its_trace}
use Rattle.tool_replies.proofs.report.left_reply.Goals as goal

pub whole_reply-requires : goal.whole_reply-requires
whole_reply-requires g c =
    let digest = g.H.Hash32.digest_of in
    let w = c.args.world in
    let s = setup_in digest w in
    let es = c.args.run.events in
    let left : IsLeft digest s es w None = subst (λ (o : Option (ℕ × Halt)). IsLeft digest s es w o) c.in-None.is c.requires in
    by_its_trace digest s es w left

pub returns-in-None : goal.returns-in-None
returns-in-None g c =
    let digest = g.H.Hash32.digest_of in
    let w = c.args.world in
    let s = setup_in digest w in
    let es = c.args.run.events in
    let left : IsLeft digest s es w None = subst (λ (o : Option (ℕ × Halt)). IsLeft digest s es w o) c.in-None.is c.requires in
    subst (λ (xs : List Happening). IfOk c.whole_reply.result (λ reply. printed reply ≡ run_answer play_text s xs))
    (all_recorded digest s es w left) c.whole_reply.ensures
