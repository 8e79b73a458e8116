use Rattle.std.proofs.Common.{◌≡◌, ℕ, List, length, subst, ap, ◌∙◌}
use Rattle.std.specs.Prelude.{IfOk}
use Rattle.spec_run.specs.Translation.{last_world}
use Rattle.bm_world.specs.Playing.{setup_in}
use Rattle.bm_translate_course.specs.Courses.{events_of}
use Rattle.tool_replies.proofs.Left.{live_are, counts_are}
use Rattle.tool_replies.proofs.made.counts.Goals as goal

pub returns : goal.returns
returns g c =
    let digest = g.H.Hash32.digest_of in
    let w = c.args.world.now in
    let es = events_of w.trace in
    let s = setup_in digest w in
    let made = c.args.made.now in
    subst (λ (t : List ℕ). IfOk c.counts_text.result (λ text. text.items ≡ t))
    (counts_are digest s es w c.requires.left (length c.trace.result.now) made.steps made.last (ap length c.trace.ensures.trace) c.requires.steps
    c.requires.last)
    (c.counts_text.ensures.counts (last_world s es)
    (live_are digest s es w c.requires.left c.ledger.result.now c.deref.result.now c.ledger.ensures (c.deref.ensures.value ∙ c.in_ok-live.ensures)))
