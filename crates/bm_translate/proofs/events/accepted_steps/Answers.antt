use Rattle.std.proofs.Common.{◌++◌, ◌∙◌}
use Rattle.bm_world_board.specs.Prepares.{setup_of}
use Rattle.bm_translate.specs.Shown.{posts_of}
use Rattle.bm_translate.proofs.Known.{revealed_told}
use Rattle.bm_translate.proofs.Turns.{accepted_reveals}
use Rattle.bm_translate.proofs.events.accepted_steps.Goals as goal

pub returns : goal.returns
returns g c = λ f w next turn.
    let s = setup_of (g.H.Hash32.digest_of c.args.trail.now.hasher) c.args.board.now in
    let told = rw c.requires.shown at c.in_ok-made.ensures in
    let shown = told
    ∙ revealed_told c.args.running.now.config.committed c.args.running.now.secrets (posts_of c.args.board.now.header.secrets c.args.recorded.now)
    ∙ accepted_reveals s c.args.board.now c.args.trail.now.messages f w next c.args.running.now c.args.recorded.now turn c.requires.accepted in
    let kind = c.in_ok-more.ensures s f w c.args.trail.now.messages turn.before in
    c.in_ok-all.ensures ∙ (λ i. shown i ++ kind i)
