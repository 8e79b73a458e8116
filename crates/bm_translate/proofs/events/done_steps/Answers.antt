use Rattle.std.proofs.Common.{◌∙◌}
use Rattle.bm_world_board.specs.Prepares.{setup_of}
use Rattle.bm_translate.specs.Shown.{posts_of}
use Rattle.bm_translate.proofs.Known.{revealed_told}
use Rattle.bm_translate.proofs.Turns.{advertise_are, commit_are, reveal_are, post_are}
use Rattle.bm_translate.proofs.events.done_steps.Goals as goal

pub returns-in_ok-told-in-Advertise : goal.returns-in_ok-told-in-Advertise
returns-in_ok-told-in-Advertise g c = λ f w next turn.
    c.in_ok-told-in-Advertise.ensures
    ∙ advertise_are (setup_of (g.H.Hash32.digest_of c.args.trail.now.hasher) c.args.board.now) c.args.board.now c.args.trail.now.messages
    f w next c.args.running.now c.args.recorded.now turn c.requires.done c.in-Advertise.contract c.in-Advertise.bindings c.in-Advertise.is

pub returns-in_ok-committed-in-Commit : goal.returns-in_ok-committed-in-Commit
returns-in_ok-committed-in-Commit g c = λ f w next turn.
    c.in_ok-committed-in-Commit.ensures
    ∙ commit_are (setup_of (g.H.Hash32.digest_of c.args.trail.now.hasher) c.args.board.now) c.args.board.now c.args.trail.now.messages
    f w next c.args.running.now c.args.recorded.now turn c.requires.done c.in-Commit.contract c.in-Commit.party c.in-Commit.digests c.in-Commit.is

pub returns-in_ok-revealed-in-Reveal : goal.returns-in_ok-revealed-in-Reveal
returns-in_ok-revealed-in-Reveal g c = λ f w next turn.
    let told = rw c.requires.shown at c.in_ok-revealed-in-Reveal.ensures in
    told
    ∙ revealed_told c.args.running.now.config.committed c.args.running.now.secrets (posts_of c.args.board.now.header.secrets c.args.recorded.now)
    ∙ reveal_are (setup_of (g.H.Hash32.digest_of c.args.trail.now.hasher) c.args.board.now) c.args.board.now c.args.trail.now.messages
    f w next c.args.running.now c.args.recorded.now turn c.requires.done c.in-Reveal.contract c.in-Reveal.party c.in-Reveal.secret c.in-Reveal.is

pub returns-in_ok-posted-in-Post : goal.returns-in_ok-posted-in-Post
returns-in_ok-posted-in-Post g c = λ f w next turn.
    let told = rw c.requires.shown at c.in_ok-posted-in-Post.ensures in
    told
    ∙ revealed_told c.args.running.now.config.committed c.args.running.now.secrets (posts_of c.args.board.now.header.secrets c.args.recorded.now)
    ∙ post_are (setup_of (g.H.Hash32.digest_of c.args.trail.now.hasher) c.args.board.now) c.args.board.now c.args.trail.now.messages
    f w next c.args.running.now c.args.recorded.now turn c.requires.done c.in-Post.bytes c.in-Post.is
