use Rattle.bm_world_board.specs.Prepares.{setup_of, world_of}
use Rattle.bm_world.proofs.Played.{tests_by}
use Rattle.bm_world.proofs.playing.try_event.Goals as goal

pub returns-clause-tests : goal.returns-clause-tests
returns-clause-tests g c =
    let hash = g.H.Hash32.digest_of c.args.trail.now.hasher in
    rw (c.is_refused.ensures, c.value.ensures) (tests_by (setup_of hash c.args.board.now) (world_of c.args.board.now c.args.trail.now.messages) _
    c.pending_passing.new.trail.messages c.args.board.now.compiled c.args.event.now c.in_ok-answer.answer.0 _
    c.requires.playable.clear c.in_ok-answer.ensures.passes)
