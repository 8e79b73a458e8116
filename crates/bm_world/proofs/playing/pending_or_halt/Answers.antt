use Rattle.bm_world_board.specs.Prepares.{setup_of, world_of}
use Rattle.bm_world.proofs.Played.{preparing_halts, shown_by}
use Rattle.bm_world.proofs.playing.pending_or_halt.Goals as goal

pub returns-in-Err-clause-halts : goal.returns-in-Err-clause-halts
returns-in-Err-clause-halts g c =
    let hash = g.H.Hash32.digest_of c.args.trail.now.hasher in
    preparing_halts (setup_of hash c.args.board.now) (world_of c.args.board.now c.args.trail.now.messages) c.pending.new.trail.messages
    c.args.event.now c.in-Err.error c.trail_halt.result c.requires.playable.clear c.in-Err.ensures.err
    (shown_by g.H.Hash32.digest_of c.args.trail.now.hasher c.pending.new.trail.hasher c.pending.new.trail.messages c.in-Err.error
    c.trail_halt.result c.pending.ensures.hasher c.trail_halt.ensures.memory c.trail_halt.ensures.collided c.trail_halt.ensures.unguessed)
