use Rattle.bm_world.proofs.Passed.{goes_passing, short_passing}
use Rattle.bm_world.proofs.passing.pass_blocks.Goals as goal

pub returns-in-Ok-clause-goes : goal.returns-in-Ok-clause-goes
returns-in-Ok-clause-goes g c =
    let hash = g.H.Hash32.digest_of c.args.trail.now.hasher in
    let messages = c.args.trail.now.messages in
    rw c.requires.event (goes_passing hash c.args.board.now messages c.args.blocks c.record_blocks.new.board c.args.trace.now
    c.record_blocks.new.trace c.requires.few c.requires.playable c.in-Ok.ensures.board c.in-Ok.ensures.trace)

pub returns-in-Err-clause-halts : goal.returns-in-Err-clause-halts
returns-in-Err-clause-halts g c =
    let hash = g.H.Hash32.digest_of c.args.trail.now.hasher in
    rw c.requires.event (short_passing hash c.args.board.now c.args.trail.now.messages c.args.blocks)
