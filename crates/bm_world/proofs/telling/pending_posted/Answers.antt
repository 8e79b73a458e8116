use Rattle.std.proofs.lemmas.Result.{err_from_is_err_and}
use Rattle.bm_hash.proofs.HashesLemmas.{stops_late}
use Rattle.bm_world_board.specs.Prepares.{world_of}
use Rattle.bm_world.proofs.telling.pending_posted.Goals as goal

pub returns-in_err-new-clause-err : goal.returns-in_err-new-clause-err
returns-in_err-new-clause-err g c =
    let p = err_from_is_err_and c.from_residual-in_err-new.result c.from_residual-in_err-new.ensures.1 in
    let w = world_of c.args.board.now c.args.trail.now.messages in
    rw (p.1, p.2) (stops_late (g.H.Hash32.digest_of c.args.trail.now.hasher) c.args.trail.now.messages c.pending_post.new.trail.messages _
    (c.in_ok-pending_change.ensures.ok w).hashed)

pub returns-clause-ok : goal.returns-clause-ok
returns-clause-ok g c = rw c.in_ok-new.ensures (c.in_ok-pending_change.ensures.ok (world_of c.args.board.now c.args.trail.now.messages))
