use Rattle.std.proofs.lemmas.Result.{err_from_is_err_and}
use Rattle.bm_hash.proofs.HashesLemmas.{stops_late}
use Rattle.bm_world_commit.proofs.Bound.{bound_at}
use Rattle.bm_world.proofs.telling.pending_committed.Goals as goal

pub pending_commit-requires-clause-bound : goal.pending_commit-requires-clause-bound
pending_commit-requires-clause-bound g c = bound_at _ c.requires.playable.kept.config _ c.requires.playable.kept.books _

pub returns-in_err-boxed-clause-err : goal.returns-in_err-boxed-clause-err
returns-in_err-boxed-clause-err g c =
    let p = err_from_is_err_and c.from_residual-in_err-boxed.result c.from_residual-in_err-boxed.ensures.1 in
    rw (p.1, p.2) (stops_late (g.H.Hash32.digest_of c.args.trail.now.hasher) c.args.trail.now.messages c.pending_commit.new.trail.messages _
    c.in_ok-answer.ensures.ok.hashed)
