use Rattle.std.proofs.Common.{refl, ap}
use Rattle.std.proofs.lemmas.Result.{err_from_is_err_and}
use Rattle.bm_world_board.specs.declared.board.Board.{Board}
use Rattle.bm_world_board.specs.Prepares.{setup_of, world_of}
use Rattle.bm_world.proofs.Played.{makeable_of, memory_halts, goes_by}
use Rattle.bm_world.proofs.playing.attempt.Goals as goal

pub apply-requires : goal.apply-requires
apply-requires g c = record {
  ready = makeable_of (g.H.Hash32.digest_of c.args.trail.now.hasher) c.pending_passing.new.board c.args.trail.now.messages _ _
      c.in_ok-answer.answer.0 c.in_ok-answer.ensures.passes.prepares;
}

pub returns-in_err-outcome-clause-halts : goal.returns-in_err-outcome-clause-halts
returns-in_err-outcome-clause-halts g c =
    let hash = g.H.Hash32.digest_of c.args.trail.now.hasher in
    let p = err_from_is_err_and c.from_residual-in_err-outcome.result c.from_residual-in_err-outcome.ensures.1 in
    rw (p.1, p.2) (memory_halts (setup_of hash c.args.board.now) (world_of c.args.board.now c.args.trail.now.messages) _
    c.pending_passing.new.trail.messages c.args.event.now c.in_ok-answer.answer.0 c.requires.playable.clear
    c.in_ok-answer.ensures.passes.prepares)

pub returns-clause-goes : goal.returns-clause-goes
returns-clause-goes g c =
    let hash = g.H.Hash32.digest_of c.args.trail.now.hasher in
    rw c.in_ok-outcome.ensures.outcome
    (goes_by (setup_of hash c.args.board.now) (world_of c.args.board.now c.args.trail.now.messages) _ c.pending_passing.new.trail.messages
    c.args.board.now.compiled c.args.event.now c.in_ok-answer.answer.0 c.in_ok-answer.answer.1
    c.requires.playable.clear c.in_ok-answer.ensures.passes c.pending_passing.new.board c.apply.new.board _ c.args.trace.now
    c.apply.new.trace refl
    (ap (λ (b : Board). b.exchange.posted) c.pending_passing.ensures.signs.rest)
    (ap (λ (b : Board). b.compiled) c.pending_passing.ensures.signs.rest) c.in_ok-outcome.ensures.world refl c.place.ensures
    c.in_ok-outcome.ensures.trace)
