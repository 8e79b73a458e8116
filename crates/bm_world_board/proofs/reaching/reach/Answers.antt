use Rattle.std.proofs.Common.{refl, sym, ◌∙◌}
use Rattle.std.proofs.lemmas.Result.{err_from_is_err_and}
use Rattle.bm_world_board.specs.Prepares.{setup_of, world_of}
use Rattle.bm_world_board.proofs.Reached.{stops_in_strings, stops_in_items, reach_refused, reach_accepted}
use Rattle.bm_world_board.proofs.reaching.reach.Goals as goal

pub returns-in_err-judged-clause-err : goal.returns-in_err-judged-clause-err
returns-in_err-judged-clause-err g c =
    let hash = g.H.Hash32.digest_of c.args.trail.now.hasher in
    let p = err_from_is_err_and c.from_residual.result c.from_residual.ensures.1 in
    rw (p.1, p.2) (stops_in_strings (setup_of hash c.args.board.now) (world_of c.args.board.now c.args.trail.now.messages) c.args.tx _ _ _
    c.in_err-judged.ensures.trail.2)

pub returns-in-Some-clause-ok : goal.returns-in-Some-clause-ok
returns-in-Some-clause-ok g c =
    let hash = g.H.Hash32.digest_of c.args.trail.now.hasher in
    reach_refused (setup_of hash c.args.board.now) (world_of c.args.board.now c.args.trail.now.messages) c.args.tx _ _ c.in-Some.refusal c.refused.result (sym c.in_ok-judged.ensures.refusal ∙ c.in-Some.is) c.in_ok-judged.ensures.trail.1
    c.refused.ensures.same c.refused.ensures.change

pub returns-in_err-pending_change-clause-err : goal.returns-in_err-pending_change-clause-err
returns-in_err-pending_change-clause-err g c =
    let hash = g.H.Hash32.digest_of c.args.trail.now.hasher in
    let p = err_from_is_err_and c.from_residual-in_err-pending_change.result c.from_residual-in_err-pending_change.ensures.1 in
    rw (p.1, p.2) (stops_in_items (setup_of hash c.args.board.now) (world_of c.args.board.now c.args.trail.now.messages) c.args.tx _ _ _ _
    (sym c.in_ok-judged.ensures.refusal ∙ c.in_default.is) c.in_ok-judged.ensures.trail.1
    (rw c.in_ok-judged.ensures.trail.0 at c.in_err-pending_change.ensures.trail.2))

pub returns-clause-ok : goal.returns-clause-ok
returns-clause-ok g c =
    let hash = g.H.Hash32.digest_of c.args.trail.now.hasher in
    reach_accepted (setup_of hash c.args.board.now) (world_of c.args.board.now c.args.trail.now.messages) c.args.tx _ _ _ _ _ _ refl
    c.requires.clear c.requires.fresh (sym c.in_ok-judged.ensures.refusal ∙ c.in_default.is) c.in_ok-judged.ensures.trail.1
    (rw c.in_ok-judged.ensures.trail.0 at c.in_ok-pending_change.ensures.trail.1)
    c.in_ok-judged.ensures.id c.requires.purpose (c.in_ok-pending_change.ensures.pending hash c.args.trail.now.messages)
    (c.in_ok-pending_change.ensures.ready hash c.args.trail.now.messages)
