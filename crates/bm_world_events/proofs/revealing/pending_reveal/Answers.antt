use Rattle.std.proofs.Common.{sym, ◌∙◌, ◌∷◌, []}
use Rattle.std.proofs.lemmas.Result.{err_from_is_err_and}
use Rattle.bm_world_board.specs.Prepares.{world_of}
use Rattle.bm_world_board.proofs.Refusals.{prepares_refused, prepares_passed, stops_passed}
use Rattle.bm_world_events.proofs.revealing.pending_reveal.Goals as goal

pub returns-in-Some-clause-ok : goal.returns-in-Some-clause-ok
returns-in-Some-clause-ok g c =
    let hash = g.H.Hash32.digest_of c.args.trail.now.hasher in
    let messages = c.args.trail.now.messages in
    prepares_refused hash (world_of c.args.board.now messages) _ _ c.in-Some.reason _ _ (sym (c.reveal_refusal.ensures hash messages) ∙ c.in-Some.is) c.refused.ensures.same c.refused.ensures.change c.requires.clear

pub returns-in_err-pending_change-clause-err : goal.returns-in_err-pending_change-clause-err
returns-in_err-pending_change-clause-err g c =
    let hash = g.H.Hash32.digest_of c.args.trail.now.hasher in
    let messages = c.args.trail.now.messages in
    let p = err_from_is_err_and c.from_residual.result c.from_residual.ensures.1 in
    rw (p.1, p.2) (stops_passed hash (world_of c.args.board.now messages) _ _ _ [] _ _
    (sym (c.reveal_refusal.ensures hash messages) ∙ c.in_default.is) (rw c.as_slice.ensures at c.in_err-pending_change.ensures.err))

pub returns-clause-ok : goal.returns-clause-ok
returns-clause-ok g c =
    let hash = g.H.Hash32.digest_of c.args.trail.now.hasher in
    let messages = c.args.trail.now.messages in
    let w = world_of c.args.board.now messages in
    prepares_passed hash w w _ _ _ [] _ _ (sym (c.reveal_refusal.ensures hash messages) ∙ c.in_default.is)
    (rw c.as_slice.ensures at (c.in_ok-pending_change.ensures.ok w))
