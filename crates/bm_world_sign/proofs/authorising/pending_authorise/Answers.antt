use Rattle.std.proofs.Common.{[], sym, ◌∙◌}
use Rattle.bm_world_board.specs.Prepares.{world_of}
use Rattle.bm_world_board.proofs.Refusals.{prepares_refused, prepares_passed}
use Rattle.bm_world_sign.proofs.Signed.{as_listed}
use Rattle.bm_world_sign.proofs.authorising.pending_authorise.Goals as goal

pub returns-in-Some-clause-ok : goal.returns-in-Some-clause-ok
returns-in-Some-clause-ok g c =
    let hash = g.H.Hash32.digest_of c.args.trail.now.hasher in
    let messages = c.args.trail.now.messages in
    prepares_refused hash (world_of c.args.board.now messages) messages _ c.in-Some.reason _ _
    (sym (c.authorise_refusal.ensures hash messages) ∙ c.in-Some.is) c.refused.ensures.same c.refused.ensures.change c.requires.playable.clear

pub returns-clause-ok : goal.returns-clause-ok
returns-clause-ok g c =
    let hash = g.H.Hash32.digest_of c.args.trail.now.hasher in
    let messages = c.args.trail.now.messages in
    prepares_passed hash _ (world_of c.args.board.now messages) messages messages _ [] _ _
    (sym (c.authorise_refusal.ensures hash messages) ∙ c.in_default.is)
    (rw (as_listed c.in_ok-pair.pair c.as_slice.result.now c.as_slice.ensures, c.in_ok-pair.ensures) at
    (c.in_ok-pending_change.ensures.ok hash messages c.requires.playable.clear))
