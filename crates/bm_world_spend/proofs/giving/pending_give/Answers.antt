use Rattle.std.proofs.Common.{[], sym, ◌∙◌, arith}
use Rattle.std.proofs.lemmas.Result.{err_from_is_err_and}
use Rattle.bm_world_board.specs.Prepares.{setup_of, world_of}
use Rattle.bm_world_board.proofs.Refusals.{prepares_refused, prepares_passed, stops_passed}
use Rattle.bm_world_spend.proofs.FewInputs.{few_inputs}
use Rattle.bm_world_spend.proofs.giving.pending_give.Goals as goal

pub pending_gift-requires-clause-few : goal.pending_gift-requires-clause-few
pending_gift-requires-clause-few g c =
    let hash = g.H.Hash32.digest_of c.args.trail.now.hasher in
    let messages = c.args.trail.now.messages in
    let fewer = few_inputs (setup_of hash c.args.board.now) (world_of c.args.board.now messages) c.args.party.now
    c.args.inputs.now c.args.outputs.now (sym (c.give_refusal.ensures hash messages c.requires.playable.accounts) ∙ c.in_default.is) in
    omega (arith, fewer, c.requires.playable.room)

pub pending_gift-requires-clause-passed : goal.pending_gift-requires-clause-passed
pending_gift-requires-clause-passed g c =
    let hash = g.H.Hash32.digest_of c.args.trail.now.hasher in
    sym (c.give_refusal.ensures hash c.args.trail.now.messages c.requires.playable.accounts) ∙ c.in_default.is

pub returns-in-Some-clause-ok : goal.returns-in-Some-clause-ok
returns-in-Some-clause-ok g c =
    let hash = g.H.Hash32.digest_of c.args.trail.now.hasher in
    let messages = c.args.trail.now.messages in
    prepares_refused hash (world_of c.args.board.now messages) messages _ c.in-Some.reason _ _
    (sym (c.give_refusal.ensures hash messages c.requires.playable.accounts) ∙ c.in-Some.is)
    c.refused.ensures.same c.refused.ensures.change c.requires.playable.clear

pub returns-in_err-pending_change-clause-err : goal.returns-in_err-pending_change-clause-err
returns-in_err-pending_change-clause-err g c =
    let hash = g.H.Hash32.digest_of c.args.trail.now.hasher in
    let messages = c.args.trail.now.messages in
    let p = err_from_is_err_and c.from_residual.result c.from_residual.ensures.1 in
    rw (p.1, p.2) (stops_passed hash (world_of c.args.board.now messages) _ _ _ [] _ _
    (sym (c.give_refusal.ensures hash messages c.requires.playable.accounts) ∙ c.in_default.is) c.in_err-pending_change.ensures.err)

pub returns-clause-ok : goal.returns-clause-ok
returns-clause-ok g c =
    let hash = g.H.Hash32.digest_of c.args.trail.now.hasher in
    let messages = c.args.trail.now.messages in
    prepares_passed hash _ (world_of c.args.board.now messages) _ _ _ [] _ _
    (sym (c.give_refusal.ensures hash messages c.requires.playable.accounts) ∙ c.in_default.is) c.in_ok-pending_change.ensures.ok
