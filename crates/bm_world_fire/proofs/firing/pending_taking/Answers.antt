use Rattle.std.proofs.Common.{Some, sym, ap, ◌∙◌, arith}
use Rattle.std.proofs.lemmas.Result.{err_from_is_err_and}
use Rattle.spec_run.specs.Ledger.{branch_holds}
use Rattle.spec_run.specs.Firing.{taking_of_position}
use Rattle.bm_syntax.specs.View.{guarded}
use Rattle.bm_world_board.specs.Prepares.{setup_of, world_of}
use Rattle.bm_world_board.proofs.Fresh.{fresh_tx}
use Rattle.bm_world_fire.proofs.Purposed.{taking_purpose}
use Rattle.bm_world_fire.proofs.Reaching.{prepares_same, stops_same}
use Rattle.bm_world_fire.proofs.Small.{small_of}
use Rattle.bm_world_fire.proofs.firing.pending_taking.Goals as goal

pub reach-requires-clause-few : goal.reach-requires-clause-few
reach-requires-clause-few g c =
    let s = setup_of (g.H.Hash32.digest_of c.args.trail.now.hasher) c.args.board.now in
    let w = world_of c.args.board.now c.args.trail.now.messages in
    let t = c.args.taking.now in
    let keeps = c.requires.playable.kept in
    let small = (small_of s c.requires.playable.setup keeps.config w keeps.books).taking c.requires.opened.output t.number c.in_ok-tx.tx
    (ap (λ o. taking_of_position s w o t.number) c.requires.opened.live ∙ sym c.in_ok-tx.ensures) in
    omega (arith, small.inputs)

pub reach-requires-clause-room : goal.reach-requires-clause-room
reach-requires-clause-room g c =
    let s = setup_of (g.H.Hash32.digest_of c.args.trail.now.hasher) c.args.board.now in
    let w = world_of c.args.board.now c.args.trail.now.messages in
    let t = c.args.taking.now in
    let keeps = c.requires.playable.kept in
    let small = (small_of s c.requires.playable.setup keeps.config w keeps.books).taking c.requires.opened.output t.number c.in_ok-tx.tx
    (ap (λ o. taking_of_position s w o t.number) c.requires.opened.live ∙ sym c.in_ok-tx.ensures) in
    omega (arith, small.outputs, c.requires.playable.room)

pub reach-requires-clause-fresh : goal.reach-requires-clause-fresh
reach-requires-clause-fresh g c =
    let s = setup_of (g.H.Hash32.digest_of c.args.trail.now.hasher) c.args.board.now in
    let w = world_of c.args.board.now c.args.trail.now.messages in
    let t = c.args.taking.now in
    let keeps = c.requires.playable.kept in
    let small = (small_of s c.requires.playable.setup keeps.config w keeps.books).taking c.requires.opened.output t.number c.in_ok-tx.tx
    (ap (λ o. taking_of_position s w o t.number) c.requires.opened.live ∙ sym c.in_ok-tx.ensures) in
    fresh_tx s c.requires.playable.setup keeps.config w keeps.books c.in_ok-tx.tx small.numbered

pub reach-requires-clause-purpose : goal.reach-requires-clause-purpose
reach-requires-clause-purpose g c =
    let s = setup_of (g.H.Hash32.digest_of c.args.trail.now.hasher) c.args.board.now in
    let w = world_of c.args.board.now c.args.trail.now.messages in
    let t = c.args.taking.now in
    let b = guarded t.branch.now in
    let keeps = c.requires.playable.kept in
    taking_purpose s c.requires.playable.setup keeps.config w keeps.books c.requires.opened.output t.number t.held.now
    c.requires.opened.live b c.requires.opened.branch c.in_ok-tx.tx c.in_ok-tx.ensures _
    (λ k. c.in_ok-purpose.ensures.positions k ∙ ap (λ path. branch_holds t.held.now.contract path (Some b) k) c.requires.taking.path)
    c.in_ok-purpose.ensures.begins

pub returns-in_err-pending_change-clause-err : goal.returns-in_err-pending_change-clause-err
returns-in_err-pending_change-clause-err g c =
    let hash = g.H.Hash32.digest_of c.args.trail.now.hasher in
    let s = setup_of hash c.args.board.now in
    let w = world_of c.args.board.now c.args.trail.now.messages in
    let p = err_from_is_err_and c.from_residual-in_err-pending_change.result c.from_residual-in_err-pending_change.ensures.1 in
    rw (p.1, p.2) (stops_same s w c.args.trail.now.messages _ _ _ c.in_ok-tx.ensures _
    c.in_err-pending_change.ensures.err)

pub returns-clause-ok : goal.returns-clause-ok
returns-clause-ok g c =
    let hash = g.H.Hash32.digest_of c.args.trail.now.hasher in
    let s = setup_of hash c.args.board.now in
    let w = world_of c.args.board.now c.args.trail.now.messages in
    prepares_same s w c.args.trail.now.messages _ _ _ c.in_ok-tx.ensures _ c.in_ok-pending_change.ensures.ok
