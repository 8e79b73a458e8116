use Rattle.std.proofs.Common.{[], sym, ap, ◌∙◌, arith}
use Rattle.std.specs.Prelude.{option_map}
use Rattle.std.proofs.lemmas.Result.{err_from_is_err_and}
use Rattle.spec_run.specs.Compiled.{compiled_instance}
use Rattle.spec_run.specs.Firing.{initial_by, reaches_if}
use Rattle.bm_world_board.specs.Prepares.{setup_of, world_of}
use Rattle.bm_world_board.proofs.Compilations.{compiled_is}
use Rattle.bm_world_board.proofs.Fresh.{fresh_tx}
use Rattle.bm_world_board.proofs.Refusals.{prepares_refused, prepares_passed, stops_passed}
use Rattle.bm_world_fire.proofs.Purposed.{start_purpose}
use Rattle.bm_world_fire.proofs.Reaching.{prepares_same, stops_same}
use Rattle.bm_world_fire.proofs.Small.{small_of}
use Rattle.bm_world_fire.proofs.Started.{started, started_is, refused_nowhere, refused_uncompiled, passed}
use Rattle.bm_world_fire.proofs.firing.pending_fire_init.Goals as goal

pub returns-in_default-clause-ok : goal.returns-in_default-clause-ok
returns-in_default-clause-ok g c =
    let hash = g.H.Hash32.digest_of c.args.trail.now.hasher in
    let messages = c.args.trail.now.messages in
    let s = setup_of hash c.args.board.now in
    let w = world_of c.args.board.now messages in
    prepares_refused hash w messages _ _ _ _
    (sym (refused_nowhere s w c.args.contract (sym c.contract.ensures ∙ ap (option_map (λ r. r.now)) c.in_default.is)))
    c.refused.ensures.same c.refused.ensures.change c.requires.playable.clear

pub returns-in_default-compiled-clause-ok : goal.returns-in_default-compiled-clause-ok
returns-in_default-compiled-clause-ok g c =
    let hash = g.H.Hash32.digest_of c.args.trail.now.hasher in
    let messages = c.args.trail.now.messages in
    let s = setup_of hash c.args.board.now in
    let w = world_of c.args.board.now messages in
    let there = sym c.contract.ensures ∙ ap (option_map (λ r. r.now)) c.in-Some.is in
    let none = sym (compiled_is s w c.args.contract c.args.board.now.compiled c.requires.playable.compiled)
    ∙ sym c.compiled.ensures ∙ ap (option_map (λ r. r.now)) c.in_default-compiled.is in
    prepares_refused hash w messages _ _ _ _ (sym (refused_uncompiled s w c.args.contract _ there none))
    c.refused-in_default-compiled.ensures.same c.refused-in_default-compiled.ensures.change c.requires.playable.clear

pub reach-requires-clause-few : goal.reach-requires-clause-few
reach-requires-clause-few g c =
    let s = setup_of (g.H.Hash32.digest_of c.args.trail.now.hasher) c.args.board.now in
    let w = world_of c.args.board.now c.args.trail.now.messages in
    let there = sym c.contract.ensures ∙ ap (option_map (λ r. r.now)) c.in-Some.is in
    let some = sym (compiled_is s w c.args.contract c.args.board.now.compiled c.requires.playable.compiled)
    ∙ sym c.compiled.ensures ∙ ap (option_map (λ r. r.now)) c.in-Some-compiled.is in
    let is = started s w c.args.contract _ _ there some c.in_ok-tx.tx (rw c.hasher.ensures at c.in_ok-tx.ensures) in
    let keeps = c.requires.playable.kept in
    let small = (small_of s c.requires.playable.setup keeps.config w keeps.books).initial c.args.contract c.in_ok-tx.tx (sym (started_is s w _ _ is)) in
    omega (arith, small.inputs)

pub reach-requires-clause-room : goal.reach-requires-clause-room
reach-requires-clause-room g c =
    let s = setup_of (g.H.Hash32.digest_of c.args.trail.now.hasher) c.args.board.now in
    let w = world_of c.args.board.now c.args.trail.now.messages in
    let there = sym c.contract.ensures ∙ ap (option_map (λ r. r.now)) c.in-Some.is in
    let some = sym (compiled_is s w c.args.contract c.args.board.now.compiled c.requires.playable.compiled)
    ∙ sym c.compiled.ensures ∙ ap (option_map (λ r. r.now)) c.in-Some-compiled.is in
    let is = started s w c.args.contract _ _ there some c.in_ok-tx.tx (rw c.hasher.ensures at c.in_ok-tx.ensures) in
    let keeps = c.requires.playable.kept in
    let small = (small_of s c.requires.playable.setup keeps.config w keeps.books).initial c.args.contract c.in_ok-tx.tx (sym (started_is s w _ _ is)) in
    omega (arith, small.outputs, c.requires.playable.room)

pub reach-requires-clause-fresh : goal.reach-requires-clause-fresh
reach-requires-clause-fresh g c =
    let s = setup_of (g.H.Hash32.digest_of c.args.trail.now.hasher) c.args.board.now in
    let w = world_of c.args.board.now c.args.trail.now.messages in
    let there = sym c.contract.ensures ∙ ap (option_map (λ r. r.now)) c.in-Some.is in
    let some = sym (compiled_is s w c.args.contract c.args.board.now.compiled c.requires.playable.compiled)
    ∙ sym c.compiled.ensures ∙ ap (option_map (λ r. r.now)) c.in-Some-compiled.is in
    let is = started s w c.args.contract _ _ there some c.in_ok-tx.tx (rw c.hasher.ensures at c.in_ok-tx.ensures) in
    let keeps = c.requires.playable.kept in
    let small = (small_of s c.requires.playable.setup keeps.config w keeps.books).initial c.args.contract c.in_ok-tx.tx (sym (started_is s w _ _ is)) in
    fresh_tx s c.requires.playable.setup keeps.config w keeps.books c.in_ok-tx.tx small.numbered

pub reach-requires-clause-purpose : goal.reach-requires-clause-purpose
reach-requires-clause-purpose g c =
    let s = setup_of (g.H.Hash32.digest_of c.args.trail.now.hasher) c.args.board.now in
    let w = world_of c.args.board.now c.args.trail.now.messages in
    let there = sym c.contract.ensures ∙ ap (option_map (λ r. r.now)) c.in-Some.is in
    let some = sym (compiled_is s w c.args.contract c.args.board.now.compiled c.requires.playable.compiled)
    ∙ sym c.compiled.ensures ∙ ap (option_map (λ r. r.now)) c.in-Some-compiled.is in
    let is = started s w c.args.contract _ _ there some c.in_ok-tx.tx (rw c.hasher.ensures at c.in_ok-tx.ensures) in
    let keeps = c.requires.playable.kept in
    start_purpose s c.requires.playable.setup keeps.config w keeps.books c.args.contract is.instance is.compiled c.in_ok-tx.tx is.is _
    c.initial_purpose-purpose.ensures.positions c.initial_purpose-purpose.ensures.begins

pub returns-in_err-pending_change-clause-err : goal.returns-in_err-pending_change-clause-err
returns-in_err-pending_change-clause-err g c =
    let hash = g.H.Hash32.digest_of c.args.trail.now.hasher in
    let messages = c.args.trail.now.messages in
    let s = setup_of hash c.args.board.now in
    let w = world_of c.args.board.now messages in
    let there = sym c.contract.ensures ∙ ap (option_map (λ r. r.now)) c.in-Some.is in
    let some = sym (compiled_is s w c.args.contract c.args.board.now.compiled c.requires.playable.compiled)
    ∙ sym c.compiled.ensures ∙ ap (option_map (λ r. r.now)) c.in-Some-compiled.is in
    let is = started s w c.args.contract _ _ there some c.in_ok-tx.tx (rw c.hasher.ensures at c.in_ok-tx.ensures) in
    let p = err_from_is_err_and c.from_residual-in_err-pending_change.result c.from_residual-in_err-pending_change.ensures.1 in
    rw (p.1, p.2) (stops_passed hash w messages _ _ [] (reaches_if s w (initial_by s (compiled_instance s w c.args.contract))) _
    (sym (passed s w c.args.contract _ _ there some))
    (stops_same s w messages _ _ _ (started_is s w _ _ is) _ c.in_err-pending_change.ensures.err))

pub returns-clause-ok : goal.returns-clause-ok
returns-clause-ok g c =
    let hash = g.H.Hash32.digest_of c.args.trail.now.hasher in
    let messages = c.args.trail.now.messages in
    let s = setup_of hash c.args.board.now in
    let w = world_of c.args.board.now messages in
    let there = sym c.contract.ensures ∙ ap (option_map (λ r. r.now)) c.in-Some.is in
    let some = sym (compiled_is s w c.args.contract c.args.board.now.compiled c.requires.playable.compiled)
    ∙ sym c.compiled.ensures ∙ ap (option_map (λ r. r.now)) c.in-Some-compiled.is in
    let is = started s w c.args.contract _ _ there some c.in_ok-tx.tx (rw c.hasher.ensures at c.in_ok-tx.ensures) in
    prepares_passed hash w w messages _ _ [] (reaches_if s w (initial_by s (compiled_instance s w c.args.contract))) _
    (sym (passed s w c.args.contract _ _ there some))
    (prepares_same s w messages _ _ _ (started_is s w _ _ is) _ c.in_ok-pending_change.ensures.ok)
