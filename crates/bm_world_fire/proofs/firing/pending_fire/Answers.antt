use Rattle.std.proofs.Common.{◌≡◌, Some, None, [], sym, ap, ◌∙◌}
use Rattle.std.specs.Prelude.{option_map, is_some}
use Rattle.std.specs.Option.{option_copied}
use Rattle.std.proofs.lemmas.Result.{err_from_is_err_and}
use Rattle.spec_run.specs.World.{digests_at, live_position_at}
use Rattle.spec_run.specs.Ledger.{position_branch}
use Rattle.spec_run.specs.Firing.{reaches_if, taking_of_position}
use Rattle.bm_compile.specs.Numbered.{numbered}
use Rattle.bm_syntax.specs.View.{guarded}
use Rattle.bm_world_board.specs.Prepares.{setup_of, world_of}
use Rattle.bm_world_board.proofs.Compilations.{compiled_is}
use Rattle.bm_world_board.proofs.Refusals.{prepares_refused, prepares_passed, stops_passed}
use Rattle.bm_world_fire.specs.Shown.{first_unshown_by}
use Rattle.bm_world_fire.proofs.Kept.{standing_of}
use Rattle.bm_world_fire.proofs.Reaching.{prepares_same, stops_same}
use Rattle.bm_world_fire.proofs.Taken.{advert_there}
use Rattle.bm_world_fire.proofs.Unknown.{unknown_some, refused_inactive, refused_branchless, refused_unknown, passed}
use Rattle.bm_world_fire.proofs.firing.pending_fire.Goals as goal

pub returns-in_default-clause-ok : goal.returns-in_default-clause-ok
returns-in_default-clause-ok g c =
    let hash = g.H.Hash32.digest_of c.args.trail.now.hasher in
    let messages = c.args.trail.now.messages in
    let s = setup_of hash c.args.board.now in
    let w = world_of c.args.board.now messages in
    let none : live_position_at w c.args.output ≡ None = sym c.held_at.ensures ∙ ap option_copied c.in_default.is in
    prepares_refused hash w messages _ _ _ _ (sym (refused_inactive s w c.args.output c.args.branch none))
    c.refused.ensures.same c.refused.ensures.change c.requires.playable.clear

pub returns-in_default-branch_held-clause-ok : goal.returns-in_default-branch_held-clause-ok
returns-in_default-branch_held-clause-ok g c =
    let hash = g.H.Hash32.digest_of c.args.trail.now.hasher in
    let messages = c.args.trail.now.messages in
    let s = setup_of hash c.args.board.now in
    let w = world_of c.args.board.now messages in
    let held = c.in-Some.held.now in
    let live : live_position_at w c.args.output ≡ Some held = sym c.held_at.ensures ∙ ap option_copied c.in-Some.is in
    let none : position_branch s held c.args.branch ≡ None =
    sym (c.branch_held.ensures hash) ∙ ap (option_map (λ r. guarded r.now)) c.in_default-branch_held.is in
    prepares_refused hash w messages _ _ _ _ (sym (refused_branchless s w c.args.output c.args.branch held live none))
    c.refused-in_default-branch_held.ensures.same c.refused-in_default-branch_held.ensures.change c.requires.playable.clear

pub taking_of-requires-clause-contract : goal.taking_of-requires-clause-contract
taking_of-requires-clause-contract g c =
    let s = setup_of (g.H.Hash32.digest_of c.args.trail.now.hasher) c.args.board.now in
    let w = world_of c.args.board.now c.args.trail.now.messages in
    let held = c.in-Some.held.now in
    let live : live_position_at w c.args.output ≡ Some held = sym c.held_at.ensures ∙ ap option_copied c.in-Some.is in
    let is = (standing_of s c.requires.playable.kept.config w c.requires.playable.kept.books).held c.args.output held live in
    ap is_some (advert_there s w held is)

pub taking_of-requires-clause-compiled : goal.taking_of-requires-clause-compiled
taking_of-requires-clause-compiled g c =
    let b = c.args.board.now in
    let s = setup_of (g.H.Hash32.digest_of c.args.trail.now.hasher) b in
    let w = world_of b c.args.trail.now.messages in
    let held = c.in-Some.held.now in
    let live : live_position_at w c.args.output ≡ Some held = sym c.held_at.ensures ∙ ap option_copied c.in-Some.is in
    let is = (standing_of s c.requires.playable.kept.config w c.requires.playable.kept.books).held c.args.output held live in
    ap is_some (compiled_is s w held.contract b.compiled c.requires.playable.compiled ∙ ap (option_map (numbered s.hash)) is.compiled)

pub pending_taking-requires-clause-opened : goal.pending_taking-requires-clause-opened
pending_taking-requires-clause-opened g c =
    let hash = g.H.Hash32.digest_of c.args.trail.now.hasher in
    let s = setup_of hash c.args.board.now in
    let w = world_of c.args.board.now c.args.trail.now.messages in
    let held = c.in-Some.held.now in
    let live : live_position_at w c.args.output ≡ Some held = sym c.held_at.ensures ∙ ap option_copied c.in-Some.is in
    let there : position_branch s held c.args.branch ≡ Some (guarded c.in-Some-branch_held.taken.now) =
    sym (c.branch_held.ensures hash) ∙ ap (option_map (λ r. guarded r.now)) c.in-Some-branch_held.is in
    record {
      output = c.args.output;
      live = live ∙ ap Some (sym c.in_ok-taking.ensures.held);
      branch = (λ i. position_branch s (c.in_ok-taking.ensures.held i) (c.in_ok-taking.ensures.number i)) ∙ there
          ∙ ap (λ r. Some (guarded r)) (sym c.in_ok-taking.ensures.branch);
    }

pub returns-in-Some-first_unshown-clause-ok : goal.returns-in-Some-first_unshown-clause-ok
returns-in-Some-first_unshown-clause-ok g c =
    let hash = g.H.Hash32.digest_of c.args.trail.now.hasher in
    let b = c.args.board.now in
    let messages = c.args.trail.now.messages in
    let s = setup_of hash b in
    let w = world_of b messages in
    let held = c.in-Some.held.now in
    let taken = guarded c.in-Some-branch_held.taken.now in
    let live : live_position_at w c.args.output ≡ Some held = sym c.held_at.ensures ∙ ap option_copied c.in-Some.is in
    let there : position_branch s held c.args.branch ≡ Some taken =
    sym (c.branch_held.ensures hash) ∙ ap (option_map (λ r. guarded r.now)) c.in-Some-branch_held.is in
    let is = (standing_of s c.requires.playable.kept.config w c.requires.playable.kept.books).held c.args.output held live in
    let hashes = c.as_slice.ensures ∙ c.in_ok-taking.ensures.taking.hashes ∙ ap (λ h. digests_at b.exchange.promises h.contract) c.in_ok-taking.ensures.held in
    let name = c.first_unshown.ensures ∙ (λ i. first_unshown_by s b.exchange.posted (hashes i) (c.reveals-secrets.ensures i))
    ∙ unknown_some s w held.contract taken _ (ap (option_map (numbered s.hash)) is.compiled) in
    prepares_refused hash w messages _ _ _ _
    (sym (refused_unknown s w c.args.output c.args.branch held live taken there c.in-Some-first_unshown.name (sym name ∙ c.in-Some-first_unshown.is)))
    c.refused-in-Some-first_unshown.ensures.same c.refused-in-Some-first_unshown.ensures.change c.requires.playable.clear

pub returns-in_err-pending_change-clause-err : goal.returns-in_err-pending_change-clause-err
returns-in_err-pending_change-clause-err g c =
    let hash = g.H.Hash32.digest_of c.args.trail.now.hasher in
    let b = c.args.board.now in
    let messages = c.args.trail.now.messages in
    let s = setup_of hash b in
    let w = world_of b messages in
    let held = c.in-Some.held.now in
    let taken = guarded c.in-Some-branch_held.taken.now in
    let live : live_position_at w c.args.output ≡ Some held = sym c.held_at.ensures ∙ ap option_copied c.in-Some.is in
    let there : position_branch s held c.args.branch ≡ Some taken =
    sym (c.branch_held.ensures hash) ∙ ap (option_map (λ r. guarded r.now)) c.in-Some-branch_held.is in
    let is = (standing_of s c.requires.playable.kept.config w c.requires.playable.kept.books).held c.args.output held live in
    let hashes = c.as_slice.ensures ∙ c.in_ok-taking.ensures.taking.hashes ∙ ap (λ h. digests_at b.exchange.promises h.contract) c.in_ok-taking.ensures.held in
    let name = c.first_unshown.ensures ∙ (λ i. first_unshown_by s b.exchange.posted (hashes i) (c.reveals-secrets.ensures i))
    ∙ unknown_some s w held.contract taken _ (ap (option_map (numbered s.hash)) is.compiled) in
    let made : taking_of_position s w (Some c.in_ok-taking.taking.held.now) c.in_ok-taking.taking.number
    ≡ taking_of_position s w (live_position_at w c.args.output) c.args.branch =
    (λ i. taking_of_position s w (Some (c.in_ok-taking.ensures.held i)) (c.in_ok-taking.ensures.number i))
    ∙ ap (λ o. taking_of_position s w o c.args.branch) (sym live) in
    let p = err_from_is_err_and c.from_residual-in_err-pending_change.result c.from_residual-in_err-pending_change.ensures.1 in
    rw (p.1, p.2) (stops_passed hash w messages _ _ [] (reaches_if s w (taking_of_position s w (live_position_at w c.args.output) c.args.branch)) _
    (sym (passed s w c.args.output c.args.branch held live taken there (sym name ∙ c.in_default-first_unshown.is)))
    (stops_same s w messages _ _ _ made _ c.in_err-pending_change.ensures.err))

pub returns-clause-ok : goal.returns-clause-ok
returns-clause-ok g c =
    let hash = g.H.Hash32.digest_of c.args.trail.now.hasher in
    let b = c.args.board.now in
    let messages = c.args.trail.now.messages in
    let s = setup_of hash b in
    let w = world_of b messages in
    let held = c.in-Some.held.now in
    let taken = guarded c.in-Some-branch_held.taken.now in
    let live : live_position_at w c.args.output ≡ Some held = sym c.held_at.ensures ∙ ap option_copied c.in-Some.is in
    let there : position_branch s held c.args.branch ≡ Some taken =
    sym (c.branch_held.ensures hash) ∙ ap (option_map (λ r. guarded r.now)) c.in-Some-branch_held.is in
    let is = (standing_of s c.requires.playable.kept.config w c.requires.playable.kept.books).held c.args.output held live in
    let hashes = c.as_slice.ensures ∙ c.in_ok-taking.ensures.taking.hashes ∙ ap (λ h. digests_at b.exchange.promises h.contract) c.in_ok-taking.ensures.held in
    let name = c.first_unshown.ensures ∙ (λ i. first_unshown_by s b.exchange.posted (hashes i) (c.reveals-secrets.ensures i))
    ∙ unknown_some s w held.contract taken _ (ap (option_map (numbered s.hash)) is.compiled) in
    let made : taking_of_position s w (Some c.in_ok-taking.taking.held.now) c.in_ok-taking.taking.number
    ≡ taking_of_position s w (live_position_at w c.args.output) c.args.branch =
    (λ i. taking_of_position s w (Some (c.in_ok-taking.ensures.held i)) (c.in_ok-taking.ensures.number i))
    ∙ ap (λ o. taking_of_position s w o c.args.branch) (sym live) in
    prepares_passed hash w w messages _ _ [] (reaches_if s w (taking_of_position s w (live_position_at w c.args.output) c.args.branch)) _
    (sym (passed s w c.args.output c.args.branch held live taken there (sym name ∙ c.in_default-first_unshown.is)))
    (prepares_same s w messages _ _ _ made _ c.in_ok-pending_change.ensures.ok)
