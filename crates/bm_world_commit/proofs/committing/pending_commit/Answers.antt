use Rattle.std.proofs.Common.{◌≡◌, [], sym, ap, subst, ◌∙◌}
use Rattle.std.specs.Prelude.{if◌then◌else◌}
use Rattle.std.proofs.lemmas.Result.{err_from_is_err_and}
use Rattle.spec_run.specs.Setup.{is_honest}
use Rattle.spec_run.specs.Committing.{secrets_at, own_strings, committed_strings}
use Rattle.bm_hash.specs.Trails.{Hashed, Stops}
use Rattle.bm_match.specs.Matches.{all_compiled}
use Rattle.bm_world_board.specs.Compiling.{placed}
use Rattle.bm_world_board.specs.Prepares.{setup_of, world_of, Prepares}
use Rattle.bm_world_board.proofs.Refusals.{prepares_refused}
use Rattle.bm_world_commit.specs.Committed.{later_pending}
use Rattle.bm_world_commit.proofs.Whole.{prepares_whole, stops_own, stops_later, world_whole, world_refused}
use Rattle.bm_world_commit.proofs.committing.pending_commit.Goals as goal

pub returns-in-Some-clause-ok : goal.returns-in-Some-clause-ok
returns-in-Some-clause-ok g c =
    let hash = g.H.Hash32.digest_of c.args.trail.now.hasher in
    let messages = c.args.trail.now.messages in
    prepares_refused hash (world_of c.args.board.now messages) messages _ c.in-Some.reason _ _
    (sym (c.commit_refusal.ensures hash messages) ∙ c.in-Some.is) c.refused.ensures.same c.refused.ensures.change c.requires.clear

pub returns-in-Some-clause-compiled : goal.returns-in-Some-clause-compiled
returns-in-Some-clause-compiled g c =
    let hash = g.H.Hash32.digest_of c.args.trail.now.hasher in
    let s = setup_of hash c.args.board.now in
    let messages = c.args.trail.now.messages in
    let w = world_of c.args.board.now messages in
    c.requires.compiled ∙ ap (all_compiled s) (world_refused s w c.args.contract c.args.party.now c.args.digests.now c.in-Some.reason
    (sym (c.commit_refusal.ensures hash messages) ∙ c.in-Some.is))

pub returns-in_err-committed-clause-err : goal.returns-in_err-committed-clause-err
returns-in_err-committed-clause-err g c =
    let hash = g.H.Hash32.digest_of c.args.trail.now.hasher in
    let s = setup_of hash c.args.board.now in
    let old = c.args.trail.now.messages in
    let new = c.committed_digests.new.trail.messages in
    let w = world_of c.args.board.now old in
    let party = c.args.party.now in
    let named : c.as_slice-2.result.now ≡ secrets_at s c.args.contract party = c.as_slice-2.ensures ∙ c.in_ok-names.ensures in
    let p = err_from_is_err_and c.from_residual-in_err-committed.result c.from_residual-in_err-committed.ensures.1 in
    let stops : Stops hash old new (committed_strings s c.args.contract party) c.in_err-committed.field-0.0 =
    subst (λ names. Stops hash old new (if is_honest s party then own_strings s party names else []) c.in_err-committed.field-0.0)
    named c.in_err-committed.ensures.trail.2 in
    rw (p.1, p.2) (stops_own s w c.args.contract party c.args.digests.now old new c.in_err-committed.field-0.0
    (sym (c.commit_refusal.ensures hash old) ∙ c.in_default.is) stops)

pub pending_committed-requires-clause-row : goal.pending_committed-requires-clause-row
pending_committed-requires-clause-row g c =
    λ messages. sym (c.commit_refusal.ensures (g.H.Hash32.digest_of c.committed_digests.new.trail.hasher) messages) ∙ c.in_default.is

pub returns-in_err-pending_change-clause-err : goal.returns-in_err-pending_change-clause-err
returns-in_err-pending_change-clause-err g c =
    let digest = g.H.Hash32.digest_of in
    let hash = digest c.args.trail.now.hasher in
    let b = c.args.board.now in
    let s = setup_of hash b in
    let old = c.args.trail.now.messages in
    let mid = c.committed_digests.new.trail.messages in
    let new = c.pending_committed.new.trail.messages in
    let w = world_of b old in
    let k = c.args.contract in
    let party = c.args.party.now in
    let named : c.as_slice-2.result.now ≡ secrets_at s k party = c.as_slice-2.ensures ∙ c.in_ok-names.ensures in
    let hashed : Hashed hash old mid (committed_strings s k party) =
    subst (λ names. Hashed hash old mid (if is_honest s party then own_strings s party names else [])) named c.in_ok-committed.ensures.trail.1 in
    let stops = subst (λ h. Stops (digest h) mid new ((later_pending (setup_of (digest h) b) w k party c.args.digests.now).hashes)
    c.in_err-pending_change.field-0.0) c.in_ok-committed.ensures.trail.0 (c.in_err-pending_change.ensures.err old) in
    let p = err_from_is_err_and c.from_residual-in_err-pending_change.result c.from_residual-in_err-pending_change.ensures.1 in
    rw (p.1, p.2) (stops_later s w k party c.args.digests.now old mid new c.in_err-pending_change.field-0.0
    (sym (c.commit_refusal.ensures hash old) ∙ c.in_default.is) hashed stops)

pub returns-clause-ok : goal.returns-clause-ok
returns-clause-ok g c =
    let digest = g.H.Hash32.digest_of in
    let hash = digest c.args.trail.now.hasher in
    let b = c.args.board.now in
    let s = setup_of hash b in
    let old = c.args.trail.now.messages in
    let mid = c.committed_digests.new.trail.messages in
    let new = c.pending_committed.new.trail.messages in
    let w = world_of b old in
    let k = c.args.contract in
    let party = c.args.party.now in
    let x = c.in_ok-pending_change.pending_change.0 in
    let named : c.as_slice-2.result.now ≡ secrets_at s k party = c.as_slice-2.ensures ∙ c.in_ok-names.ensures in
    let hashed : Hashed hash old mid (committed_strings s k party) =
    subst (λ names. Hashed hash old mid (if is_honest s party then own_strings s party names else [])) named c.in_ok-committed.ensures.trail.1 in
    let prepares = subst (λ h. Prepares (digest h) w mid new (later_pending (setup_of (digest h) b) w k party c.args.digests.now) x)
    c.in_ok-committed.ensures.trail.0 (c.in_ok-pending_change.ensures.ok old) in
    prepares_whole s w k party c.args.digests.now w old mid new x (sym (c.commit_refusal.ensures hash old) ∙ c.in_default.is) hashed prepares

pub returns-clause-compiled : goal.returns-clause-compiled
returns-clause-compiled g c =
    let digest = g.H.Hash32.digest_of in
    let hash = digest c.args.trail.now.hasher in
    let b = c.args.board.now in
    let s = setup_of hash b in
    let old = c.args.trail.now.messages in
    let w = world_of b old in
    let k = c.args.contract in
    let party = c.args.party.now in
    let same = c.in_ok-committed.ensures.trail.0 in
    let all = subst (λ h. b.compiled ≡ all_compiled (setup_of (digest h) b) w) (sym same) c.requires.compiled in
    subst (λ h. placed c.in_ok-pending_change.pending_change.1 b.compiled
    ≡ all_compiled (setup_of (digest h) b) (later_pending (setup_of (digest h) b) w k party c.args.digests.now).world) same
    (c.in_ok-pending_change.ensures.compiled old all)
    ∙ ap (all_compiled s) (world_whole s w k party c.args.digests.now (sym (c.commit_refusal.ensures hash old) ∙ c.in_default.is))
