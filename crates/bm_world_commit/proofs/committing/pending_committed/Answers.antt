use Rattle.std.proofs.Common.{◌≡◌, [], true, Some, None, refl, sym, ap, subst, ◌∙◌}
use Rattle.std.specs.Prelude.{is_some}
use Rattle.std.specs.List.{list_all}
use Rattle.std.proofs.lemmas.Bool.{not-false}
use Rattle.spec_data.specs.Lists.{look_up}
use Rattle.spec_data.proofs.ListLemmas.{no_reason-none_true}
use Rattle.spec_run.specs.Advertising.{arranged}
use Rattle.spec_run.specs.Committing.{secrets_at, committed_digests, committed_pending, with_promise, repeated_digest, used_digests, used_again, commit_row}
use Rattle.theory_run.proofs.Steps.CommitSteps.{digests_looked}
use Rattle.bm_world_board.specs.declared.pending_change.Promising.{Promising}
use Rattle.bm_world_board.specs.Prepares.{setup_of, world_of}
use Rattle.bm_world_board.proofs.Refusals.{prepares_refused}
use Rattle.bm_world_commit.proofs.Whole.{repeated_some, repeated_none, later_ok, later_placed}
use Rattle.bm_world_commit.proofs.committing.pending_committed.Goals as goal

pub returns-in-Some-clause-ok : goal.returns-in-Some-clause-ok
returns-in-Some-clause-ok g c = λ messages.
    let hash = g.H.Hash32.digest_of c.args.trail.now.hasher in
    let s = setup_of hash c.args.board.now in
    let w = world_of c.args.board.now messages in
    let k = c.args.contract in
    let party = c.args.party.now in
    let digests = c.args.digests.now in
    let found : repeated_digest s w k party digests ≡ Some c.in-Some.name =
    ap (used_again (used_digests c.args.board.now.exchange.promises)) (sym c.requires.committed) ∙ sym c.repeated_digest.ensures ∙ c.in-Some.is in
    prepares_refused hash w c.args.trail.now.messages _ _ (committed_pending s (with_promise s w k party digests) k party []) _
    (repeated_some s w k party digests c.in-Some.name found) c.refused.ensures.same c.refused.ensures.change c.requires.clear

pub arranged-requires : goal.arranged-requires
arranged-requires g c =
    let s = setup_of (g.H.Hash32.digest_of c.args.trail.now.hasher) c.args.board.now in
    let w = world_of c.args.board.now [] in
    let k = c.args.contract in
    let party = c.args.party.now in
    let digests = c.args.digests.now in
    let tests = no_reason-none_true (commit_row s w k party digests) (c.requires.row []) in
    let looked : list_all (λ n. is_some (look_up n (committed_digests s k party digests))) (secrets_at s k party) ≡ true =
    digests_looked s k party digests (not-false _ tests.1.1.1.1.0) in
    subst (λ ds. list_all (λ n. is_some (look_up n ds)) c.args.names.now ≡ true) (sym c.requires.committed)
    (subst (λ ns. list_all (λ n. is_some (look_up n (committed_digests s k party digests))) ns ≡ true) (sym c.requires.names) looked)

pub returns-in_err-compiled-clause-hasher : goal.returns-in_err-compiled-clause-hasher
returns-in_err-compiled-clause-hasher g c = (c.in_err-compiled.ensures.trail []).0

pub returns-clause-hasher : goal.returns-clause-hasher
returns-clause-hasher g c = (c.in_ok-compiled.ensures.trail []).0

pub returns-clause-ok : goal.returns-clause-ok
returns-clause-ok g c = λ messages.
    let s = setup_of (g.H.Hash32.digest_of c.args.trail.now.hasher) c.args.board.now in
    let w = world_of c.args.board.now messages in
    let k = c.args.contract in
    let party = c.args.party.now in
    let digests = c.args.digests.now in
    let none : repeated_digest s w k party digests ≡ None =
    ap (used_again (used_digests c.args.board.now.exchange.promises)) (sym c.requires.committed) ∙ sym c.repeated_digest.ensures ∙ c.in_default.is in
    let p : Promising = record { contract = k; party = party; digests = c.in_ok-arranged.field-0 } in
    let made : c.in_ok-arranged.field-0 ≡ arranged [] (secrets_at s k party) (committed_digests s k party digests) =
    c.in_ok-arranged.ensures ∙ (λ i. arranged [] (c.requires.names i) (c.requires.committed i)) in
    later_ok s w k party digests p refl refl made c.args.trail.now.messages c.compile_last.new.trail.messages c.done.result
    (repeated_none s w k party digests none) c.done.ensures.same c.done.ensures.change (c.in_ok-compiled.ensures.trail messages).1

pub returns-clause-compiled : goal.returns-clause-compiled
returns-clause-compiled g c = λ messages all.
    let s = setup_of (g.H.Hash32.digest_of c.args.trail.now.hasher) c.args.board.now in
    let w = world_of c.args.board.now messages in
    let k = c.args.contract in
    let party = c.args.party.now in
    let digests = c.args.digests.now in
    let none : repeated_digest s w k party digests ≡ None =
    ap (used_again (used_digests c.args.board.now.exchange.promises)) (sym c.requires.committed) ∙ sym c.repeated_digest.ensures ∙ c.in_default.is in
    let p : Promising = record { contract = k; party = party; digests = c.in_ok-arranged.field-0 } in
    let made : c.in_ok-arranged.field-0 ≡ arranged [] (secrets_at s k party) (committed_digests s k party digests) =
    c.in_ok-arranged.ensures ∙ (λ i. arranged [] (c.requires.names i) (c.requires.committed i)) in
    later_placed s w k party digests p refl refl made c.args.board.now.compiled c.in_ok-compiled.compiled (c.requires.row messages)
    (repeated_none s w k party digests none) all (c.in_ok-compiled.ensures.compiled messages)
