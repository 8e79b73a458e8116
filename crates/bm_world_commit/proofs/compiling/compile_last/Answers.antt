use Rattle.std.proofs.Common.{◌≡◌, [], ◌∷◌, ◌++◌, map, true, false, Some, refl, sym, ap, subst, ◌∙◌}
use Rattle.std.specs.Prelude.{is_some}
use Rattle.std.specs.List.{list_all}
use Rattle.std.specs.Option.{option_map}
use Rattle.std.proofs.lemmas.Result.{err_from_is_err_and}
use Rattle.spec_data.specs.Lists.{look_up}
use Rattle.spec_terms.specs.Parties.{participants}
use Rattle.spec_terms.specs.Precondition.{deposits}
use Rattle.bm_hash.specs.Trails.{Hashed, Stops}
use Rattle.bm_hash.proofs.HashesLemmas.{hashed_none}
use Rattle.spec_run.specs.Setup.{contract_at, pre_of}
use Rattle.spec_run.specs.World.{have_promised, digests_at}
use Rattle.spec_run.specs.Compiled.{compiled_instance}
use Rattle.spec_run.specs.Committing.{strings_compiled}
use Rattle.theory_world.proofs.Later.{compiled_from}
use Rattle.bm_compile.specs.Numbered.{instance_with}
use Rattle.bm_world_board.specs.Prepares.{setup_of, world_of}
use Rattle.bm_world_commit.specs.Committed.{promise_in, promised, placed_at, are_made, has_all_bound}
use Rattle.bm_world_commit.specs.Entries.{entry_of}
use Rattle.bm_world_commit.proofs.Completed.{none_complete, instance_by}
use Rattle.bm_world_commit.proofs.compiling.compile_last.Goals as goal

pub returns-then-not-have_promised-clause-compiled : goal.returns-then-not-have_promised-clause-compiled
returns-then-not-have_promised-clause-compiled g c = λ messages.
    let hash = g.H.Hash32.digest_of c.args.trail.now.hasher in
    let s = setup_of hash c.args.board.now in
    let next = promised (world_of c.args.board.now messages) c.args.promising.now in
    let k = c.args.promising.now.contract in
    let there : contract_at s k ≡ Some c.in-Some.checked.now = sym c.contract.ensures ∙ ap (option_map (λ r. r.now)) c.in-Some.is in
    let some_not : have_promised next k (participants c.in-Some.checked.now) ≡ false =
    rw c.parties.ensures at (sym c.have_promised.ensures ∙ c.if-not-have_promised.true) in
    sym (ap (entry_of hash k) (none_complete s next k c.in-Some.checked.now there some_not))

pub returns-then-not-have_promised-clause-trail : goal.returns-then-not-have_promised-clause-trail
returns-then-not-have_promised-clause-trail g c = λ messages.
    let hash = g.H.Hash32.digest_of c.args.trail.now.hasher in
    let s = setup_of hash c.args.board.now in
    let next = promised (world_of c.args.board.now messages) c.args.promising.now in
    let k = c.args.promising.now.contract in
    let old = c.args.trail.now.messages in
    let there : contract_at s k ≡ Some c.in-Some.checked.now = sym c.contract.ensures ∙ ap (option_map (λ r. r.now)) c.in-Some.is in
    let some_not : have_promised next k (participants c.in-Some.checked.now) ≡ false =
    rw c.parties.ensures at (sym c.have_promised.ensures ∙ c.if-not-have_promised.true) in
    let none = none_complete s next k c.in-Some.checked.now there some_not in
    (refl, subst (λ o. Hashed hash old old (strings_compiled s o)) (sym none) (hashed_none hash old c.requires.clear), tt)

pub compile_bound-requires-clause-made : goal.compile_bound-requires-clause-made
compile_bound-requires-clause-made g c =
    subst (λ bs. are_made c.args.board.now.coins.outputs bs ≡ true)
    (sym c.in-Some-bindings.ensures.bindings) ((c.requires.bound []).made (sym c.in-Some-bindings.ensures.there))

pub compile_bound-requires-clause-bound : goal.compile_bound-requires-clause-bound
compile_bound-requires-clause-bound g c =
    let s = setup_of (g.H.Hash32.digest_of c.args.trail.now.hasher) c.args.board.now in
    let k = c.args.promising.now.contract in
    let bindings = c.in-Some-bindings.bindings.now in
    let there : contract_at s k ≡ Some c.in-Some.checked.now = sym c.contract.ensures ∙ ap (option_map (λ r. r.now)) c.in-Some.is in
    let bound : has_all_bound s k bindings ≡ true =
    subst (λ bs. has_all_bound s k bs ≡ true) (sym c.in-Some-bindings.ensures.bindings) ((c.requires.bound []).bound (sym c.in-Some-bindings.ensures.there)) in
    subst (λ pre. list_all (λ d. is_some (look_up (d.0) bindings)) (deposits pre) ≡ true) (ap pre_of there) bound

pub returns-in_err-compiled-clause-trail : goal.returns-in_err-compiled-clause-trail
returns-in_err-compiled-clause-trail g c = λ messages.
    let hash = g.H.Hash32.digest_of c.args.trail.now.hasher in
    let s = setup_of hash c.args.board.now in
    let next = promised (world_of c.args.board.now messages) c.args.promising.now in
    let k = c.args.promising.now.contract in
    let checked = c.in-Some.checked.now in
    let bindings = c.in-Some-bindings.bindings.now in
    let hashes = digests_at (c.args.board.now.exchange.promises ++ promise_in c.args.promising.now ∷ []) k in
    let there : contract_at s k ≡ Some checked = sym c.contract.ensures ∙ ap (option_map (λ r. r.now)) c.in-Some.is in
    let all : have_promised next k (participants checked) ≡ true = rw c.parties.ensures at (sym c.have_promised.ensures ∙ c.if-not-have_promised.false) in
    let some : compiled_instance s next k ≡ Some (instance_with k checked (map (placed_at c.args.board.now.coins.outputs) bindings) hashes) =
    compiled_from s next k checked there (sym c.in-Some-bindings.ensures.there) all
    ∙ ap Some (sym (instance_by s next k checked bindings hashes c.in-Some-bindings.ensures.bindings refl)) in
    let p = err_from_is_err_and c.from_residual.result c.from_residual.ensures.1 in
    rw (p.1, p.2) (
      c.in_err-compiled.ensures.trail.0,
      tt,
      subst
          (λ o. Stops hash c.args.trail.now.messages c.compile_bound.new.trail.messages (strings_compiled s o) c.in_err-compiled.field-0.0)
          (sym some) c.in_err-compiled.ensures.trail.2,
    )

pub returns-clause-compiled : goal.returns-clause-compiled
returns-clause-compiled g c = λ messages.
    let hash = g.H.Hash32.digest_of c.args.trail.now.hasher in
    let s = setup_of hash c.args.board.now in
    let next = promised (world_of c.args.board.now messages) c.args.promising.now in
    let k = c.args.promising.now.contract in
    let checked = c.in-Some.checked.now in
    let bindings = c.in-Some-bindings.bindings.now in
    let hashes = digests_at (c.args.board.now.exchange.promises ++ promise_in c.args.promising.now ∷ []) k in
    let there : contract_at s k ≡ Some checked = sym c.contract.ensures ∙ ap (option_map (λ r. r.now)) c.in-Some.is in
    let all : have_promised next k (participants checked) ≡ true = rw c.parties.ensures at (sym c.have_promised.ensures ∙ c.if-not-have_promised.false) in
    let some : compiled_instance s next k ≡ Some (instance_with k checked (map (placed_at c.args.board.now.coins.outputs) bindings) hashes) =
    compiled_from s next k checked there (sym c.in-Some-bindings.ensures.there) all
    ∙ ap Some (sym (instance_by s next k checked bindings hashes c.in-Some-bindings.ensures.bindings refl)) in
    ap (λ n. Some (k, n)) c.in_ok-compiled.ensures.compiled ∙ sym (ap (entry_of hash k) some)

pub returns-clause-trail : goal.returns-clause-trail
returns-clause-trail g c = λ messages.
    let hash = g.H.Hash32.digest_of c.args.trail.now.hasher in
    let s = setup_of hash c.args.board.now in
    let next = promised (world_of c.args.board.now messages) c.args.promising.now in
    let k = c.args.promising.now.contract in
    let checked = c.in-Some.checked.now in
    let bindings = c.in-Some-bindings.bindings.now in
    let hashes = digests_at (c.args.board.now.exchange.promises ++ promise_in c.args.promising.now ∷ []) k in
    let there : contract_at s k ≡ Some checked = sym c.contract.ensures ∙ ap (option_map (λ r. r.now)) c.in-Some.is in
    let all : have_promised next k (participants checked) ≡ true = rw c.parties.ensures at (sym c.have_promised.ensures ∙ c.if-not-have_promised.false) in
    let some : compiled_instance s next k ≡ Some (instance_with k checked (map (placed_at c.args.board.now.coins.outputs) bindings) hashes) =
    compiled_from s next k checked there (sym c.in-Some-bindings.ensures.there) all
    ∙ ap Some (sym (instance_by s next k checked bindings hashes c.in-Some-bindings.ensures.bindings refl)) in (
      c.in_ok-compiled.ensures.trail.0,
      subst
          (λ o. Hashed hash c.args.trail.now.messages c.compile_bound.new.trail.messages (strings_compiled s o)) (sym some) c.in_ok-compiled.ensures.trail.1,
      tt,
    )
