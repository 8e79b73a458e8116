-- What is kept after a party commits: the last commitment compiles the contract, of which nothing was made or signed before.
use Rattle.std.proofs.Common.{◌≡◌, ℕ, List, [], ◌∷◌, ◌++◌, Bool, true, false, Option, Some, None, refl, sym, ap, ◌∙◌, subst, inl, inr, append-nil}
use Rattle.std.specs.Prelude.{◌==◌, ◌⊎◌, slice_get}
use Rattle.std.specs.List.{AllByRecursion}
use Rattle.std.specs.Str.{bytes_eq}
use Rattle.std.proofs.lemmas.Bool.{and_parts, or_cases, or_from, both_ways, not-false, eqb-true, false_from_ne_true, eq-eqb}
use Rattle.spec_data.specs.Lists.{NoneTrue, is_among, first_reason}
use Rattle.spec_data.proofs.ListLemmas.{no_reason-none_true}
use Rattle.spec_terms.specs.Parties.{participants}
use Rattle.spec_terms.specs.Precondition.{Holding, persistent}
use Rattle.spec_terms.specs.Term as term
use Rattle.spec_terms.specs.Term.{Contract, branches}
use Rattle.spec_terms.specs.declared.path.PathStep.{PathStep}
use Rattle.spec_terms.specs.declared.path.PathStep.TheVariants.{Branch as To}
use Rattle.spec_bitcoin.specs.Keys.{key_of, has_signed}
use Rattle.spec_calculus.specs.declared.step.Step.{Step}
use Rattle.spec_calculus.specs.Configuration.{Configuration}
use Rattle.spec_calculus.specs.Beginning.{is_init_authorised}
use Rattle.spec_calculus.specs.Branches.{has_branch_authorised}
use Rattle.spec_calculus.specs.Steps.{after_steps}
use Rattle.spec_compiler.specs.Instance.{Instance, branch_label, people}
use Rattle.spec_compiler.specs.Transactions.{Standing}
use Rattle.spec_compiler.specs.ByPath.{position_at}
use Rattle.spec_compiler.specs.Hashed.{compiled_strings}
use Rattle.spec_run.specs.declared.event.Event.{Event}
use Rattle.spec_run.specs.declared.event.Event.TheVariants as events
use Rattle.spec_run.specs.Setup.{Setup, is_honest, people_of, people_at}
use Rattle.spec_run.specs.World.{Output, Promise, World, is_advertised, is_promise_of, has_promised}
use Rattle.spec_data.specs.Messages.{noted_all}
use Rattle.spec_run.specs.Compiled.{compiled_instance}
use Rattle.spec_run.specs.Conditions.{IsDigest, IsSetup}
use Rattle.spec_run.specs.Advertising.{arranged}
use Rattle.spec_run.specs.Committing.{secrets_at, committed_digests, committed_strings, commit_row, digest_row, with_promise, strings_compiled, committed_pending, commit_pending}
use Rattle.spec_run.specs.Pending.{Pending, applied}
use Rattle.spec_run.specs.Steps.{steps_of}
use Rattle.theory_calculus.specs.Members.{Is_in}
use Rattle.theory_calculus.proofs.Members.{all_then, some_there}
use Rattle.theory_calculus.proofs.Names.{all_among, persistent_deposit}
use Rattle.theory_world.proofs.Tests.{any-append}
use Rattle.theory_world.specs.KeptApart.{NoCollision}
use Rattle.theory_world.proofs.Hashed.{no_collision, among_right, all_more, all_new}
use Rattle.theory_world.proofs.Later.{IsCompiledAt, compiled_is, compiled_stays, digests-other, lasts_refl}
use Rattle.theory_run.proofs.Steps.CommitSteps.{digests_looked}
use Rattle.theory_run.specs.KeptBook.{KeptBook, AdvertFine}
use Rattle.theory_run.proofs.Facts.Kept.{Frame, cause_later, origin_later, held_later, advert_later, signs}
use Rattle.theory_run.proofs.Accepted.Spending.{Checked, TransactionsFit}
use Rattle.theory_run.proofs.Accepted.WhatItIs.{bound_at}
use Rattle.theory_run.proofs.Widths.Putting.{all_fit, transactions_fit}
use Rattle.theory_world.proofs.Staying.{inits_stay, asked_stay}
use Rattle.theory_run.proofs.Events.Quiet.{KeptAfter, unless_after}
use Rattle.theory_run.proofs.Facts.Labelled.{compiled_label}
use Rattle.theory_run.proofs.Events.AfterAdvert.{compiled_before}
use Rattle.theory_run.specs.KeptPromises.{KeptPromises}
use Rattle.theory_run.proofs.Facts.KeptCommitments.{one_more_promise, checked_now}
use Rattle.theory_run.proofs.Facts.Undertakings.{committed_sized}
use Rattle.theory_run.specs.KeptLabels.{KeptLabels}
use Rattle.theory_run.proofs.Facts.OwnLabels.{signs_compiled}
use Rattle.theory_run.proofs.Accepted.Unmade.{Lies, unmade}

module _ (s : Setup) (setup : IsSetup s) (g : Configuration) (w : World) (kept : KeptBook s g w) (check : Checked s w)
    (clear : NoCollision s.hash w.hashed) (promises : KeptPromises s w) (labels : KeptLabels s w)
    (k : ℕ) (party : List ℕ) (digests : List (List ℕ × List ℕ)) (written : AllByRecursion (λ d. IsDigest (d.1)) digests)
    (row : NoneTrue (commit_row s w k party digests))
    (hs posts : List (List ℕ)) (hs_clear : NoCollision s.hash hs) (sub : (t : List ℕ) → is_among t w.hashed ≡ true → is_among t hs ≡ true) (g' : Configuration)
    (inits : (j : ℕ) (x : List ℕ) → is_init_authorised g.init_authorised j x ≡ true → is_init_authorised g'.init_authorised j x ≡ true)
    (asked : (n i : ℕ) (a : List ℕ) → has_branch_authorised g.branch_authorised n i a ≡ true → has_branch_authorised g'.branch_authorised n i a ≡ true) where
  abbrev new : Promise
  new = record { contract = k; party = party; digests = arranged [] (secrets_at s k party) (committed_digests s k party digests) }

  abbrev next : World
  next = record w {
    promises = w.promises ++ record {
      contract = k;
      party = party;
      digests = arranged [] (secrets_at s k party)
          (committed_digests s k party digests);
    } ∷ [];
    hashed = hs;
    posted = posts;
  }

  -- a contract that is compiled before is another one
  others : (j : ℕ) (su : Instance) → compiled_instance s w j ≡ Some su → (k == j) ≡ false
  others j su h = false_from_ne_true _ (λ t.
      let e = eqb-true k j t in
      let c = compiled_is s w j su h in
      let part : is_among party (people_at s k) ≡ true = not-false _ row.1.1.0 in
      let there : is_among party (participants c.advert) ≡ true =
      ap (λ o. is_among party (people_of o)) (sym c.there) ∙ subst (λ m. is_among party (people_at s m) ≡ true) e part in
      both_ways _ (subst (λ m. has_promised w m party ≡ false) e row.1.1.1.0) (all_among (has_promised w j) (participants c.advert) party c.promised there))

  stays : (j : ℕ) (su : Instance) → compiled_instance s w j ≡ Some su → compiled_instance s next j ≡ Some su
  stays j su h = compiled_stays s w next [] (new ∷ []) j su (sym (append-nil w.advertised)) refl (lasts_refl w.outputs)
      (kept.adverts j (compiled_is s w j su h).advertised).made (or_from _ _ (others j su h) refl) h

  frame : Frame s g g' w next
  frame = record { outputs = lasts_refl w.outputs; book = λ j d h. h; hashed = sub; compiled = stays; bindings = λ j h. refl; inits = inits; asked = asked }

  -- another contract that is compiled now was compiled before
  back : (j : ℕ) (su : Instance) → (k == j) ≡ false → compiled_instance s next j ≡ Some su → compiled_instance s w j ≡ Some su
  back j su f h = compiled_before s w next j su refl refl (digests-other w.promises (new ∷ []) j (or_from _ _ f refl)) (compiled_is s next j su h).advertised
      (λ a e p. all_then (has_promised next j) (has_promised w j) (participants a) old p) h
    where
      old : (a : List ℕ) → has_promised next j a ≡ true → has_promised w j a ≡ true
      old a p = elim (or_cases (has_promised w j a) _ (sym (any-append (is_promise_of j a) w.promises (new ∷ [])) ∙ p)) [
        | inl x ↦ x
        | inr y ↦ elim (or_cases (is_promise_of j a new) false y) [ inl z ↦ absurd (both_ways _ f (and_parts (k == j) (bytes_eq party a) z).0) | inr z ↦ cc ]
      ]

  -- ---- where the contract isn't complete

  pub incomplete : compiled_instance s next k ≡ None → KeptBook s g' next
  incomplete none = signs s g g' w next frame [] kept refl (λ j su h. by_number j su (k == j) refl h) (λ j h f. absurd (both_ways _ f h))
      (λ j d h. inl h) (λ a d i h x. cc) (λ j su q here choice i b a d c e t p h x. cc)
    where
      by_number : (j : ℕ) (su : Instance) (b : Bool) → (k == j) ≡ b → compiled_instance s next j ≡ Some su → compiled_instance s w j ≡ Some su
      by_number j su true e h = let x = sym none ∙ ap (compiled_instance s next) (eqb-true k j e) ∙ h in cc
      by_number j su false e h = back j su e h

  -- ---- where it is

  module _ (st : Instance) (now : compiled_instance s next k ≡ Some st)
      (strings : (t : List ℕ) → is_among t (compiled_strings s.hash st) ≡ true → is_among t hs ≡ true) where
    next_promises : KeptPromises s next
    next_promises = one_more_promise s w k party (committed_digests s k party digests) hs posts promises (not-false _ row.1.0)
        (digests_looked s k party digests (not-false _ row.1.1.1.1.0)) (committed_sized s setup.hash k party digests written)

    next_check : Checked s next
    next_check = checked_now s setup next next_promises

    next_adverts : (j : ℕ) → is_advertised next j ≡ true → AdvertFine s next j
    next_adverts j h = advert_later s g g' w next frame j h (kept.adverts j h)

    next_fit : TransactionsFit s next
    next_fit = all_fit s setup next next_adverts kept.placed_fine

    before : (su : Instance) → compiled_instance s w k ≡ Some su → ⊥
    before su h = both_ways _ (others k su h) (eq-eqb k k refl)

    -- what is compiled now was compiled before, or is this contract
    which : (j : ℕ) (su : Instance) → compiled_instance s next j ≡ Some su → (compiled_instance s w j ≡ Some su) ⊎ ((k ≡ j) × (st ≡ su))
    which j su h = by_number (k == j) refl
      where
        by_number : (b : Bool) → (k == j) ≡ b → (compiled_instance s w j ≡ Some su) ⊎ ((k ≡ j) × (st ≡ su))
        by_number false e = inl (back j su e h)
        by_number true e =
            let q = eqb-true k j e in
            let x : (let y : Option Instance = Some st in y) ≡ Some su = sym now ∙ ap (compiled_instance s next) q ∙ h in inr (q, cc)

    heard : (j : ℕ) (su : Instance) → compiled_instance s next j ≡ Some su → (t : List ℕ) → is_among t (compiled_strings s.hash su) ≡ true
        → is_among t hs ≡ true
    heard j su h t i = elim (which j su h) [
      | inl x ↦ sub t (kept.heard j su x t i)
      | inr y ↦ strings t (subst (λ z. is_among t (compiled_strings s.hash z) ≡ true) (sym y.1) i)
    ]

    lies : (d : List ℕ × Holding) → Is_in d (persistent st.advert.pre) → Lies s w st d
    lies d i =
        let b = bound_at s next next_adverts k st now (d.0) (d.1) (persistent_deposit st.advert.pre d i) in
        record {
          number = b.number;
          output = b.bound.output;
          there = b.bound.there;
          outpoint = b.outpoint;
          script = b.bound.script;
          free = b.bound.free;
          declared = b.bound.declared;
        }

    ci : IsCompiledAt s next k st
    ci = compiled_is s next k st now

    fair : (a : List ℕ) × (is_among a (people_at s k) ≡ true) × (is_honest s a ≡ true)
    fair = (kept.adverts k ci.advertised).fair

    takes_part : is_among fair.0 (people st) ≡ true
    takes_part = subst (λ p. is_among fair.0 p ≡ true) (ap people_of ci.there ∙ ap (λ (y : Instance). people y) (sym ci.is)) fair.1

    nothing_made : (q : List PathStep) (here : Standing) (choice : Contract) (n : ℕ) (o : Output) → position_at s.hash st q
        ≡ Some (here, choice) → slice_get w.outputs n ≡ Some o → o.outpoint ≡ here.output.outpoint → ⊥
    nothing_made = unmade s setup.hash setup.few_contracts g w kept (transactions_fit s setup g w kept) check next hs_clear sub next_fit
        next_check heard stays k st now before lies fair.0 takes_part fair.2

    nothing_signed : (q : List PathStep) (here : Standing) (choice : Contract) (i : ℕ) (b : term.Guarded) (a d : List ℕ)
        → position_at s.hash st q ≡ Some (here, choice) → slice_get (branches choice) i ≡ Some b → is_among a (people st) ≡ true → is_honest s a ≡ true
        → has_signed w.book (key_of s.hash (branch_label k (q ++ To i ∷ []) a)) d ≡ true → ⊥
    nothing_signed q here choice i b a d e t p honest x =
        let l = compiled_label s setup.few_contracts next next_check hs heard k st q here choice i b a now e t p in
        let r = some_there (compiled_instance s w k) (signs_compiled s w hs labels hs_clear sub k (q ++ To i ∷ []) a d l.0 l.1 honest x) in
        before r.0 r.1

    pub complete : KeptBook s g' next
    complete = record {
      labelled = λ a h. sub _ (kept.labelled a h);
      programs = λ a h. sub _ (kept.programs a h);
      opened = (sub _ kept.opened.0, sub _ kept.opened.1);
      apart = kept.apart;
      origin = λ n o h. origin_later s g g' w next frame o.outpoint.txid (kept.origin n o h);
      placed_fine = kept.placed_fine;
      adverts = next_adverts;
      heard = heard;
      held = λ n o h e i. held_later s g g' w next frame o o h
          (record { outpoint = refl; script = refl; value = refl; holds = refl; dead = λ x. x }) (kept.held n o h e i);
      placed = λ j su q here choice n o c e h p. elim (which j su c) [
        | inl x ↦ kept.placed j su q here choice n o x e h p
        | inr y ↦ absurd (nothing_made q here choice n o (subst (λ z. position_at s.hash z q ≡ Some (here, choice)) (sym y.1) e) h p)
      ];
      deposit_pairs = λ a d i h x. cause_later s g g' w next frame kept.adverts a d (kept.deposit_pairs a d i h x);
      branch_pairs = λ j su q here choice i b a d c e t p h x. elim (which j su c) [
        | inl y ↦ (let r = kept.branch_pairs j su q here choice i b a d y e t p h x in record {
          is = r.is;
          existed = r.existed;
          authorised = λ u n v. asked n i a (r.authorised u n v);
        })
        | inr y ↦ absurd (nothing_signed q here choice i b a d (subst (λ z. position_at s.hash z q ≡ Some (here, choice)) (sym y.1) e) t
            (subst (λ z. is_among a (people z) ≡ true) (sym y.1) p) h
            (subst (λ m. has_signed w.book (key_of s.hash (branch_label m (q ++ To i ∷ []) a)) d ≡ true) (sym y.0) x))
      ];
    }

-- ---- the event

pub commit_after : (s : Setup) (setup : IsSetup s) (strings : List (List ℕ)) (g : Configuration) (w : World) (kept : KeptBook s g w)
    (check : Checked s w) (clear : NoCollision s.hash w.hashed) (promises : KeptPromises s w) (labels : KeptLabels s w)
    (k : ℕ) (party : List ℕ) (digests : List (List ℕ × List ℕ)) → AllByRecursion (λ d. IsDigest (d.1)) digests
    → KeptAfter s setup.hash setup.few_contracts strings g w kept check clear (events.Commit k party digests) (commit_pending s w k party digests)
commit_after s setup strings g w kept check clear promises labels k party digests written =
    unless_after s setup.hash setup.few_contracts strings g w kept check clear e (first_reason (commit_row s w k party digests)) [] _ (λ r.
    unless_after s setup.hash setup.few_contracts strings g w kept check clear e (first_reason (digest_row s w k party digests))
    (committed_strings s k party) d (λ q. committed (no_reason-none_true (commit_row s w k party digests) r)))
  where
    e : Event
    e = events.Commit k party digests

    promised : World
    promised = with_promise s w k party digests

    d : Pending
    d = committed_pending s (with_promise s w k party digests) k party (committed_strings s k party)

    committed : NoneTrue (commit_row s w k party digests)
        → KeptAfter s setup.hash setup.few_contracts strings g w kept check clear (events.Commit k party digests)
        (committed_pending s (with_promise s w k party digests) k party (committed_strings s k party))
    committed row apart = by_compiled (compiled_instance s promised k) refl
      where
        hs : List (List ℕ)
        hs = noted_all w.hashed d.hashes

        xs : List Step
        xs = steps_of s strings g w (applied w d) e d

        g' : Configuration
        g' = after_steps g (steps_of s strings g w (applied w d) e d)

        next : World
        next = applied w d

        by_compiled : (o : Option Instance) → compiled_instance s promised k ≡ o → KeptBook s g' next
        by_compiled None c = incomplete s setup g w kept check clear promises labels k party digests written row hs (w.posted ++ [])
            (no_collision s.hash w.hashed d.hashes clear apart) (λ t h. all_more w.hashed d.hashes t h) g' (inits_stay xs g) (asked_stay xs g) c
        by_compiled (Some st) c = complete s setup g w kept check clear promises labels k party digests written row hs (w.posted ++ [])
            (no_collision s.hash w.hashed d.hashes clear apart) (λ t h. all_more w.hashed d.hashes t h) g' (inits_stay xs g) (asked_stay xs g) st c
            (λ t i. all_new w.hashed d.hashes t (among_right t (committed_strings s k party)
            (strings_compiled s (compiled_instance s promised k)) (subst (λ o. is_among t (strings_compiled s o) ≡ true) (sym c) i)))
