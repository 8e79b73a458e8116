-- A contract whose deposits may all be taken begins, unless that halts the run.
use Rattle.std.proofs.Common.{◌≡◌, ℕ, List, [], ◌∷◌, ◌++◌, map, true, false, not, Option, Some, None, refl, sym, ap, ◌∙◌, subst, inl, inr, append-nil}
use Rattle.std.specs.Prelude.{◌&&◌, ◌==◌, is_some}
use Rattle.std.specs.List.{flat_map}
use Rattle.std.specs.Str.{bytes_eq}
use Rattle.std.proofs.lemmas.Bool.{and_parts, and_from, or_cases, or_right}
use Rattle.std.proofs.lemmas.List.Concat.{flat_map-cons}
use Rattle.spec_data.specs.Lists.{is_among, has_number, look_up, first_reason, AllTrue}
use Rattle.spec_terms.specs.Advert.{Advert}
use Rattle.spec_terms.specs.Parties.{participants}
use Rattle.spec_terms.specs.Precondition.{Holding, persistent, names_of}
use Rattle.spec_bitcoin.specs.declared.tx.TxIn.{TxIn}
use Rattle.spec_bitcoin.specs.Keys.{signature_of}
use Rattle.spec_calculus.specs.declared.step.Step.TheVariants as steps
use Rattle.spec_calculus.specs.Configuration.{Configuration}
use Rattle.spec_calculus.specs.Beginning as calculus
use Rattle.spec_calculus.specs.Beginning.{are_there, bindings_of, persistent_names, is_init_authorised, are_init_authorised, have_committed, is_there}
use Rattle.spec_calculus.specs.Steps.{premises, init_premises}
use Rattle.spec_compiler.specs.Instance.{Instance, deposit_key}
use Rattle.spec_compiler.specs.Transactions.{party_script, prepared, initial_unsigned, input_of}
use Rattle.spec_run.specs.declared.event.Event.{Event}
use Rattle.spec_run.specs.declared.event.Event.TheVariants as events
use Rattle.spec_run.specs.declared.header.HeldSecret.{HeldSecret}
use Rattle.spec_run.specs.declared.outcome.Reason.TheVariants as reason
use Rattle.spec_run.specs.Setup.{Setup, is_declared}
use Rattle.spec_run.specs.World.{World, bindings_at, have_promised}
use Rattle.spec_run.specs.Compiled.{compiled_instance}
use Rattle.spec_run.specs.Pending.{Pending, Guessed, is_guessed, guess, unless}
use Rattle.spec_run.specs.Giving.{deposit_witness}
use Rattle.spec_run.specs.Firing.{witnessed, deposit_witnesses, initial_witnesses, initial_transaction, initial_by, reaches_if, fire_init_row}
use Rattle.spec_run.specs.Ledger.{accepted, judged, items_of, initial_of, kind_by, first_position, begun_after}
use Rattle.spec_run.specs.Event.{pending, played}
use Rattle.spec_run.specs.Steps.{is_bound_live}
use Rattle.spec_run.specs.Values.{is_refused}
use Rattle.spec_run.specs.Offers.{Offer}
use Rattle.spec_run.specs.Statements.{IsKept}
use Rattle.spec_run.specs.Translation.{last_configuration, last_world}
use Rattle.theory_calculus.specs.Members.{Is_in}
use Rattle.theory_calculus.proofs.Members.{found, contains_from_in}
use Rattle.theory_calculus.proofs.Names.{bytes-true}
use Rattle.theory_world.proofs.Hashed.{among_split}
use Rattle.theory_world.proofs.Contracts.Endorsed.{in_map}
use Rattle.theory_world.proofs.Later.{IsCompiledAt, compiled_is}
use Rattle.theory_run.specs.KeptRuns.{KeptRun}
use Rattle.theory_run.proofs.Following.{run_posts}
use Rattle.theory_bitcoin.specs.Apart.{bare}
use Rattle.theory_world.proofs.Ledger.Acceptable.{with-bare}
use Rattle.theory_run.proofs.Accepted.WhatItIs.{initial_is, not_initial}
use Rattle.theory_run.proofs.Steps.Beginnings.{bindings_same, committed_same, there_same}
use Rattle.theory_offers.proofs.WholeRun.{kept_offers}
use Rattle.theory_next.specs.FirstEvents.{MayHalt, SpendsDeposit}
use Rattle.theory_next.proofs.Ready.{no_premise, offered}
use Rattle.theory_next.proofs.Onward.{GoesSoFar, Fine, fine_so_far, goes}
use Rattle.theory_next.proofs.FirstStage.{IsFirst, AllLive, has_first, kept_so_far, bound_live}

-- ---- what a witness shows

-- each item of witnesses that are put to inputs without any is one of these
shown_among : (t : List ℕ) (is : List TxIn) (witnesses : List (List (List ℕ))) → ((i : TxIn) → Is_in i is → i.witness ≡ [])
    → is_among t (flat_map (λ (i : TxIn). i.witness) (witnessed is witnesses)) ≡ true
    → (v : List (List ℕ)) × Is_in v witnesses × (is_among t v ≡ true)
shown_among t [] witnesses bare h = cc
shown_among t (i ∷ is) [] bare h = absurd (none (i ∷ is) bare h)
  where
    none : (js : List TxIn) → ((j : TxIn) → Is_in j js → j.witness ≡ [])
        → is_among t (flat_map (λ (j : TxIn). j.witness) js) ≡ true → ⊥
    none [] b q = cc
    none (j ∷ js) b q =
        let e = flat_map-cons (λ (x : TxIn). x.witness) j js in
        none js (λ x k. b x (inr k))
        (sym (ap (λ xs. is_among t (xs ++ flat_map (λ (x : TxIn). x.witness) js)) (b j (inl refl))) ∙ sym (ap (is_among t) e) ∙ q)
shown_among t (i ∷ is) (v ∷ vs) bare h =
    let e = flat_map-cons (λ (x : TxIn). x.witness) (record i { witness = v }) (witnessed is vs) in
    elim (among_split t v (flat_map (λ (x : TxIn). x.witness) (witnessed is vs)) (sym (ap (is_among t) e) ∙ h)) [
      | inl a ↦ (v, inl refl, a)
      | inr b ↦ (let r = shown_among t is vs (λ x k. bare x (inr k)) b in (r.0, inr r.1, r.2))
    ]

-- a deposit's witness is one of one of the owners
witness_of_owner : (s : Setup) (owners digests : List (List ℕ)) (v : List (List ℕ)) → Is_in v (deposit_witnesses s owners digests)
    → (owner : List ℕ) × Is_in owner owners × ((digest : List ℕ) × (v ≡ deposit_witness s owner digest))
witness_of_owner s [] digests v h = absurd h
witness_of_owner s (owner ∷ owners) [] v h = absurd h
witness_of_owner s (owner ∷ owners) (digest ∷ digests) v (inl e) = (owner, inl refl, (digest, e))
witness_of_owner s (owner ∷ owners) (digest ∷ digests) v (inr i) =
    let r = witness_of_owner s owners digests v i in (r.0, inr r.1, r.2)

in_witness : (s : Setup) (owner digest t : List ℕ) → is_declared s owner ≡ true → is_among t (deposit_witness s owner digest) ≡ true
    → SpendsDeposit s t
in_witness s owner digest t declared h =
    elim (or_cases (bytes_eq (signature_of (deposit_key s.hash owner) digest) t) (is_among t (party_script s.hash owner ∷ [])) h) [
      | inl a ↦ record {
        party = owner;
        declared = declared;
        item = inr (digest, sym (bytes-true (signature_of (deposit_key s.hash owner) digest) t a));
      }
      | inr b ↦ elim (or_cases (bytes_eq (party_script s.hash owner) t) false b) [
        | inl c ↦ record { party = owner; declared = declared; item = inl (sym (bytes-true (party_script s.hash owner) t c)) }
        | inr c ↦ cc
      ]
    ]

-- an item of the initial transaction is what a declared owner's deposit is spent with
item_spends : (s : Setup) (st : Instance) (t : List ℕ)
    → ((d : List ℕ × Holding) → Is_in d (persistent st.advert.pre) → is_declared s (d.1).owner ≡ true)
    → is_among t (items_of (initial_transaction s st)) ≡ true → SpendsDeposit s t
item_spends s st t declared h =
    let made = prepared s.hash (initial_unsigned s.hash st) in
    let shown = shown_among t made.tx.inputs (initial_witnesses s st made) bare h in
    let from = witness_of_owner s (map (λ (d : List ℕ × Holding). (d.1).owner) (persistent st.advert.pre)) made.digests shown.0 shown.1 in
    let owner = in_map (λ (d : List ℕ × Holding). (d.1).owner) (persistent st.advert.pre) from.0 from.1 in
    in_witness s from.0 from.2.0 t (subst (λ p. is_declared s p ≡ true) (sym owner.2) (declared owner.0 owner.1))
    (subst (λ v. is_among t v ≡ true) from.2.1 shown.2)
  where
    bare : (i : TxIn) → Is_in i (map input_of (initial_unsigned s.hash st).spends) → i.witness ≡ []
    bare i k = let r = in_map input_of (initial_unsigned s.hash st).spends i k in ap (λ (x : TxIn). x.witness) r.2

-- ---- the beginning

module _ (s : Setup) (advert : Advert) (first : IsFirst s advert)
    (owned : (d : List ℕ × Holding) → Is_in d (persistent advert.pre) → is_declared s (d.1).owner ≡ true)
    (es : List Event) (so : GoesSoFar s es) where
  abbrev g : Configuration
  g = last_configuration s es

  abbrev w : World
  w = last_world s es

  module _ (st : Instance) (compiled : compiled_instance s w 0 ≡ Some st) (all : AllLive w)
      (may : (d : List ℕ × Holding) → Is_in d (persistent advert.pre) → is_init_authorised g.init_authorised 0 (d.0) ≡ true) where
    abbrev e : Event
    e = events.FireInit 0

    z : List (List ℕ)
    z = run_posts s es

    run : KeptRun s (run_posts s es) g w
    run = (kept_so_far s es so).holds.honest.run

    is : IsCompiledAt s w 0 st
    is = compiled_is s w 0 st compiled

    same : is.advert ≡ advert
    same = let q = sym is.there ∙ first.there in cc

    -- where each of these is bound to a live one, each is there
    each_there : (ds : List (List ℕ × Holding)) → ((d : List ℕ × Holding) → Is_in d ds → is_bound_live w 0 d ≡ true)
        → are_there g.deposits (bindings_of g.advertised 0) (names_of ds) ≡ true
    each_there [] h = refl
    each_there (d ∷ ds) h =
        let bindings : bindings_of g.advertised 0 ≡ bindings_at w.advertised 0 =
        ap (λ xs. bindings_of xs 0) run.tracks.advertised ∙ bindings_same w.advertised 0 in
        let there : is_there g.deposits (look_up (d.0) (bindings_of g.advertised 0)) ≡ true =
        ap (λ bs. is_there g.deposits (look_up (d.0) bs)) bindings
        ∙ there_same s g w run.tracks.money (look_up (d.0) (bindings_at w.advertised 0)) ∙ h d (inl refl) in
        and_from _ _ there (each_there ds (λ x i. h x (inr i)))

    each_authorised : (ds : List (List ℕ × Holding))
        → ((d : List ℕ × Holding) → Is_in d ds → is_init_authorised g.init_authorised 0 (d.0) ≡ true)
        → are_init_authorised g.init_authorised 0 (names_of ds) ≡ true
    each_authorised [] h = refl
    each_authorised (d ∷ ds) h = and_from _ _ (h d (inl refl)) (each_authorised ds (λ x i. h x (inr i)))

    premises_true : AllTrue (premises g (steps.Init 0))
    premises_true =
        let contract : calculus.contract_at g.contracts 0 ≡ Some advert =
        ap (λ cs. calculus.contract_at cs 0) run.tracks.constant.contracts ∙ first.there in
        let committed : have_committed g.committed 0 (participants advert) ≡ true =
        committed_same s (run_posts s es) w g run.tracks.secrets.lengths 0 (participants advert)
        ∙ subst (λ (a : Advert). have_promised w 0 (participants a) ≡ true) same is.promised in
        subst (λ o. AllTrue (init_premises g 0 o)) (sym contract) (
          and_from _ _ refl committed,
          (
            each_there (persistent advert.pre) (bound_live s advert first g w run.books.book is.advertised all),
            (each_authorised (persistent advert.pre) may, tt),
          ),
        )

    abbrev offer : Offer
    offer = record { step = steps.Init 0; event = events.FireInit 0 }

    kept : IsKept s g w offer
    kept = kept_offers s es so.run offer (offered g (steps.Init 0) offer refl (no_premise 1 (premises g (steps.Init 0)) premises_true) refl)

    tx_is : kept.tx ≡ initial_transaction s st
    tx_is = let q = sym kept.fires ∙ ap (initial_by s) compiled in cc

    pending_is : pending s w e ≡ accepted s w kept.tx kept.spent
    pending_is =
        let row : first_reason (fire_init_row s w 0) ≡ None =
        ap (λ b. first_reason ((not b, reason.NoContract) ∷ (not (is_some (compiled_instance s w 0)), reason.NotCompiled) ∷ []))
        (has_first s advert first)
        ∙ ap (λ o. first_reason ((not (is_some o), reason.NotCompiled) ∷ [])) compiled in
        (λ i. unless (row i) w [] (reaches_if s w (kept.fires i))) ∙ ap (judged s w w kept.tx) kept.accepts

    posts_are : (pending s w e).posts ≡ items_of (initial_transaction s st)
    posts_are = ap (λ (d : Pending). d.posts) pending_is ∙ ap items_of tx_is

    -- what is guessed is what a deposit is spent with
    guessed : (x : HeldSecret) → guess s w.posted (pending s w e).posts (pending s w e).allowed ≡ Some x → MayHalt s e (Guessed x.party x.name)
    guessed x h =
        let f = found (is_guessed w.posted (pending s w e).posts (pending s w e).allowed) s.header.secrets x h in
        let a = and_parts (is_among x.bytes (pending s w e).posts && not (is_among x.bytes w.posted)) _ f.1 in
        let posted = (and_parts (is_among x.bytes (pending s w e).posts) _ a.0).0 in
        let own : (d : List ℕ × Holding) → Is_in d (persistent st.advert.pre) → is_declared s (d.1).owner ≡ true =
        λ d i. owned d (subst (λ (a : Advert). Is_in d (persistent a.pre))
        (ap (λ (x : Instance). x.advert) is.is ∙ same) i) in
        record {
          secret = x;
          there = contains_from_in s.header.secrets x f.0;
          is_owner = refl;
          is_name = refl;
          spends = item_spends s st x.bytes own (sym (ap (is_among x.bytes) posts_are) ∙ posted);
        }

    -- it is the initial transaction of the only contract
    begins_it : initial_of s w kept.tx ≡ Some 0
    begins_it = by_contract (initial_of s w kept.tx) refl
      where
        by_contract : (o : Option ℕ) → initial_of s w kept.tx ≡ o → o ≡ Some 0
        by_contract None q =
            let made = prepared s.hash (initial_unsigned s.hash st) in
            absurd (not_initial s w kept.tx 0 st q compiled (ap bare tx_is ∙ with-bare made.tx (initial_witnesses s st made)))
        by_contract (Some k) q =
            let it = initial_is s w kept.tx k q in
            let c = compiled_is s w k it.instance it.compiled in
            ap Some (first.only k c.advert c.there)

    begun_then : (pending s w e).world.begun ≡ w.begun ++ 0 ∷ []
    begun_then =
        ap (λ (d : Pending). d.world.begun) pending_is
        ∙ ap (λ o. begun_after (kind_by s kept.tx kept.spent o (first_position w kept.spent)) w.begun) begins_it

    number_there : (ns : List ℕ) → has_number 0 (ns ++ 0 ∷ []) ≡ true
    number_there [] = refl
    number_there (n ∷ ns) = or_right (n == 0) _ (number_there ns)

    pub begins : Fine s (played s (es ++ e ∷ []))
    begins = goes s es so e tt []
        (λ calm. ap (λ (d : Pending). is_refused d.outcome) pending_is)
        (λ pair h. tt)
        (λ x calm h. guessed x h)
        (λ calm on.
        let begun : has_number 0 (last_world s (es ++ e ∷ [])).begun ≡ true =
        ap (λ (x : World). has_number 0 x.begun) on.world ∙ ap (has_number 0) begun_then ∙ number_there w.begun in
        subst (λ xs. Fine s (played s xs)) (sym (append-nil (es ++ e ∷ []))) (fine_so_far s (es ++ e ∷ []) on.so_far begun))
