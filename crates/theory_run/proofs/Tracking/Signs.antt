-- The configuration tracks the world where a party authorises a branch or lets a contract take its deposits.
use Rattle.std.proofs.Common.{◌≡◌, ℕ, List, [], ◌∷◌, ◌++◌, true, Option, Some, None, refl, sym, ap, ◌∙◌, subst, inl, inr}
use Rattle.std.specs.Prelude.{◌&&◌, slice_get, is_some}
use Rattle.std.specs.List.{filter}
use Rattle.std.specs.Option.{option_and_then}
use Rattle.std.proofs.lemmas.Bool.{and_parts, not-false}
use Rattle.spec_data.specs.Lists.{AllTrue, is_among, look_up, first_reason}
use Rattle.spec_data.proofs.ListLemmas.{no_reason-none_true}
use Rattle.spec_terms.specs.Advert.{Advert}
use Rattle.spec_terms.specs.Parties.{participants}
use Rattle.spec_terms.specs.Term as term
use Rattle.spec_terms.specs.Precondition.{Holding, persistent}
use Rattle.spec_calculus.specs.declared.step.Step.TheVariants as steps
use Rattle.spec_calculus.specs.Configuration.{Configuration}
use Rattle.spec_calculus.specs.Beginning.{contract_at, bindings_of, is_own, is_there, has_persistent}
use Rattle.spec_calculus.specs.Branches.{active_at, branch_of, asks_of}
use Rattle.spec_calculus.specs.Steps.{branch_at, auth_init_premises, is_committed, with_branch, Legal}
use Rattle.spec_compiler.specs.Instance.{Instance}
use Rattle.spec_run.specs.declared.event.Event.TheVariants as events
use Rattle.spec_run.specs.Setup.{Setup, pre_at, pre_of}
use Rattle.spec_run.specs.World.{ContractPosition, Output, World, live_position, live_position_at, have_promised}
use Rattle.spec_run.specs.Compiled.{compiled_instance}
use Rattle.spec_run.specs.Agreement.{active_in, active_by}
use Rattle.spec_run.specs.Pending.{done}
use Rattle.spec_run.specs.Secrets.{all_secrets}
use Rattle.spec_run.specs.Ledger.{position_branch}
use Rattle.spec_run.specs.Signing.{with_pairs, initial_pairs, init_row, init_pending, asked_by, branch_if_live, authorising_pairs, authorise_row, authorise_pending}
use Rattle.spec_run.specs.Steps.{auth_inits, is_of_party, is_bound_live, names_deposit, init_steps}
use Rattle.theory_calculus.proofs.Names.{bytes_refl, different_names, in_looked, persistent_different}
use Rattle.theory_calculus.specs.Members.{Is_in}
use Rattle.theory_calculus.proofs.Members.{in_filter}
use Rattle.theory_run.proofs.Facts.Secrets.{different_secrets}
use Rattle.theory_run.proofs.Steps.Legal.{passes}
use Rattle.theory_world.proofs.Ledger.Outputs.{active-at}
use Rattle.theory_world.proofs.Later.{compiled_is}
use Rattle.theory_run.proofs.Accepted.Spending.{Checked}
use Rattle.theory_run.proofs.Steps.Beginnings.{bindings_same, committed_same, there_same, after-inits, init_all, InitOk, legal_inits}
use Rattle.theory_run.specs.Tracks.{Tracks}
use Rattle.theory_run.proofs.Tracking.Tracked.{Tracked, still, unless_tracked}

-- what is held is active, with some balance
seen_active : (n : ℕ) (held : ContractPosition) (o : Option Output) → live_position o ≡ Some held → (v : ℕ)
    × (option_and_then (active_in n) o ≡ Some (record { number = n; contract = held.contract; position = held.position; balance = v }))
seen_active n held None e = cc
seen_active n held (Some o) e = (o.value, ap (active_by n o.value) e)

-- a branch of what is held, in both places
branch_same : (s : Setup) (contracts : List Advert) (held : ContractPosition) (j v n : ℕ) → contracts ≡ s.contracts
    → branch_of contracts (Some (record { number = n; contract = held.contract; position = held.position; balance = v })) j ≡ position_branch s held j
branch_same s contracts held j v n e = by_contract (contract_at s.contracts held.contract) refl
  where
    by_contract : (o : Option Advert) → contract_at s.contracts held.contract ≡ o
        → branch_of contracts (Some (record { number = n; contract = held.contract; position = held.position; balance = v })) j ≡ position_branch s held j
    by_contract None c = rw (e, c) refl
    by_contract (Some a) c = rw (e, c) refl

module _ (s : Setup) (z : List (List ℕ)) (apart : different_secrets (all_secrets s) ≡ true) (g : Configuration) (w : World) (tracks : Tracks s z g w) where
  -- ---- a branch

  authorised : (party : List ℕ) (n j : ℕ) (held : ContractPosition) → live_position_at w n ≡ Some held → is_some (position_branch s held j)
      ≡ true → is_among party (asked_by (position_branch s held j)) ≡ true → Legal g (steps.AuthBranch party n j ∷ [])
  authorised party n j held h b a =
      let seen = seen_active n held (slice_get w.outputs n) h in
      let act : active_at g.active n ≡ Some (record { number = n; contract = held.contract; position = held.position; balance = seen.0 }) =
      ap (λ xs. active_at xs n) tracks.money.active ∙ active-at n w.outputs ∙ seen.1 in
      let br : branch_at g n j ≡ position_branch s held j =
      ap (λ x. branch_of g.contracts x j) act ∙ branch_same s g.contracts held j seen.0 n tracks.constant.contracts in
      let asks_same : asks_of (branch_at g n j) ≡ asked_by (position_branch s held j) = ap asks_of br ∙ same_asks (position_branch s held j) in
      (passes g (steps.AuthBranch party n j) (ap is_some act, (ap is_some br ∙ b, (ap (is_among party) asks_same ∙ a, tt))), tt)
    where
      same_asks : (o : Option term.Guarded) → asks_of o ≡ asked_by o
      same_asks None = refl
      same_asks (Some c) = refl

  pub authorise_tracked : (party : List ℕ) (n j : ℕ) → Tracked s z g w (events.Authorise party n j) (authorise_pending s w party n j)
  authorise_tracked party n j =
      unless_tracked s z apart g w tracks (events.Authorise party n j) (first_reason (authorise_row s w party n j)) []
      (done (with_pairs w (authorising_pairs s w party (live_position_at w n) j)) []) (λ r clear unguessed begins.
      let row = no_reason-none_true (authorise_row s w party n j) r in
      record {
        legal = by_held (live_position_at w n) refl (not-false _ row.1.0) (not-false _ row.1.1.0);
        tracks = still s z apart g w tracks g.init_authorised (with_branch g.branch_authorised party n j) g.time w.tip
            (with_pairs w (authorising_pairs s w party (live_position_at w n) j)).book [] tracks.money.time clear;
      })
    where
      by_held : (o : Option ContractPosition) → live_position_at w n ≡ o → is_some (branch_if_live s o j) ≡ true
          → is_among party (asked_by (branch_if_live s o j)) ≡ true → Legal g (steps.AuthBranch party n j ∷ [])
      by_held None e b a = cc
      by_held (Some held) e b a = authorised party n j held e b a

  -- ---- deposits of a contract

  module _ (check : Checked s w) (k : ℕ) (party : List ℕ) where
    module _ (st : Instance) (compiled : compiled_instance s w k ≡ Some st) where
      abbrev ad : Advert
      ad = st.advert

      advert_is : slice_get s.contracts k ≡ Some ad
      advert_is = let ci = compiled_is s w k st compiled in ci.there ∙ ap (λ (y : Instance). Some y.advert) (sym ci.is)

      at : contract_at g.contracts k ≡ Some ad
      at = ap (λ cs. slice_get cs k) tracks.constant.contracts ∙ advert_is

      promised : have_promised w k (participants ad) ≡ true
      promised =
          let ci = compiled_is s w k st compiled in
          subst (λ (a : Advert). have_promised w k (participants a) ≡ true) (ap (λ (y : Instance). y.advert) (sym ci.is)) ci.promised

      all_committed : is_committed g k (Some ad) ≡ true
      all_committed = committed_same s z w g tracks.secrets.lengths k (participants ad) ∙ promised

      owned : (d : List ℕ × Holding) → Is_in d (persistent ad.pre) → has_persistent ad.pre (d.1).owner (d.0) ≡ true
      owned d i = ap (λ o. is_own o (d.1).owner)
          (in_looked (persistent ad.pre) d (persistent_different ad.pre (different_names ad (check.checked k st compiled))) i) ∙ bytes_refl (d.1).owner

      there : (d : List ℕ × Holding) → is_bound_live w k d ≡ true → is_there g.deposits (look_up (d.0) (bindings_of g.advertised k)) ≡ true
      there d l = there_same s g w tracks.money (look_up (d.0) (bindings_of g.advertised k))
          ∙ ap (λ bs. names_deposit w (look_up (d.0) bs)) (ap (λ xs. bindings_of xs k) tracks.advertised ∙ bindings_same w.advertised k) ∙ l

      init_ok : (ds : List (List ℕ × Holding))
          → ((d : List ℕ × Holding) → Is_in d ds → Is_in d (persistent ad.pre) × (is_bound_live w k d ≡ true)) → InitOk g k ds
      init_ok [] h = tt
      init_ok (d ∷ ds) h =
          let i = h d (inl refl) in (
            subst (λ o. AllTrue (auth_init_premises g k (d.1).owner (d.0) o)) (sym at)
                (all_committed, (owned d i.0, (there d i.1, tt))),
            init_ok ds (λ e j. h e (inr j)),
          )

      pub legal_init : Legal g (init_steps s w k party)
      legal_init =
          let test = λ (d : List ℕ × Holding). is_of_party party d && is_bound_live w k d in
          let mine : List (List ℕ × Holding) = filter test (persistent ad.pre) in
          let ok = init_ok mine (λ d i. let p = in_filter test (persistent ad.pre) d i in
          (p.0, (and_parts (is_of_party party d) (is_bound_live w k d) p.1).1)) in
          subst (λ o. Legal g (auth_inits k (filter test (persistent (pre_of o))))) (sym advert_is) (legal_inits g k mine g.init_authorised ok)

    pub init_tracked : Tracked s z g w (events.Init k party) (init_pending s w k party)
    init_tracked = unless_tracked s z apart g w tracks (events.Init k party) (first_reason (init_row s w k party)) []
        (done (with_pairs w (initial_pairs s party (compiled_instance s w k))) []) (λ r clear unguessed begins.
        let row = no_reason-none_true (init_row s w k party) r in
        let ds = filter (λ d. is_of_party party d && is_bound_live w k d) (persistent (pre_at s k)) in
        record {
          legal = by_compiled (compiled_instance s w k) refl (not-false _ row.1.1.0);
          tracks = subst (λ c. Tracks s z c (record w
              { book = (with_pairs w (initial_pairs s party (compiled_instance s w k))).book; hashed = w.hashed; posted = w.posted ++ [] }))
              (sym (after-inits k ds g))
              (still s z apart g w tracks (init_all g.init_authorised k ds) g.branch_authorised g.time w.tip
              (with_pairs w (initial_pairs s party (compiled_instance s w k))).book [] tracks.money.time clear);
        })
      where
        by_compiled : (o : Option Instance) → compiled_instance s w k ≡ o → is_some o ≡ true → Legal g (init_steps s w k party)
        by_compiled None c h = cc
        by_compiled (Some st) c h = legal_init st c
