-- The steps of the initial transaction are legal, and the configuration tracks the chain after them.
use Rattle.std.proofs.Common.{◌≡◌, ℕ, ◌+◌, ◌-◌, ◌≤◌, List, [], ◌∷◌, ◌++◌, map, true, Option, Some}
use Rattle.std.proofs.Common.{refl, sym, ap, subst, ◌∙◌, inl, inr, append-nil}
use Rattle.std.specs.Prelude.{◌&&◌, ◌==◌}
use Rattle.std.specs.List.{list_all, filter, flat_map}
use Rattle.std.specs.Str.{bytes_eq}
use Rattle.std.proofs.lemmas.Bool.{and_from}
use Rattle.spec_data.specs.Lists.{AllTrue, look_up, is_among}
use Rattle.spec_data.specs.Ranges.{most_secret_length}
use Rattle.spec_terms.specs.Advert.{Advert}
use Rattle.spec_terms.specs.Parties.{participants}
use Rattle.spec_terms.specs.Precondition.{Holding, persistent, names_of, total_of}
use Rattle.spec_terms.specs.declared.path.PathStep.{PathStep}
use Rattle.spec_calculus.specs.declared.step.Step.{Step}
use Rattle.spec_calculus.specs.declared.step.Step.TheVariants as steps
use Rattle.spec_calculus.specs.declared.parts.Deposit.{Deposit as LiveDeposit}
use Rattle.spec_calculus.specs.declared.parts.Advertised.{Advertised}
use Rattle.spec_calculus.specs.declared.parts.Committed.{Committed}
use Rattle.spec_calculus.specs.declared.parts.InitAuthorisation.{InitAuthorisation}
use Rattle.spec_calculus.specs.Beginning.{contract_at, pre_of, bindings_of, has_committed, have_committed, is_there as is_bound_there, are_there, numbers_of, persistent_names, is_own, is_init_authorised}
use Rattle.spec_calculus.specs.Branches.{gone, total_value}
use Rattle.spec_calculus.specs.Configuration.{Configuration}
use Rattle.spec_calculus.specs.Moves.{kept}
use Rattle.spec_calculus.specs.Steps.{with_init, begun, effect, after_steps, Legal, auth_init_premises, init_premises}
use Rattle.spec_bitcoin.specs.declared.tx.OutPoint.{OutPoint}
use Rattle.spec_bitcoin.specs.Digests.{txid}
use Rattle.spec_compiler.specs.declared.unsigned.Spent.{Spent}
use Rattle.spec_compiler.specs.Keyed.Instance.{Instance, people}
use Rattle.spec_compiler.specs.Keyed.Keys.{Keys}
use Rattle.spec_compiler.specs.Keyed.Transactions.{tx_of, initial_unsigned, root_value, deposit}
use Rattle.spec_run.specs.Steps.{auth_inits}
use Rattle.spec_tool.specs.declared.which.Which.TheVariants as names
use Rattle.spec_deal.specs.Needed.{deal_contract}
use Rattle.theory_calculus.specs.Members.{Is_in}
use Rattle.theory_calculus.proofs.Funded.{IsFine}
use Rattle.theory_calculus.proofs.Names.{bytes_refl, looked_in, in_looked, in_named, named_looked, all_among, persistent_deposit, persistent_different, different_names}
use Rattle.theory_calculus.proofs.Standing.{init_gone}
use Rattle.theory_world.proofs.Same.{place-true}
use Rattle.theory_world.proofs.Staying.{init_new}
use Rattle.theory_world.proofs.Tests.{any_map}
use Rattle.theory_run.proofs.Steps.Beginnings.{init_all, after-inits, init_all_more, InitOk, legal_inits}
use Rattle.theory_run.proofs.Steps.CommitSteps.{every}
use Rattle.theory_run.proofs.Steps.Legal.{passes, after-append, legal_append}
use Rattle.spec_chain.specs.declared.happened.Happened.{Happened}
use Rattle.spec_chain.specs.declared.output.Held.{Held}
use Rattle.spec_chain.specs.declared.output.Held.TheVariants as helds
use Rattle.spec_chain.specs.declared.output.Output.{Output}
use Rattle.spec_chain.specs.Chain.{Course}
use Rattle.spec_chain.specs.Following.{begin_steps}
use Rattle.spec_chain.specs.Outputs.{is_position, is_there, has_place, without_all}
use Rattle.theory_chain.specs.ChainSteps.{deal_bindings, taken_by, paid_deposit, active_contract, revealed_secret}
use Rattle.theory_chain.proofs.Deals.Whole.{Whole, from_map, in_map}
use Rattle.theory_chain.proofs.Deals.Outputs.{there_of}
use Rattle.theory_chain.proofs.Runs.Agreed.{fine_along, committed_by}
use Rattle.theory_chain.proofs.Runs.Kept.{Kept}
use Rattle.theory_chain.proofs.Runs.Left.{flat_append, lies_at, contracts_stay, deposits_after}
use Rattle.theory_chain.proofs.Runs.Tracking.{Tracks, Counts, numbers_are, numbers_later, deposits_left, position_apart}

module _ (hash : List ℕ → List ℕ) (keys : Keys) (s : Instance) (whole : Whole hash keys s) (lengths : List ℕ → ℕ)
    (fair : (name : List ℕ) → lengths name ≤ most_secret_length)
    (course : Course) (kept_so : Kept hash keys s course) (counts : Counts hash keys s lengths fair course)
    (g : Configuration) (tracks : Tracks hash keys s lengths fair g course)
    (live : (x : Spent) → Is_in x (initial_unsigned hash keys s).spends → has_place course.state.live x.outpoint ≡ true) where
  abbrev ds : List (List ℕ × Holding)
  ds = persistent s.advert.pre

  abbrev taken_names : List (List ℕ)
  taken_names = names_of (persistent s.advert.pre)

  abbrev places : List OutPoint
  places = map (λ (x : Spent). x.outpoint) (initial_unsigned hash keys s).spends

  -- ---- what it takes

  contract_is : contract_at g.contracts deal_contract ≡ Some s.advert
  contract_is = ap (λ (cs : List Advert). contract_at cs deal_contract) tracks.contracts

  bindings_are : bindings_of g.advertised deal_contract ≡ deal_bindings s
  bindings_are = ap (λ (as' : List Advertised). bindings_of as' deal_contract) tracks.advertised

  there : are_there g.deposits (deal_bindings s) taken_names ≡ true
  there =
      deposits_left hash keys s lengths fair whole course kept_so g tracks counts taken_names (λ x k.
      let v = named_looked ds x k in
      let i = looked_in ds x v.0 v.1 in
      let spent = deposit hash keys s x v.0 in (
        v.0,
        persistent_deposit s.advert.pre (x, v.0) i,
        live spent (in_map (λ (d : List ℕ × Holding). deposit hash keys s d.0 d.1) ds (x, v.0) i),
      ))

  committed_all : have_committed g.committed deal_contract (participants s.advert) ≡ true
  committed_all =
      every (λ p. has_committed g.committed deal_contract p) (participants s.advert) (λ p h.
      ap (λ (cs : List Committed). has_committed cs deal_contract p) tracks.committed ∙ one (people s) p h)
    where
      one : (ps : List (List ℕ)) (p : List ℕ) → is_among p ps ≡ true → has_committed (map (committed_by s lengths fair) ps) deal_contract p ≡ true
      one ps p h = any_map (λ (c : Committed). (c.contract == deal_contract) && bytes_eq c.party p) (committed_by s lengths fair) ps ∙ h

  -- ---- its authorisations

  inits_fine : (es : List (List ℕ × Holding)) → ((d : List ℕ × Holding) → Is_in d es → Is_in d (persistent s.advert.pre)) → InitOk g deal_contract es
  inits_fine [] f = tt
  inits_fine (d ∷ es) f =
      let i = f d (inl refl) in
      let looked = in_looked ds d (persistent_different s.advert.pre (different_names s.advert whole.checked)) i in (
        subst (λ (o : Option Advert). AllTrue (auth_init_premises g deal_contract (d.1).owner (d.0) o)) (sym contract_is) (
          committed_all,
          (
            ap (λ (o : Option Holding). is_own o (d.1).owner) looked ∙ bytes_refl (d.1).owner,
            (
              ap (λ (bs : List (List ℕ × ℕ)). is_bound_there g.deposits (look_up (d.0) bs)) bindings_are
                  ∙ one_there taken_names (d.0) there (in_named ds d i),
              tt,
            ),
          ),
        ),
        inits_fine es (λ e k. f e (inr k)),
      )
    where
      one_there : (ns : List (List ℕ)) (x : List ℕ) → are_there g.deposits (deal_bindings s) ns ≡ true → is_among x ns ≡ true
          → is_bound_there g.deposits (look_up x (deal_bindings s)) ≡ true
      one_there ns x h k = all_among (λ y. is_bound_there g.deposits (look_up y (deal_bindings s))) ns x h k

  abbrev mid : Configuration
  mid = record g { init_authorised = init_all g.init_authorised deal_contract (persistent s.advert.pre) }

  inits : Legal g (auth_inits deal_contract (persistent s.advert.pre))
  inits = legal_inits g deal_contract (persistent s.advert.pre) g.init_authorised (inits_fine (persistent s.advert.pre) (λ d h. h))

  mid_fine : IsFine mid
  mid_fine =
      subst IsFine (after-inits deal_contract (persistent s.advert.pre) g) (fine_along g (auth_inits deal_contract (persistent s.advert.pre)) tracks.fine inits)

  authorised : (xs : List InitAuthorisation) (es : List (List ℕ × Holding))
      → list_all (λ n. is_init_authorised (init_all xs deal_contract es) deal_contract n) (names_of es) ≡ true
  authorised xs [] = refl
  authorised xs (e ∷ es) =
      and_from _ _ (init_all_more (with_init xs deal_contract (e.0)) deal_contract deal_contract es (e.0) (init_new xs deal_contract (e.0)))
      (authorised (with_init xs deal_contract (e.0)) es)

  init_row : AllTrue (init_premises mid deal_contract (contract_at mid.contracts deal_contract))
  init_row =
      subst (λ (o : Option Advert). AllTrue (init_premises mid deal_contract o)) (sym contract_is) (
        committed_all,
        (
          ap (λ (bs : List (List ℕ × ℕ)). are_there g.deposits bs (names_of (persistent s.advert.pre))) bindings_are ∙ there,
          (authorised g.init_authorised (persistent s.advert.pre), tt),
        ),
      )

  -- ---- contracts

  -- no position is spent
  none_spent : (o : Output) (p : List PathStep) → Is_in o course.state.live → o.held ≡ helds.Position p → lies_at places o ≡ true → ⊥
  none_spent o p h held lies =
      let r = there_of (λ (q : OutPoint). is_there q o) places lies in
      let place = place-true o.place r.0 r.2 in
      let a = from_map (λ (x : Spent). x.outpoint) (initial_unsigned hash keys s).spends r.0 r.1 in
      let b = from_map (λ (d : List ℕ × Holding). deposit hash keys s d.0 d.1) (persistent s.advert.pre) a.0 a.1 in
      position_apart hash keys s lengths fair whole course kept_so o p b.0 h held (persistent_deposit s.advert.pre b.0 b.1)
      (place ∙ a.2 ∙ ap (λ (x : Spent). x.outpoint) b.2)

  all_stay : flat_map active_contract (without_all course.state.live places) ≡ flat_map active_contract course.state.live
  all_stay = contracts_stay course.state.live places (λ o h lies. by_held o h lies o.held refl)
    where
      by_held : (o : Output) → Is_in o course.state.live → lies_at places o ≡ true → (h : Held) → o.held ≡ h → active_contract o ≡ []
      by_held o h lies (helds.Deposit name) e = rw e refl
      by_held o h lies (helds.Payout party) e = rw e refl
      by_held o h lies (helds.Position p) e = absurd (none_spent o p h e lies)

  -- ---- the step

  abbrev pub root_output : Output
  root_output = record {
    number = course.state.next;
    held = helds.Position [];
    place = record { txid = txid hash (tx_of (initial_unsigned hash keys s)); vout = 0 };
    value = root_value s;
  }

  module _ (later : Course) (h : Happened) (history : later.history ≡ course.history ++ h ∷ []) (which : h.which ≡ Some names.Init)
      (live_is : later.state.live ≡ without_all course.state.live places ++ filter is_position (root_output ∷ []))
      (made_is : later.state.made ≡ course.state.made ++ root_output ∷ [])
      (next_is : later.state.next ≡ course.state.next + 1)
      (shown_is : later.state.shown ≡ course.state.shown) where
    pub record Begun (ss : List Step) : Type 0 where
      pub legal : Legal g ss
      pub tracked : Tracks hash keys s lengths fair (after_steps g ss) later
      pub timed : (after_steps g ss).time ≡ g.time

    ends : effect mid (steps.Init deal_contract) ≡ begun mid deal_contract (Some s.advert) (numbers_of (deal_bindings s) taken_names)
    ends =
        (λ i. begun mid deal_contract (contract_is i) (numbers_of (bindings_of g.advertised deal_contract) (persistent_names (pre_of (contract_is i)))))
        ∙ ap (λ (bs : List (List ℕ × ℕ)). begun mid deal_contract (Some s.advert) (numbers_of bs taken_names)) bindings_are

    worth : total_value (gone g.deposits (numbers_of (deal_bindings s) taken_names)) ≡ total_of (persistent s.advert.pre)
    worth =
        ap (λ (bs : List (List ℕ × ℕ)). total_value (gone g.deposits (numbers_of bs taken_names))) (sym bindings_are)
        ∙ init_gone mid mid_fine deal_contract s.advert contract_is
        (ap (λ (bs : List (List ℕ × ℕ)). are_there g.deposits bs taken_names) bindings_are ∙ there)

    init_legal : Legal mid (steps.Init deal_contract ∷ [])
    init_legal = (passes mid (steps.Init deal_contract) init_row, tt)

    tracked_then : Tracks hash keys s lengths fair (begun mid deal_contract (Some s.advert) (numbers_of (deal_bindings s) taken_names)) later
    tracked_then = record {
      fine = subst IsFine ends (fine_along mid (steps.Init deal_contract ∷ []) mid_fine init_legal);
      contracts = tracks.contracts;
      advertised = tracks.advertised;
      committed = tracks.committed;
      active =
          (λ i. tracks.active i ++ record { number = tracks.next i; contract = deal_contract; position = []; balance = worth i - s.advert.fee } ∷ [])
          ∙ (λ i. sym all_stay i ++ flat_map active_contract (root_output ∷ []))
          ∙ sym (flat_append active_contract (without_all course.state.live places) (root_output ∷ []))
          ∙ ap (flat_map active_contract) (sym live_is);
      deposits =
          sym (append-nil (kept g.deposits (numbers_of (deal_bindings s) taken_names)))
          ∙ ap (λ (xs : List LiveDeposit). kept xs (numbers_of (deal_bindings s) taken_names) ++ flat_map paid_deposit (root_output ∷ [])) tracks.deposits
          ∙ deposits_after s course later h taken_names (root_output ∷ []) history (ap (taken_by s) which) made_is
          (λ m d k. numbers_are hash keys s lengths fair whole taken_names m d k)
          (λ o k. numbers_later hash keys s lengths fair whole taken_names o.number (counts.made o k));
      revealed = tracks.revealed ∙ ap (map (revealed_secret s)) (sym shown_is);
      next = ap (λ (m : ℕ). m + 1) tracks.next ∙ sym next_is;
    }

    pub begins : Begun (begin_steps s)
    begins =
        let ss = steps.Init deal_contract ∷ [] in
        let e = after-append g (auth_inits deal_contract (persistent s.advert.pre)) ss
        ∙ ap (λ (c : Configuration). after_steps c ss) (after-inits deal_contract (persistent s.advert.pre) g) ∙ ends in
        record {
          legal =
              legal_append g (auth_inits deal_contract (persistent s.advert.pre)) ss inits
              (subst (λ (c : Configuration). Legal c ss) (sym (after-inits deal_contract (persistent s.advert.pre) g)) init_legal);
          tracked = subst (λ (c : Configuration). Tracks hash keys s lengths fair c later) (sym e) tracked_then;
          timed = ap (λ (c : Configuration). c.time) e;
        }
