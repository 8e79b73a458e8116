-- Whatever a run shows may be printed.
use Rattle.std.proofs.Common.{◌≡◌, ℕ, ◌+◌, ◌≤◌, ◌^◌, List, [], ◌∷◌, ◌++◌, map, length, Bool, true, false, Option, Some}
use Rattle.std.proofs.Common.{None, refl, sym, ap, subst, ◌∙◌}
use Rattle.std.proofs.Common.{arith, inl, inr}
use Rattle.std.specs.Prelude.{sum_by, nat_le, ◌==◌, if◌then◌else◌, option_and_then}
use Rattle.std.specs.List.{AllByRecursion, flat_map}
use Rattle.std.proofs.lemmas.Bool.Decides.{nat_tests}
use Rattle.spec_data.specs.Ranges.{max_money}
use Rattle.spec_terms.specs.Advert.{Advert}
use Rattle.spec_terms.specs.Faults.{IsWellFormed}
use Rattle.spec_terms.specs.Paths.{Subterm, position, as_contract, subterm_from, contract_under}
use Rattle.spec_terms.specs.Precondition.{secrets}
use Rattle.spec_terms.specs.Term.{Contract}
use Rattle.spec_terms.specs.declared.path.PathStep.{PathStep}
use Rattle.spec_bitcoin.specs.Keys.{IsStep}
use Rattle.spec_calculus.specs.declared.parts.Deposit.{Deposit}
use Rattle.spec_calculus.specs.declared.parts.ActiveContract.{ActiveContract}
use Rattle.spec_calculus.specs.declared.step.Owner.{Owner}
use Rattle.spec_calculus.specs.declared.step.Owner.TheVariants.{Party}
use Rattle.spec_calculus.specs.declared.step.Step.{Step}
use Rattle.spec_calculus.specs.declared.step.Step.TheVariants as steps
use Rattle.spec_calculus.specs.Configuration.{Configuration}
use Rattle.spec_calculus.specs.Branches.{length_at, is_revealed}
use Rattle.spec_calculus.specs.Moves.{made}
use Rattle.spec_calculus.specs.Offers as calculus
use Rattle.spec_calculus.specs.Steps.{fails, effect, after_steps, Legal, IsLegalRun, owned}
use Rattle.spec_run.specs.declared.outcome.Outcome.{Outcome}
use Rattle.spec_run.specs.declared.outcome.Outcome.TheVariants.{Done, Accepted, Refused}
use Rattle.spec_run.specs.Setup.{Setup}
use Rattle.spec_run.specs.World.{Output, World}
use Rattle.spec_run.specs.Values.{total_live, live_value}
use Rattle.spec_run.specs.Offers.{Offer, offers_of, offers}
use Rattle.spec_run.specs.Translation.{opening_configuration}
use Rattle.spec_text.specs.StepText.{made_by}
use Rattle.spec_text.specs.Played.{onto_live, live_from, live_outputs}
use Rattle.theory_calculus.specs.Money.{total_money, IsFunded, IsWithinAllMoney}
use Rattle.theory_calculus.specs.Numbered.{IsNumbered}
use Rattle.theory_calculus.specs.Members.{Is_in}
use Rattle.theory_calculus.proofs.Kept.{money_is_kept, money_stays_within}
use Rattle.theory_calculus.proofs.Members.{in_filter, contains_from_in, all_in}
use Rattle.theory_calculus.proofs.Numbered.{numbers_apart}
use Rattle.theory_calculus.proofs.Runs.{runs_are_one}
use Rattle.theory_calculus.proofs.Sums.{made_value}
use Rattle.theory_run.proofs.Steps.Legal.{after-append, legal_append}
use Rattle.theory_world.proofs.Labels.{path_fine}
use Rattle.theory_world.proofs.Tests.{sum_map}
use Rattle.spec_run.specs.Conditions.{IsSetup}
use Rattle.theory_play_text.specs.Lines.{Said, ShownSecret}
use Rattle.theory_play_text.specs.Lines as line
use Rattle.theory_play_text.specs.Report.{shown_step, secret_if, secret_of, secrets_from}
use Rattle.theory_play_text.specs.Printable.{starts, made_beside, step_said, end_lines, IsWide, IsNamed, IsOwner, IsLength, IsOutcome}
use Rattle.theory_play_text.specs.Printable.{IsShownStep}
use Rattle.theory_play_text.specs.Printable.{IsSaid}
use Rattle.theory_play_text.proofs.LegalSteps.{IsFine, MovesToNamed, all_by_in, by_append, by_get, step_shown, fine_after, deposit_wide}
use Rattle.theory_play_text.proofs.LegalSteps.{active_wide}
use Rattle.theory_play_text.proofs.LegalSteps.{few_contracts, pledged_at}
use Rattle.theory_play_text.proofs.Named.{IsOwned, has_names, secrets_named}
use Rattle.theory_play_text.proofs.RunSteps.{next_grows}

-- ---- the opening

module _ (parties : List (List ℕ)) where
  abbrev pub AreSaid : List Said → Type 0
  AreSaid ls = AllByRecursion (IsSaid parties) ls

  pub starts_said : (n : ℕ) (ds : List (List ℕ × ℕ)) → n + length ds ≤ 2 ^ 40 → AllByRecursion (λ d. IsNamed (d.0) × IsWide (d.1)) ds
      → AreSaid (starts n ds)
  starts_said n [] few h = tt
  starts_said n (d ∷ ds) few h = ((omega (arith, few), (h.0).0, (h.0).1), starts_said (n + 1) ds (omega (arith, few)) h.1)

  -- ---- steps

  made_again : (made' : List ℕ) (st : Step) → made_beside (made_beside made' st) (shown_step st) ≡ made_beside made' st
  made_again m (steps.Delay n) = refl
  made_again m (steps.AuthMove a action) = refl
  made_again m (steps.Move action) = refl
  made_again m (steps.Advertise k bs) = refl
  made_again m (steps.Commit k a ls) = refl
  made_again m (steps.AuthInit k a x) = refl
  made_again m (steps.Init k) = refl
  made_again m (steps.Reveal k a x) = refl
  made_again m (steps.AuthBranch a n i) = refl
  made_again m (steps.PutReveal n i) = refl
  made_again m (steps.Withdraw n i) = refl
  made_again m (steps.Split n i) = refl

  beside_wide : (m : List ℕ) (st : Step) → AllByRecursion IsWide m → AllByRecursion IsWide (made_beside m st)
  beside_wide m (steps.Delay n) h = tt
  beside_wide m (steps.AuthMove a action) h = tt
  beside_wide m (steps.Move action) h = tt
  beside_wide m (steps.Advertise k bs) h = tt
  beside_wide m (steps.Commit k a ls) h = tt
  beside_wide m (steps.AuthInit k a x) h = tt
  beside_wide m (steps.Init k) h = h
  beside_wide m (steps.Reveal k a x) h = tt
  beside_wide m (steps.AuthBranch a n i) h = tt
  beside_wide m (steps.PutReveal n i) h = h
  beside_wide m (steps.Withdraw n i) h = h
  beside_wide m (steps.Split n i) h = h

  pub steps_said : (m : List ℕ) → AllByRecursion IsWide m → (ss : List Step) → AllByRecursion (λ st. IsShownStep (shown_step st)) ss
      → AreSaid (map (step_said m) ss)
  steps_said m h [] k = tt
  steps_said m h (st ∷ ss) k = ((k.0, made_again m st, beside_wide m st h), steps_said m h ss k.1)

  each_first : (ms : List (ℕ × ℕ)) → AllByRecursion (λ m. IsWide (m.0) × IsWide (m.1)) ms
      → AllByRecursion IsWide (map (λ (m : ℕ × ℕ). m.0) ms)
  each_first [] h = tt
  each_first (m ∷ ms) h = ((h.0).0, each_first ms h.1)

  pub made_wide : (o : Outcome) → IsOutcome o → AllByRecursion IsWide (made_by o)
  made_wide Done h = tt
  made_wide (Accepted spent made' lock) h = each_first made' h.1
  made_wide (Refused r) h = tt

  -- ---- the end

  said_map : {X : Type 0} (make : X → Said) (xs : List X) → ((x : X) → Is_in x xs → IsSaid parties (make x)) → AreSaid (map make xs)
  said_map make [] f = tt
  said_map make (x ∷ xs) f = (f x (inl refl), said_map make xs (λ y i. f y (inr i)))

  -- live outputs are no more than all, and each is worth no more than all
  live_said : (n : ℕ) (os : List Output) → n + length os ≤ 2 ^ 40 → total_live os ≤ max_money
      → AreSaid (map (λ o. line.live o) (live_from n os))
  live_said n [] few money = tt
  live_said n (o ∷ os) few money = by_live o.live money (live_said (n + 1) os (omega (arith, few)))
    where
      by_live : (t : Bool) → (if t then o.value else 0) + total_live os ≤ max_money
          → (total_live os ≤ max_money → AreSaid (map (λ o. line.live o) (live_from (n + 1) os)))
          → AreSaid (map (λ o. line.live o) (onto_live t n o.value (live_from (n + 1) os)))
      by_live true l ih = ((omega (arith, few), omega (arith, l)), ih (omega (arith, l)))
      by_live false l ih = ih (omega (arith, l))

  secret_said : (g : Configuration) (k : ℕ) (x : List ℕ × List ℕ) → IsWide k → IsOwned x
      → ((a y : List ℕ) (n : Option ℕ) → length_at g.committed k a y ≡ Some n → IsLength n)
      → AreSaid (map (λ y. line.secret y) (secret_of g k x))
  secret_said g k x h named f = by_length (length_at g.committed k (x.1) (x.0)) refl
    where
      by_length : (o : Option (Option ℕ)) → length_at g.committed k (x.1) (x.0) ≡ o
          → AreSaid (map (λ y. line.secret y) (secret_if k (x.1) (x.0) (is_revealed g.revealed k (x.1) (x.0)) o))
      by_length None e = tt
      by_length (Some n) e = ((h, named.1, named.0, f (x.1) (x.0) n e), tt)

  map_more : (xs ys : List ShownSecret) → AreSaid (map (λ y. line.secret y) xs) → AreSaid (map (λ y. line.secret y) ys)
      → AreSaid (map (λ y. line.secret y) (xs ++ ys))
  map_more [] ys h k = k
  map_more (x ∷ xs) ys h k = (h.0, map_more xs ys h.1 k)

  own_said : (g : Configuration) (k : ℕ) (xs : List (List ℕ × List ℕ)) → IsWide k → AllByRecursion IsOwned xs
      → ((a y : List ℕ) (n : Option ℕ) → length_at g.committed k a y ≡ Some n → IsLength n)
      → AreSaid (map (λ y. line.secret y) (flat_map (secret_of g k) xs))
  own_said g k [] h named f = tt
  own_said g k (x ∷ xs) h named f = map_more (secret_of g k x) _ (secret_said g k x h named.0 f) (own_said g k xs h named.1 f)

  secrets_said : (g : Configuration) (k : ℕ) (cs : List Advert) → k + length cs ≤ 2 ^ 40 → AllByRecursion IsWellFormed cs
      → ((j : ℕ) (a y : List ℕ) (n : Option ℕ) → length_at g.committed j a y ≡ Some n → IsLength n)
      → AreSaid (map (λ y. line.secret y) (secrets_from g k cs))
  secrets_said g k [] few well f = tt
  secrets_said g k (c ∷ cs) few well f =
      map_more (flat_map (secret_of g k) (secrets c.pre)) _
      (own_said g k (secrets c.pre) (omega (arith, few)) (secrets_named c.pre (has_names c well.0).pre) (f k))
      (secrets_said g (k + 1) cs (omega (arith, few)) well.1 f)

  little : (n m : ℕ) → nat_le n m ≡ true → n ≤ m
  little n m h = grind (arith, nat_tests)

  module _ (g : Configuration) (fine : IsFine g) (numbered : IsNumbered g) (funded : IsFunded g) (within : IsWithinAllMoney g)
      (bound : g.next ≤ 2 ^ 64) where
    deposits_said : AreSaid (map (λ d. line.deposit d) g.deposits)
    deposits_said = said_map (λ d. line.deposit d) g.deposits
        (λ d i.
        let v = little d.value max_money (all_in (λ (x : Deposit). nat_le x.value max_money) g.deposits d within.deposits i) in (
          deposit_wide g fine numbered funded within bound d i,
          all_by_in (λ (x : Deposit). IsOwner x.owner) g.deposits fine.owners d i,
          omega (arith, v),
        ))

    position_fine : (a : Advert) (q : List PathStep) (c : Contract) → IsWellFormed a → contract_under a.root q ≡ Some c
        → AllByRecursion IsStep q
    position_fine a q c well e = by_end (subterm_from (position a.root) q) refl e
      where
        by_end : (o : Option Subterm) → subterm_from (position a.root) q ≡ o → option_and_then as_contract o ≡ Some c
            → AllByRecursion IsStep q
        by_end None f h = cc
        by_end (Some x) f h = path_fine a q x well f

    active_said : AreSaid (map (λ a. line.contract a) g.active)
    active_said = said_map (λ a. line.contract a) g.active
        (λ a i.
        let v = little a.balance max_money (all_in (λ (x : ActiveContract). nat_le x.balance max_money) g.active a within.active i) in
        let b = funded.balanced a (contains_from_in g.active a i) in (
          active_wide g fine numbered funded within bound a i,
          few_contracts g fine numbered funded within bound a.contract b.advert b.there,
          position_fine b.advert a.position b.choice (by_get IsWellFormed g.contracts a.contract b.advert fine.contracts b.there) b.chosen,
          omega (arith, v),
        ))

    offer_said : (st : Step) → fails g st ≡ 0 → AreSaid (map (λ e. line.offer e) (map (λ (o : Offer). o.event) (offers_of st)))
    offer_said (steps.Init k) e = (step_shown g fine numbered funded within bound (steps.Init k) e tt, tt)
    offer_said (steps.PutReveal n i) e = (step_shown g fine numbered funded within bound (steps.PutReveal n i) e tt, tt)
    offer_said (steps.Withdraw n i) e = (step_shown g fine numbered funded within bound (steps.Withdraw n i) e tt, tt)
    offer_said (steps.Split n i) e = (step_shown g fine numbered funded within bound (steps.Split n i) e tt, tt)
    offer_said (steps.Delay n) e = tt
    offer_said (steps.AuthMove a action) e = tt
    offer_said (steps.Move action) e = tt
    offer_said (steps.Advertise k bs) e = tt
    offer_said (steps.Commit k a ls) e = tt
    offer_said (steps.AuthInit k a x) e = tt
    offer_said (steps.Reveal k a x) e = tt
    offer_said (steps.AuthBranch a n i) e = tt

    offer_more : (xs ys : List Offer) → AreSaid (map (λ e. line.offer e) (map (λ (o : Offer). o.event) xs))
        → AreSaid (map (λ e. line.offer e) (map (λ (o : Offer). o.event) ys))
        → AreSaid (map (λ e. line.offer e) (map (λ (o : Offer). o.event) (xs ++ ys)))
    offer_more [] ys h k = k
    offer_more (x ∷ xs) ys h k = (h.0, offer_more xs ys h.1 k)

    steps_offered : (ss : List Step) → ((st : Step) → Is_in st ss → fails g st ≡ 0)
        → AreSaid (map (λ e. line.offer e) (map (λ (o : Offer). o.event) (flat_map offers_of ss)))
    steps_offered [] f = tt
    steps_offered (st ∷ ss) f =
        offer_more (offers_of st) (flat_map offers_of ss) (offer_said st (f st (inl refl))) (steps_offered ss (λ x i. f x (inr i)))

    same_number : (a b : ℕ) → (a == b) ≡ true → a ≡ b
    same_number a b h = grind (arith, nat_tests)

    offers_said : AreSaid (map (λ e. line.offer e) (map (λ (o : Offer). o.event) (offers g)))
    offers_said =
        steps_offered (calculus.offers g)
        (λ st i. same_number (fails g st) 0
        (in_filter (λ x. calculus.is_enabled g x) (calculus.beginnings 0 g.contracts ++ calculus.all_takings g.contracts g.active) st i).1)

    -- the end of a run that comes to this configuration
    pub end_said : (w : World) → g.time ≡ w.tip → length w.outputs ≤ 2 ^ 40 → live_value w ≤ max_money
        → AreSaid (end_lines w.tip (live_outputs w) g (map (λ (o : Offer). o.event) (offers g)))
    end_said w tip few money =
        let t = fine.time in
        let height : IsWide w.tip = omega (arith, tip, t) in (
          tt,
          (
            height,
            by_append (IsSaid parties) (map (λ o. line.live o) (live_outputs w)) _ (live_said 0 w.outputs (omega (arith, few)) money) (
              omega (arith, t),
              by_append (IsSaid parties) (map (λ d. line.deposit d) g.deposits) _ deposits_said
                  (by_append (IsSaid parties) (map (λ a. line.contract a) g.active) _ active_said
                  (by_append (IsSaid parties) (map (λ x. line.secret x) (secrets_from g 0 g.contracts)) _
                  (secrets_said g 0 g.contracts (omega (arith, fine.few)) fine.contracts
                  (λ j a y n e. pledged_at g fine numbered funded within bound j a y n e))
                  offers_said)),
            ),
          ),
        )

-- ---- all steps of a run

module _ (s : Setup) (setup : IsSetup s) (named : AllByRecursion (λ (d : List ℕ × ℕ). IsNamed (d.0)) s.header.deposits) where
  opening_little : total_money (opening_configuration s) ≤ max_money
  opening_little =
      let f : List ℕ × ℕ → Owner × ℕ = λ d. (Party (d.0), d.1) in
      let v = made_value 0 (owned s.header.deposits) in
      let m : sum_by (λ (o : Owner × ℕ). o.1) (map f s.header.deposits) ≡ sum_by (λ (d : List ℕ × ℕ). d.1) s.header.deposits =
      sum_map (λ (o : Owner × ℕ). o.1) f s.header.deposits in
      let l = setup.header.money in
      omega (arith, v, m, l)

  first_owners : (n : ℕ) (ds : List (List ℕ × ℕ)) → AllByRecursion (λ (d : List ℕ × ℕ). IsNamed (d.0)) ds
      → AllByRecursion (λ (d : Deposit). IsOwner d.owner) (made n (owned ds))
  first_owners n [] h = tt
  first_owners n (d ∷ ds) h = (h.0, first_owners (n + 1) ds h.1)

  pub fine_opening : IsFine (opening_configuration s)
  fine_opening = record {
    contracts = setup.contracts;
    few = setup.few_contracts;
    owners = first_owners 0 s.header.deposits named;
    pledges = tt;
    time = omega arith;
  }

  -- what the steps lead to, and what they show
  pub along : (done : List Step) (g : Configuration) → Legal (opening_configuration s) done → g ≡ after_steps (opening_configuration s) done
      → IsFine g → (ss : List Step) → Legal g ss → AllByRecursion MovesToNamed ss → (after_steps g ss).next ≤ 2 ^ 64
      → AllByRecursion (λ st. IsShownStep (shown_step st)) ss × IsFine (after_steps g ss)
  along done g legal there fine [] l m bound = (tt, fine)
  along done g legal there fine (st ∷ ss) l m bound =
      let o = opening_configuration s in
      let r : IsLegalRun o done g = (runs_are_one o done g).1 (legal, there) in
      let numbered = numbers_apart s.header.parties s.header.honest s.header.deposits s.contracts done g r in
      let funded = money_is_kept s.header.parties s.header.honest s.header.deposits s.contracts done g setup.contracts r in
      let within = money_stays_within s.header.parties s.header.honest s.header.deposits s.contracts done g setup.contracts opening_little
      r in
      let here : g.next ≤ 2 ^ 64 = (let n = next_grows (st ∷ ss) g in omega (arith, n, bound)) in
      let shown = step_shown g fine numbered funded within here st l.0 m.0 in
      let next = fine_after g fine numbered funded within here st l.0 m.0 in
      let one : Legal g (st ∷ []) = (l.0, tt) in
      let longer = legal_append o done (st ∷ []) legal (subst (λ (c : Configuration). Legal c (st ∷ [])) there one) in
      let same : effect g st ≡ after_steps o (done ++ st ∷ []) =
      ap (λ (c : Configuration). effect c st) there ∙ sym (after-append o done (st ∷ [])) in
      let later = along (done ++ st ∷ []) (effect g st) longer same next ss l.1 m.1 bound in
      ((shown, later.0), later.1)
