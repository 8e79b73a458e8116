-- After a run, what nothing is missing for can come, unless it halts.
use Rattle.std.proofs.Common.{◌≡◌, ℕ, ◌+◌, List, [], ◌∷◌, ◌++◌, map, Bool, true, Option, Some, None, refl, sym, ap, ◌∙◌, subst, inl}
use Rattle.std.specs.Prelude.{not, ◌||◌, nat_le, is_some, if◌then◌else◌}
use Rattle.std.specs.List.{Contains, list_all}
use Rattle.std.proofs.lemmas.Bool.{and_parts, and_from}
use Rattle.spec_data.specs.Lists.{first_false, AllTrue, look_up}
use Rattle.spec_terms.specs.Core.{core, asks, lock, puts_of, reveals_of, test_of}
use Rattle.spec_terms.specs.Precondition.{Holding, persistent, names_of}
use Rattle.spec_terms.specs.Term as term
use Rattle.spec_terms.specs.Term.{auth, after, put_reveal, withdraw, split}
use Rattle.spec_terms.specs.Value.{holds}
use Rattle.spec_terms.specs.declared.pre.Pre.{Pre}
use Rattle.spec_calculus.specs.declared.step.Step.{Step}
use Rattle.spec_calculus.specs.declared.step.Step.TheVariants as steps
use Rattle.spec_calculus.specs.declared.parts.ActiveContract.{ActiveContract}
use Rattle.spec_calculus.specs.Configuration.{Configuration}
use Rattle.spec_calculus.specs.Beginning.{contract_at, pre_of, participants_of, is_advertised, have_committed, bindings_of}
use Rattle.spec_calculus.specs.Beginning.{is_there, are_there, is_init_authorised, are_init_authorised}
use Rattle.spec_calculus.specs.Branches.{active_at, branch_of, advert_of, contract_number, are_revealed}
use Rattle.spec_calculus.specs.Branches.{have_branch_authorised, secret_lengths, is_put_core, is_withdraw_core, is_split_core}
use Rattle.spec_run.specs.Statements.{IsRun}
use Rattle.spec_calculus.specs.Steps.{premises, fails, branch_at, put_reveal_premises, withdraw_premises, split_premises}
use Rattle.spec_calculus.specs.Offered.{is_contract_step}
use Rattle.spec_run.specs.declared.event.Event.{Event}
use Rattle.spec_run.specs.declared.event.Event.TheVariants as events
use Rattle.spec_run.specs.Setup.{Setup}
use Rattle.spec_run.specs.Translation.{last_configuration, last_world}
use Rattle.spec_run.specs.Offers.{Offer, offers_of, offers}
use Rattle.spec_next.specs.declared.requirement.Requirement.TheVariants as requirements
use Rattle.spec_next.specs.Requirements.{Condition, agreed, isnt_gone, started, authorised}
use Rattle.spec_next.specs.Requirements.{put_in, revealed, undecided_or_true, asked_for, asked_by_branch, conditions}
use Rattle.theory_calculus.proofs.Members.{all_map, in_from_contains, contains_from_in}
use Rattle.theory_calculus.proofs.Offered.{every_enabled}
use Rattle.theory_calculus.specs.Members.{Is_in}
use Rattle.theory_offers.proofs.WholeRun.{kept_offers}
use Rattle.theory_next.specs.Ready.{CanUnlessHalts, ReadyComesTheorem}
use Rattle.theory_next.proofs.Complete.{in_flat_map}
use Rattle.theory_next.proofs.Said.{kept_comes}
use Rattle.theory_next.proofs.Exact.{all_met}

-- ---- conditions and premises

abbrev pub met : List Condition → Bool
met cs = list_all (λ (c : Condition). c.0) cs

pub met_parts : (xs ys : List Condition) → met (xs ++ ys) ≡ true → (met xs ≡ true) × (met ys ≡ true)
met_parts [] ys h = (refl, h)
met_parts (x ∷ xs) ys h =
    let p = and_parts (x.0) (met (xs ++ ys)) h in
    let q = met_parts xs ys p.1 in
    (and_from (x.0) (met xs) p.0 q.0, q.1)

-- where all premises are true, none fails
pub no_premise : (n : ℕ) (bs : List Bool) → AllTrue bs → first_false n bs ≡ 0
no_premise n [] h = refl
no_premise n (b ∷ bs) h = ap (λ c. if c then first_false (n + 1) bs else n) h.0 ∙ no_premise (n + 1) bs h.1

-- ---- offers

-- an enabled contract step is offered, with its event
pub offered : (g : Configuration) (step : Step) (o : Offer) → is_contract_step step ≡ true → fails g step ≡ 0 → offers_of step ≡ o ∷ []
    → Contains (offers g) o
offered g step o kind e one =
    contains_from_in (offers g) o
    (in_flat_map offers_of _ step o (in_from_contains _ step ((every_enabled g step).1 (kind, e))) (subst (λ os. Is_in o os)
    (sym one) (inl refl)))

-- ---- cores

no_auth : (b : term.Guarded) (party : List ℕ) (body : term.Guarded) → core b ≡ auth party body → ⊥
no_auth (auth p b) party body h = no_auth b party body h
no_auth (after t b) party body h = no_auth b party body h
no_auth (put_reveal puts reveals test next) party body h = cc
no_auth (withdraw p) party body h = cc
no_auth (split parts) party body h = cc

no_after : (b : term.Guarded) (height : ℕ) (body : term.Guarded) → core b ≡ after height body → ⊥
no_after (auth p b) height body h = no_after b height body h
no_after (after t b) height body h = no_after b height body h
no_after (put_reveal puts reveals test next) height body h = cc
no_after (withdraw p) height body h = cc
no_after (split parts) height body h = cc

-- ---- branches

-- the step by which a branch is taken: it is enabled, and its event takes the branch
pub record Enabled (g : Configuration) (e : Event) : Type 0 where
  pub step : Step
  pub kind : is_contract_step step ≡ true
  pub enabled : fails g step ≡ 0
  pub leads : offers_of step ≡ record { step = step; event = e } ∷ []

module _ (honest : List (List ℕ)) (g : Configuration) (n i : ℕ) where
  abbrev active : Option ActiveContract
  active = active_at g.active n

  is_active : (o : Option ActiveContract) (b : term.Guarded) → branch_of g.contracts o i ≡ Some b → is_some o ≡ true
  is_active None b h = cc
  is_active (Some a) b h = refl

  module _ (b : term.Guarded) (here : branch_at g n i ≡ Some b) where
    abbrev k : ℕ
    k = contract_number active

    abbrev pre : List Pre
    pre = pre_of (advert_of g.contracts active)

    module _ (all : met (asked_for honest g n i k pre b) ≡ true) where
      reached : nat_le (lock b) g.time ≡ true
      reached = (and_parts _ _ all).0

      agreed_to : have_branch_authorised g.branch_authorised n i (asks b) ≡ true
      agreed_to =
          sym (all_map (λ (c : Condition). c.0) _ (asks b)) ∙ (met_parts (authorised g n i (asks b)) _ (and_parts _ _ all).1).0

      rest : met (put_in g k (puts_of (core b)) ++ (revealed honest g k pre (reveals_of (core b)) ++ (
        undecided_or_true g k pre
            (core b),
        requirements.Predicate,
      ) ∷ [])) ≡ true
      rest = (met_parts (authorised g n i (asks b)) _ (and_parts _ _ all).1).1

      puts_there : are_there g.deposits (bindings_of g.advertised k) (puts_of (core b)) ≡ true
      puts_there = sym (all_map (λ (c : Condition). c.0) _ (puts_of (core b))) ∙ (met_parts (put_in g k (puts_of (core b))) _ rest).0

      last : met (revealed honest g k pre (reveals_of (core b)) ++ (undecided_or_true g k pre (core b), requirements.Predicate) ∷ []) ≡ true
      last = (met_parts (put_in g k (puts_of (core b))) _ rest).1

      all_revealed : are_revealed g.revealed k pre (reveals_of (core b)) ≡ true
      all_revealed =
          sym (all_map (λ (c : Condition). c.0) _ (reveals_of (core b))) ∙ (met_parts (revealed honest g k pre (reveals_of (core b))) _ last).0

      decided : undecided_or_true g k pre (core b) ≡ true
      decided = (and_parts _ _ (met_parts (revealed honest g k pre (reveals_of (core b))) _ last).1).0

      is_true : holds (secret_lengths g.committed k pre (reveals_of (core b))) (test_of (core b)) ≡ true
      is_true =
          sym (ap (λ r. not r || holds (secret_lengths g.committed k pre (reveals_of (core b))) (test_of (core b))) all_revealed) ∙ decided

      there : is_some active ≡ true
      there = is_active active b here

      by_core : (c : term.Guarded) → core b ≡ c → Enabled g (events.Fire n i)
      by_core (put_reveal puts reveals test next) e =
          let row : AllTrue (put_reveal_premises g n i active (Some b)) =
          (there, (ap is_put_core e, (reached, (agreed_to, (puts_there, (all_revealed, (is_true, tt))))))) in
          record {
            step = steps.PutReveal n i;
            kind = refl;
            enabled = no_premise 1 (premises g (steps.PutReveal n i))
                (subst (λ o. AllTrue (put_reveal_premises g n i active o)) (sym here) row);
            leads = refl;
          }
      by_core (withdraw party) e =
          let row : AllTrue (withdraw_premises g n i active (Some b)) = (there, (ap is_withdraw_core e, (reached, (agreed_to, tt)))) in
          record {
            step = steps.Withdraw n i;
            kind = refl;
            enabled = no_premise 1 (premises g (steps.Withdraw n i))
                (subst (λ o. AllTrue (withdraw_premises g n i active o)) (sym here) row);
            leads = refl;
          }
      by_core (split parts) e =
          let row : AllTrue (split_premises g n i active (Some b)) = (there, (ap is_split_core e, (reached, (agreed_to, tt)))) in
          record {
            step = steps.Split n i;
            kind = refl;
            enabled = no_premise 1 (premises g (steps.Split n i))
                (subst (λ o. AllTrue (split_premises g n i active o)) (sym here) row);
            leads = refl;
          }
      by_core (auth party body) e = absurd (no_auth b party body e)
      by_core (after height body) e = absurd (no_after b height body e)

  -- where all conditions of a branch are met, the step that takes it is enabled
  pub branch_enabled : (o : Option term.Guarded) → branch_at g n i ≡ o → is_some o ≡ true → met (asked_by_branch honest g n i active o) ≡ true
      → Enabled g (events.Fire n i)
  branch_enabled None here h all = cc
  branch_enabled (Some b) here h all = by_core b here all (core b) refl

-- ---- beginnings

module _ (g : Configuration) (k : ℕ) (told : is_advertised g.advertised k ≡ true) where
  all_there : (ds : List (List ℕ × Holding)) → list_all (λ (d : List ℕ × Holding). isnt_gone g k (d.0)) ds ≡ true
      → are_there g.deposits (bindings_of g.advertised k) (names_of ds) ≡ true
  all_there [] h = refl
  all_there (d ∷ ds) h =
      let p = and_parts (isnt_gone g k (d.0)) _ h in
      let is : is_there g.deposits (look_up (d.0) (bindings_of g.advertised k)) ≡ true =
      sym (ap (λ b. not b || is_there g.deposits (look_up (d.0) (bindings_of g.advertised k))) told) ∙ p.0 in
      and_from _ _ is (all_there ds p.1)

  all_started : (ds : List (List ℕ × Holding)) → list_all (λ (d : List ℕ × Holding). is_init_authorised g.init_authorised k (d.0)) ds ≡ true
      → are_init_authorised g.init_authorised k (names_of ds) ≡ true
  all_started [] h = refl
  all_started (d ∷ ds) h = let p = and_parts (is_init_authorised g.init_authorised k (d.0)) _ h in and_from _ _ p.0 (all_started ds p.1)

pub beginning_enabled : (g : Configuration) (k : ℕ) → is_some (contract_at g.contracts k) ≡ true
    → met (agreed g k ++ started g k (persistent (pre_of (contract_at g.contracts k)))) ≡ true → Enabled g (events.FireInit k)
beginning_enabled g k h all =
    let advert = contract_at g.contracts k in
    let ds = persistent (pre_of advert) in
    let p = met_parts (agreed g k) (started g k ds) all in
    let q = and_parts (is_advertised g.advertised k) _ p.0 in
    let r = met_parts (map (λ (d : List ℕ × Holding). (isnt_gone g k (d.0), requirements.Gone (d.0))) ds) _ p.1 in
    let committed : have_committed g.committed k (participants_of advert) ≡ true =
    sym (all_map (λ (c : Condition). c.0) _ (participants_of advert)) ∙ q.1 in
    record {
      step = steps.Init k;
      kind = refl;
      enabled = no_premise 1 (premises g (steps.Init k)) (
        and_from _ _ h committed,
        (
          all_there g k q.0 ds (sym (all_map (λ (c : Condition). c.0) _ ds) ∙ r.0),
          (all_started g k q.0 ds (sym (all_map (λ (c : Condition). c.0) _ ds) ∙ r.1), tt),
        ),
      );
      leads = refl;
    }

-- ---- runs

pub enabled_comes : (s : Setup) (es : List Event) → IsRun s es → (e : Event) → Enabled (last_configuration s es) e
    → CanUnlessHalts s (last_world s es) e
enabled_comes s es run e x =
    let g = last_configuration s es in
    let w = last_world s es in
    let offer : Offer = record { step = x.step; event = e } in
    kept_comes s g w offer (kept_offers s es run offer (offered g x.step offer x.kind x.enabled x.leads))

pub ready_comes : ReadyComesTheorem
ready_comes s es run =
    let g = last_configuration s es in
    let w = last_world s es in
    record {
      beginnings = λ k h nothing.
          enabled_comes s es run (events.FireInit k) (beginning_enabled g k h (all_met (conditions s g w (events.FireInit k)) nothing));
      branches = λ n i h nothing.
          enabled_comes s es run (events.Fire n i)
          (branch_enabled s.header.honest g n i (branch_at g n i) refl h (all_met (conditions s g w (events.Fire n i)) nothing));
    }
