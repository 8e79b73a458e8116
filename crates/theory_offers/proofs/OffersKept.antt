-- Every offer of a configuration is kept in a world that agrees with it and has what is kept.
use Rattle.std.proofs.Common.{◌≡◌, ℕ, ◌<◌, ◌≤◌, List, [], ◌∷◌, ◌++◌, length, Bool, true, false, Some, refl, sym, subst, inl, inr}
use Rattle.std.specs.Prelude.{slice_get, filter, if◌then◌else◌}
use Rattle.std.specs.List.{Contains, flat_map}
use Rattle.std.proofs.lemmas.Bool.{eqb-true}
use Rattle.std.proofs.lemmas.List.Concat.{flat_map-cons}
use Rattle.spec_terms.specs.Term as term
use Rattle.spec_terms.specs.Term.{branches, split, Parts, parts_list}
use Rattle.spec_terms.specs.Core.{core}
use Rattle.spec_terms.specs.Faults.{sum_of_parts}
use Rattle.spec_calculus.specs.declared.step.Step.{Step}
use Rattle.spec_calculus.specs.declared.step.Step.TheVariants as steps
use Rattle.spec_calculus.specs.Configuration.{Configuration}
use Rattle.spec_calculus.specs.Offers as calculus
use Rattle.spec_calculus.specs.Offers.{is_enabled, beginnings, all_takings}
use Rattle.spec_calculus.specs.Steps.{fails}
use Rattle.spec_run.specs.declared.event.Event.TheVariants as events
use Rattle.spec_run.specs.Setup.{Setup}
use Rattle.spec_run.specs.World.{World}
use Rattle.spec_run.specs.Conditions.{IsSetup}
use Rattle.spec_run.specs.Agreement.{Agree}
use Rattle.spec_run.specs.Offers.{Offer, offers_of, offers}
use Rattle.spec_run.specs.Statements.{IsKept}
use Rattle.theory_calculus.specs.Members.{Is_in}
use Rattle.theory_calculus.proofs.Members.{in_append, in_at}
use Rattle.theory_world.proofs.Contracts.Standing.{term_choice}
use Rattle.theory_run.specs.KeptSecrets.{KeptSecrets}
use Rattle.theory_run.proofs.Facts.KeptSecrets.{Begins}
use Rattle.theory_run.specs.KeptBook.{KeptBook}
use Rattle.theory_run.proofs.Accepted.Spending.{Checked}
use Rattle.theory_offers.proofs.Basis.Offered.{KeptOffers}
use Rattle.theory_offers.proofs.Leads.{init_kept}
use Rattle.theory_offers.proofs.Permitted.{Active, fine, withdraw_kept, split_kept}
use Rattle.theory_offers.proofs.PutReveals.{put_kept}
use Rattle.theory_offers.proofs.Balanced.{split_even, split_some}

-- an offer is of one of the steps
offered_by : (xs : List Step) (o : Offer) → Is_in o (flat_map offers_of xs) → (x : Step) × Is_in x xs × Is_in o (offers_of x)
offered_by [] o h = absurd h
offered_by (x ∷ xs) o h = elim (in_append o (offers_of x) (flat_map offers_of xs) (subst (Is_in o) (flat_map-cons offers_of x xs) h)) [
  | inl a ↦ (x, inl refl, a)
  | inr b ↦ (let r = offered_by xs o b in (r.0, inr r.1, r.2))
]

-- what is left by a filter passes its test
passed : (p : Step → Bool) (xs : List Step) (x : Step) → Is_in x (filter p xs) → p x ≡ true
passed p [] x h = absurd h
passed p (y ∷ xs) x h = by_test (p y) refl h (passed p xs x)
  where
    by_test : (b : Bool) → p y ≡ b → Is_in x (if b then y ∷ filter p xs else filter p xs) → (Is_in x (filter p xs) → p x ≡ true) → p x ≡ true
    by_test true e (inl q) ih = subst (λ z. p z ≡ true) (sym q) e
    by_test true e (inr q) ih = ih q
    by_test false e q ih = ih q

module _ (s : Setup) (setup : IsSetup s) (z : List (List ℕ)) (g : Configuration) (w : World) (agree : Agree s g w)
    (kept : KeptBook s g w) (check : Checked s w) (secrets : KeptSecrets s z g w) (begins : Begins z w.posted) (more : KeptOffers s g w) where
  only : (x y : Offer) → Is_in y (x ∷ []) → IsKept s g w x → IsKept s g w y
  only x y (inl e) h = subst (IsKept s g w) (sym e) h
  only x y (inr i) h = absurd i

  even : (n i : ℕ) (a : Active s setup g w agree kept check more n) (b : term.Guarded) (ps : Parts)
      → slice_get (branches (fine s setup g w agree kept check more n i a).choice) i ≡ Some b → core b ≡ split ps
      → (0 < length (parts_list ps)) × (sum_of_parts ps ≤ (fine s setup g w agree kept check more n i a).here.output.value)
  even n i a b ps t c =
      let f = fine s setup g w agree kept check more n i a in
      let well = check.checked a.held.contract f.instance f.compiled in (
        split_some f.instance.advert a.held.position f.choice i b ps well (term_choice s.hash f.instance a.held.position f.here f.choice f.stands) t c,
        split_even s.hash f.instance well a.held.position f.here f.choice i b ps f.stands t c,
      )

  step_kept : (x : Step) (o : Offer) → fails g x ≡ 0 → Is_in o (offers_of x) → IsKept s g w o
  step_kept (steps.Init k) o h i =
      only (record { step = steps.Init k; event = events.FireInit k }) o i (init_kept s setup z g w agree kept check secrets more k h)
  step_kept (steps.PutReveal n j) o h i =
      only (record { step = steps.PutReveal n j; event = events.Fire n j }) o i (put_kept s setup z g w agree kept check secrets begins more n j h)
  step_kept (steps.Withdraw n j) o h i =
      only (record { step = steps.Withdraw n j; event = events.Fire n j }) o i (withdraw_kept s setup g w agree kept check more n j h)
  step_kept (steps.Split n j) o h i =
      only (record { step = steps.Split n j; event = events.Fire n j }) o i (split_kept s setup g w agree kept check more n j h (even n j))
  step_kept (steps.Delay blocks) o h i = absurd i
  step_kept (steps.AuthMove party action) o h i = absurd i
  step_kept (steps.Move action) o h i = absurd i
  step_kept (steps.Advertise contract bindings) o h i = absurd i
  step_kept (steps.Commit contract party lengths) o h i = absurd i
  step_kept (steps.AuthInit contract party deposit) o h i = absurd i
  step_kept (steps.Reveal contract party secret) o h i = absurd i
  step_kept (steps.AuthBranch party output branch) o h i = absurd i

  -- each offer is kept
  pub offers_kept : (o : Offer) → Contains (offers g) o → IsKept s g w o
  offers_kept o h =
      let i = in_at (offers g) h.0 o h.1 h.2 in
      let r = offered_by (calculus.offers g) o i in
      let e = passed (λ x. is_enabled g x) (beginnings 0 g.contracts ++ all_takings g.contracts g.active) r.0 r.1 in
      step_kept r.0 o (eqb-true (fails g r.0) 0 e) r.2
