-- The steps of the offers with their events are the offers of the calculus.
use Rattle.std.proofs.Common.{◌≡◌, List, [], ◌∷◌, ◌++◌, map, true, refl, sym, ap, ◌∙◌, subst, inl, inr}
use Rattle.std.specs.Prelude.{◌↔◌}
use Rattle.std.specs.List.{Contains, flat_map, list_all}
use Rattle.std.proofs.lemmas.Bool.{and_parts}
use Rattle.std.proofs.lemmas.List.{map-append}
use Rattle.std.proofs.lemmas.List.Concat.{flat_map-cons}
use Rattle.spec_calculus.specs.declared.step.Step.{Step}
use Rattle.spec_calculus.specs.declared.step.Step.TheVariants as steps
use Rattle.spec_calculus.specs.Offers as calculus
use Rattle.spec_calculus.specs.Steps.{fails}
use Rattle.spec_run.specs.Offers.{Offer, offers_of, offers}
use Rattle.spec_calculus.specs.InOrder.{stands_in_order}
use Rattle.spec_calculus.specs.Offered.{is_contract_step, is_offered_before}
use Rattle.theory_calculus.specs.Members.{Is_in}
use Rattle.theory_calculus.proofs.Members.{in_from_contains, in_append}
use Rattle.theory_calculus.proofs.Offered.{offers_kind, every_enabled, in_order}
use Rattle.spec_run.specs.HaveEvents.{OffersHaveEvents}

one_step : (s : Step) → is_contract_step s ≡ true → map (λ (o : Offer). o.step) (offers_of s) ≡ s ∷ []
one_step (steps.Init contract) h = refl
one_step (steps.PutReveal output branch) h = refl
one_step (steps.Withdraw output branch) h = refl
one_step (steps.Split output branch) h = refl
one_step (steps.Delay blocks) h = cc
one_step (steps.AuthMove party action) h = cc
one_step (steps.Move action) h = cc
one_step (steps.Advertise contract bindings) h = cc
one_step (steps.Commit contract party lengths) h = cc
one_step (steps.AuthInit contract party deposit) h = cc
one_step (steps.Reveal contract party secret) h = cc
one_step (steps.AuthBranch party output branch) h = cc

each_step : (xs : List Step) → list_all is_contract_step xs ≡ true → map (λ (o : Offer). o.step) (flat_map offers_of xs) ≡ xs
each_step [] h = refl
each_step (x ∷ xs) h =
    let p = and_parts (is_contract_step x) (list_all is_contract_step xs) h in
    let a = one_step x p.0 in
    let ih = each_step xs p.1 in
    ap (map (λ (o : Offer). o.step)) (flat_map-cons offers_of x xs)
    ∙ map-append (λ (o : Offer). o.step) (offers_of x) (flat_map offers_of xs) ∙ (λ i. a i ++ ih i)

own_event : (s : Step) (o : Offer) → Is_in o (offers_of s) → offers_of o.step ≡ o ∷ []
own_event (steps.Init contract) o (inl e) = ap (λ (x : Offer). offers_of x.step) e ∙ ap (λ x. x ∷ []) (sym e)
own_event (steps.Init contract) o (inr i) = absurd i
own_event (steps.PutReveal output branch) o (inl e) = ap (λ (x : Offer). offers_of x.step) e ∙ ap (λ x. x ∷ []) (sym e)
own_event (steps.PutReveal output branch) o (inr i) = absurd i
own_event (steps.Withdraw output branch) o (inl e) = ap (λ (x : Offer). offers_of x.step) e ∙ ap (λ x. x ∷ []) (sym e)
own_event (steps.Withdraw output branch) o (inr i) = absurd i
own_event (steps.Split output branch) o (inl e) = ap (λ (x : Offer). offers_of x.step) e ∙ ap (λ x. x ∷ []) (sym e)
own_event (steps.Split output branch) o (inr i) = absurd i
own_event (steps.Delay blocks) o h = absurd h
own_event (steps.AuthMove party action) o h = absurd h
own_event (steps.Move action) o h = absurd h
own_event (steps.Advertise contract bindings) o h = absurd h
own_event (steps.Commit contract party lengths) o h = absurd h
own_event (steps.AuthInit contract party deposit) o h = absurd h
own_event (steps.Reveal contract party secret) o h = absurd h
own_event (steps.AuthBranch party output branch) o h = absurd h

each_event : (xs : List Step) (o : Offer) → Is_in o (flat_map offers_of xs) → offers_of o.step ≡ o ∷ []
each_event [] o h = absurd h
each_event (x ∷ xs) o h = elim (in_append o (offers_of x) (flat_map offers_of xs) (subst (Is_in o) (flat_map-cons offers_of x xs) h)) [
  | inl a ↦ own_event x o a
  | inr b ↦ each_event xs o b
]

pub have_events : OffersHaveEvents
have_events g =
    let e = each_step (calculus.offers g) (offers_kind g) in
    record {
      steps = e;
      events = λ o i. each_event (calculus.offers g) o (in_from_contains (offers g) o i);
      complete = λ s. subst (λ xs. Contains xs s ↔ ((is_contract_step s ≡ true) × (fails g s ≡ 0))) (sym e) (every_enabled g s);
      ordered = λ h. subst (λ xs. stands_in_order is_offered_before xs ≡ true) (sym e) (in_order g h);
    }
