-- What can come is what goes through; and all that is offered after a run is said to come, unless it halts.
use Rattle.std.specs.Prelude.{not}
use Rattle.std.proofs.Common.{◌≡◌, ℕ, ◌+◌, List, [], ◌∷◌, ◌++◌, true, false, refl, ap, ◌∙◌, inl, inr, ◌⊎◌}
use Rattle.std.specs.List.{Contains}
use Rattle.spec_terms.specs.Advert.{Advert}
use Rattle.spec_calculus.specs.declared.step.Step.{Step}
use Rattle.spec_calculus.specs.declared.step.Step.TheVariants as steps
use Rattle.spec_calculus.specs.Offers as calculus
use Rattle.spec_calculus.specs.Configuration.{Configuration}
use Rattle.spec_run.specs.declared.event.Event.{Event}
use Rattle.spec_run.specs.declared.outcome.Outcome.{Outcome}
use Rattle.spec_run.specs.declared.outcome.Outcome.TheVariants as outcomes
use Rattle.spec_run.specs.Setup.{Setup}
use Rattle.spec_run.specs.World.{World}
use Rattle.spec_run.specs.Pending.{Pending, Answer, Went, Halted}
use Rattle.spec_run.specs.Event.{event}
use Rattle.spec_run.specs.Values.{is_refused}
use Rattle.spec_run.specs.Steps.{outcome_steps}
use Rattle.spec_run.specs.Translation.{last_configuration, last_world}
use Rattle.spec_run.specs.Offers.{Offer, offers_of, offers}
use Rattle.spec_run.specs.Statements.{IsKept, IsLast, LeadsTo}
use Rattle.spec_next.specs.declared.outlook.Ruling.{Ruling}
use Rattle.spec_next.specs.declared.outlook.Ruling.TheVariants as rulings
use Rattle.spec_next.specs.declared.outlook.Outlook.{Outlook}
use Rattle.spec_next.specs.Candidates.{candidates, candidates_from, all_candidates}
use Rattle.spec_next.specs.Prospects.{ruling_by, ruling_of, ruling, is_shown, is_refused as is_turned_down, goes_on, is_over, prospect, outlook, outlooks_from, outlooks}
use Rattle.theory_calculus.specs.Members.{Is_in}
use Rattle.theory_calculus.proofs.Members.{in_append, in_from_contains, contains_from_in, filter_has}
use Rattle.theory_offers.proofs.WholeRun.{kept_offers}
use Rattle.theory_next.specs.Candidates.{GoesThrough, CanIsMeant, all_prospects, IsSaid, OffersAreSaid}
use Rattle.theory_next.proofs.Complete.{in_flat_map, from_flat_map, offers_are_candidates}
use Rattle.theory_next.proofs.Never.{living_has, useful_has}
use Rattle.theory_next.proofs.Exact.{in_map}

-- ---- what goes through

by_outcome : (o : Outcome) → ruling_by o ≡ rulings.Can → is_refused o ≡ false
by_outcome outcomes.Done h = refl
by_outcome (outcomes.Accepted spent made lock) h = refl
by_outcome (outcomes.Refused reason) h = cc

goes_by : (o : Outcome) → is_refused o ≡ false → ruling_by o ≡ rulings.Can
goes_by outcomes.Done h = refl
goes_by (outcomes.Accepted spent made lock) h = refl
goes_by (outcomes.Refused reason) h = cc

goes : (s : Setup) (w : World) (e : Event) (a : Answer) → event s w e ≡ a → ruling_of a ≡ rulings.Can → GoesThrough s w e
goes s w e (Halted halt) q h = cc
goes s w e (Went d next) q h = record { pending = d; next = next; went = q; passed = by_outcome d.outcome h }

pub can_is_meant : CanIsMeant
can_is_meant s w e = (
  λ h. goes s w e (event s w e) refl h,
  λ (h : GoesThrough s w e). ap ruling_of h.went ∙ goes_by h.pending.outcome h.passed,
)

-- ---- what leads to a step goes through or halts

-- it can come, or would halt the run
abbrev pub Comes : Ruling → Type 0
Comes r = (r ≡ rulings.Can) ⊎ (r ≡ rulings.Halts)

no_last : (earlier : List Step) (step : Step) → [] ≡ earlier ++ step ∷ [] → ⊥
no_last [] step h = cc
no_last (x ∷ xs) step h = cc

module _ (s : Setup) (g : Configuration) (w : World) (e : Event) (step : Step) where
  by_steps : (d : Pending) (next : World) (o : Outcome) → IsLast step (outcome_steps s next.posted g w next e d.tx o) → Comes (ruling_by o)
  by_steps d next outcomes.Done h = inl refl
  by_steps d next (outcomes.Accepted spent made lock) h = inl refl
  by_steps d next (outcomes.Refused reason) h = absurd (no_last h.0 step h.1)

  by_lead : (a : Answer) → LeadsTo s g w e step a → Comes (ruling_of a)
  by_lead (Halted halt) h = inr refl
  by_lead (Went d next) h = by_steps d next d.outcome h

pub kept_comes : (s : Setup) (g : Configuration) (w : World) (offer : Offer) → IsKept s g w offer → Comes (ruling s w offer.event)
kept_comes s g w offer k = by_lead s g w offer.event offer.step (event s w offer.event) k.leads

-- ---- what comes is said

shown_by : (s : Setup) (w : World) (e : Event) (r : Ruling) → Comes r → is_shown s w e r ≡ true
shown_by s w e r (inl q) = ap (is_shown s w e) q
shown_by s w e r (inr q) = ap (is_shown s w e) q

-- a beginning or a branch that comes is what a contract goes on by
goes_on_by : (x : Step) (offer : Offer) (r : Ruling) → Is_in offer (offers_of x) → Comes r → goes_on offer.event r ≡ true
goes_on_by (steps.Init contract) offer r (inl q) (inl c) = ap (λ (o : Offer). goes_on o.event r) q ∙ ap (λ z. not (is_turned_down z)) c
goes_on_by (steps.Init contract) offer r (inl q) (inr c) = ap (λ (o : Offer). goes_on o.event r) q ∙ ap (λ z. not (is_turned_down z)) c
goes_on_by (steps.Init contract) offer r (inr q) c = absurd q
goes_on_by (steps.PutReveal output branch) offer r (inl q) c = ap (λ (o : Offer). goes_on o.event r) q
goes_on_by (steps.PutReveal output branch) offer r (inr q) c = absurd q
goes_on_by (steps.Withdraw output branch) offer r (inl q) c = ap (λ (o : Offer). goes_on o.event r) q
goes_on_by (steps.Withdraw output branch) offer r (inr q) c = absurd q
goes_on_by (steps.Split output branch) offer r (inl q) c = ap (λ (o : Offer). goes_on o.event r) q
goes_on_by (steps.Split output branch) offer r (inr q) c = absurd q
goes_on_by (steps.Delay blocks) offer r q c = absurd q
goes_on_by (steps.AuthMove party action) offer r q c = absurd q
goes_on_by (steps.Move action) offer r q c = absurd q
goes_on_by (steps.Advertise contract bindings) offer r q c = absurd q
goes_on_by (steps.Commit contract party lengths) offer r q c = absurd q
goes_on_by (steps.AuthInit contract party deposit) offer r q c = absurd q
goes_on_by (steps.Reveal contract party secret) offer r q c = absurd q
goes_on_by (steps.AuthBranch party output branch) offer r q c = absurd q

module _ (s : Setup) (g : Configuration) (w : World) where
  said_from : (k : ℕ) (cs : List Advert) (e : Event) → Is_in e (candidates_from s g w k cs) → is_shown s w e (ruling s w e) ≡ true
      → goes_on e (ruling s w e) ≡ true → (o : Outlook) × Is_in o (outlooks_from s g w k cs) × Is_in (prospect s g w e) o.prospects
  said_from k [] e h t on = absurd h
  said_from k (c ∷ cs) e h t on = elim (in_append e (candidates s g w k c) (candidates_from s g w (k + 1) cs) h) [
    | inl a ↦ (
      outlook s g w k c,
      inl refl,
      living_has _ (prospect s g w e) (useful_has (is_over g w k) _ (prospect s g w e) (in_map (prospect s g w) _ e (filter_has (λ x. is_shown s w x (ruling s w x))
          (candidates s g w k c) e a t)) on) on,
    )
    | inr a ↦ let r = said_from (k + 1) cs e a t on in (r.0, inr r.1, r.2)
  ]

  pub is_said : (e : Event) → Contains (all_candidates s g w) e → Comes (ruling s w e) → goes_on e (ruling s w e) ≡ true → IsSaid s g w e
  is_said e h c on =
      let r = said_from 0 g.contracts e (in_from_contains (all_candidates s g w) e h) (shown_by s w e (ruling s w e) c) on in (
        contains_from_in (all_prospects s g w) (prospect s g w e)
            (in_flat_map (λ (o : Outlook). o.prospects) (outlooks s g w) r.0 (prospect s g w e) r.1 r.2),
        c,
      )

pub offers_are_said : OffersAreSaid
offers_are_said s es run offer h =
    let g = last_configuration s es in
    let w = last_world s es in
    let c = kept_comes s g w offer (kept_offers s es run offer h) in
    let f = from_flat_map offers_of (calculus.offers g) offer (in_from_contains (offers g) offer h) in
    is_said s g w offer.event (offers_are_candidates s g w offer h) c (goes_on_by f.from offer (ruling s w offer.event) f.made c)
