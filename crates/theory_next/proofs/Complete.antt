-- Everything that may be taken by the calculus is among the candidates, and can come unless it halts.
use Rattle.std.proofs.Common.{◌≡◌, ℕ, zero, suc, ◌+◌, List, [], ◌∷◌, ◌++◌, map, true, Option, Some, None, refl, sym, ap}
use Rattle.std.proofs.Common.{subst, arith, inl, inr}
use Rattle.std.specs.Prelude.{is_some, ◌==◌}
use Rattle.std.specs.List.{flat_map}
use Rattle.std.proofs.lemmas.Bool.{eq-eqb}
use Rattle.std.proofs.lemmas.List.Concat.{flat_map-cons}
use Rattle.spec_terms.specs.Advert.{Advert}
use Rattle.spec_terms.specs.Term as term
use Rattle.spec_terms.specs.Term.{auth, after, put_reveal, withdraw, split}
use Rattle.spec_terms.specs.Core.{core}
use Rattle.spec_terms.specs.Precondition.{persistent, secrets}
use Rattle.spec_calculus.specs.declared.step.Step.{Step}
use Rattle.spec_calculus.specs.declared.step.Step.TheVariants as steps
use Rattle.spec_calculus.specs.declared.parts.ActiveContract.{ActiveContract}
use Rattle.spec_calculus.specs.Configuration.{Configuration}
use Rattle.spec_calculus.specs.Beginning.{contract_at}
use Rattle.spec_calculus.specs.Offers as calculus
use Rattle.spec_calculus.specs.Offers.{is_enabled, beginnings, takings, branches_of, branches_in, all_takings}
use Rattle.spec_run.specs.declared.event.Event.{Event}
use Rattle.spec_run.specs.declared.event.Event.TheVariants as events
use Rattle.spec_run.specs.Setup.{Setup}
use Rattle.spec_run.specs.World.{World}
use Rattle.spec_run.specs.Offers.{Offer, offers_of, offers}
use Rattle.spec_next.specs.Candidates.{people, committing, endorsing, starting, revealing, authorising, taking, taking_active, actives_of}
use Rattle.spec_next.specs.Candidates.{candidates, candidates_from, all_candidates}
use Rattle.theory_calculus.specs.Members.{Is_in}
use Rattle.theory_calculus.proofs.Members.{in_left, in_right, in_append, in_from_contains, contains_from_in, in_filter, filter_has}
use Rattle.theory_next.specs.Candidates.{OffersAreCandidates}

-- ---- lists

pub in_flat_map : {A B : Type 0} (f : A → List B) (xs : List A) (a : A) (y : B) → Is_in a xs → Is_in y (f a) → Is_in y (flat_map f xs)
in_flat_map f [] a y h i = absurd h
in_flat_map f (x ∷ xs) a y (inl e) i =
    subst (Is_in y) (sym (flat_map-cons f x xs)) (in_left y (f x) (flat_map f xs) (subst (λ z. Is_in y (f z)) e i))
in_flat_map f (x ∷ xs) a y (inr h) i =
    subst (Is_in y) (sym (flat_map-cons f x xs)) (in_right y (f x) (flat_map f xs) (in_flat_map f xs a y h i))

-- what stands in what a list makes comes of one of its elements
pub record Comes {A B : Type 0} (f : A → List B) (xs : List A) (y : B) : Type 0 where
  pub from : A
  pub there : Is_in from xs
  pub made : Is_in y (f from)

pub from_flat_map : {A B : Type 0} (f : A → List B) (xs : List A) (y : B) → Is_in y (flat_map f xs) → Comes f xs y
from_flat_map f [] y h = absurd h
from_flat_map f (x ∷ xs) y h = elim (in_append y (f x) (flat_map f xs) (subst (Is_in y) (flat_map-cons f x xs) h)) [
  | inl a ↦ record { from = x; there = inl refl; made = a }
  | inr b ↦ let r = from_flat_map f xs y b in record { from = r.from; there = inr r.there; made = r.made }
]

zero_more : (k : ℕ) → 0 + k ≡ k
zero_more k = omega arith

module _ (s : Setup) (g : Configuration) (w : World) where
  -- ---- beginnings

  -- the parts of a contract's candidates
  abbrev committed : ℕ → Advert → List Event
  committed k c = map (committing k) (people s c)

  abbrev later : ℕ → Advert → List Event
  later k c = revealing s k (secrets c.pre) ++ flat_map (taking_active g (people s c)) (actives_of g k)

  -- what stands from the beginning on is a candidate
  from_beginning : (k : ℕ) (c : Advert) (e : Event) → Is_in e (events.FireInit k ∷ later k c) → Is_in e (candidates s g w k c)
  from_beginning k c e h =
      let p = people s c in
      inr (in_right e (committed k c) _ (in_right e (endorsing s w k p) _ (in_right e (starting g k (persistent c.pre) p) _ h)))

  begins_there : (k : ℕ) (cs : List Advert) (x : Step) (o : Offer) → Is_in x (beginnings k cs) → Is_in o (offers_of x)
      → Is_in o.event (candidates_from s g w k cs)
  begins_there k [] x o h i = absurd h
  begins_there k (c ∷ cs) x o (inl e) i =
      let there : Is_in o (offers_of (steps.Init k)) = subst (λ z. Is_in o (offers_of z)) e i in
      in_left o.event (candidates s g w k c) (candidates_from s g w (k + 1) cs) (by_offer there)
    where
      by_offer : Is_in o (offers_of (steps.Init k)) → Is_in o.event (candidates s g w k c)
      by_offer (inl q) = from_beginning k c o.event (inl (ap (λ (z : Offer). z.event) q))
      by_offer (inr q) = absurd q
  begins_there k (c ∷ cs) x o (inr h) i =
      in_right o.event (candidates s g w k c) (candidates_from s g w (k + 1) cs) (begins_there (k + 1) cs x o h i)

  -- ---- branches

  taken_by : (n i : ℕ) (c : term.Guarded) (x : Step) (o : Offer) → Is_in x (calculus.taking n i c) → Is_in o (offers_of x)
      → o.event ≡ events.Fire n i
  taken_by n i (put_reveal puts reveals test next) x o (inl e) h = by_offer (subst (λ z. Is_in o (offers_of z)) e h)
    where
      by_offer : Is_in o (offers_of (steps.PutReveal n i)) → o.event ≡ events.Fire n i
      by_offer (inl q) = ap (λ (z : Offer). z.event) q
      by_offer (inr q) = absurd q
  taken_by n i (put_reveal puts reveals test next) x o (inr e) h = absurd e
  taken_by n i (withdraw party) x o (inl e) h = by_offer (subst (λ z. Is_in o (offers_of z)) e h)
    where
      by_offer : Is_in o (offers_of (steps.Withdraw n i)) → o.event ≡ events.Fire n i
      by_offer (inl q) = ap (λ (z : Offer). z.event) q
      by_offer (inr q) = absurd q
  taken_by n i (withdraw party) x o (inr e) h = absurd e
  taken_by n i (split parts) x o (inl e) h = by_offer (subst (λ z. Is_in o (offers_of z)) e h)
    where
      by_offer : Is_in o (offers_of (steps.Split n i)) → o.event ≡ events.Fire n i
      by_offer (inl q) = ap (λ (z : Offer). z.event) q
      by_offer (inr q) = absurd q
  taken_by n i (split parts) x o (inr e) h = absurd e
  taken_by n i (auth party body) x o e h = absurd e
  taken_by n i (after height body) x o e h = absurd e

  takings_there : (ps : List (List ℕ)) (n i : ℕ) (bs : List term.Guarded) (x : Step) (o : Offer) → Is_in x (takings n i bs)
      → Is_in o (offers_of x) → Is_in o.event (taking g ps n i bs)
  takings_there ps n i [] x o h q = absurd h
  takings_there ps n i (b ∷ bs) x o h q = elim (in_append x (calculus.taking n i (core b)) (takings n (i + 1) bs) h) [
    | inl a ↦ in_right o.event (authorising g ps n i b) (events.Fire n i ∷ taking g ps n (i + 1) bs) (inl (taken_by n i (core b) x o a q))
    | inr a ↦ in_right o.event (authorising g ps n i b) (events.Fire n i ∷ taking g ps n (i + 1) bs) (inr (takings_there ps n (i + 1) bs x o a q))
  ]

  -- what an active contract of contract j + k goes on by is a candidate, among those of the contracts from k on
  goes_on_there : (k j : ℕ) (cs : List Advert) (e : Event) → is_some (contract_at cs j) ≡ true
      → ((ps : List (List ℕ)) → Is_in e (flat_map (taking_active g ps) (actives_of g (j + k)))) → Is_in e (candidates_from s g w k cs)
  goes_on_there k j [] e h i = cc
  goes_on_there k zero (c ∷ cs) e h i =
      in_left e (candidates s g w k c) (candidates_from s g w (k + 1) cs)
      (from_beginning k c e (inr (in_right e (revealing s k (secrets c.pre)) _
      (subst (λ m. Is_in e (flat_map (taking_active g (people s c)) (actives_of g m))) (zero_more k) (i (people s c))))))
  goes_on_there k (suc j) (c ∷ cs) e h i =
      let same : suc j + k ≡ j + (k + 1) = omega arith in
      in_right e (candidates s g w k c) (candidates_from s g w (k + 1) cs)
      (goes_on_there (k + 1) j cs e h (λ ps. subst (λ m. Is_in e (flat_map (taking_active g ps) (actives_of g m))) same (i ps)))

  -- an active contract with branches is of a contract that is there
  is_there : (a : ActiveContract) (x : Step) → Is_in x (takings a.number 0 (branches_of g.contracts a))
      → is_some (contract_at g.contracts a.contract) ≡ true
  is_there a x h = by_advert (contract_at g.contracts a.contract) h
    where
      by_advert : (o : Option Advert) → Is_in x (takings a.number 0 (branches_in o a.position)) → is_some o ≡ true
      by_advert None h = absurd h
      by_advert (Some advert) h = refl

  all_takings_there : (actives : List ActiveContract) (x : Step) (o : Offer)
      → ((a : ActiveContract) → Is_in a actives → Is_in a g.active) → Is_in x (all_takings g.contracts actives) → Is_in o (offers_of x)
      → Is_in o.event (candidates_from s g w 0 g.contracts)
  all_takings_there [] x o all h q = absurd h
  all_takings_there (a ∷ rest) x o all h q =
      elim (in_append x (takings a.number 0 (branches_of g.contracts a)) (all_takings g.contracts rest) h) [
        | inl t ↦
            let same : a.contract + 0 ≡ a.contract = omega arith in
            let mine = filter_has (λ (z : ActiveContract). z.contract == a.contract + 0) g.active a (all a (inl refl))
            (eq-eqb a.contract (a.contract + 0) (sym same)) in
            goes_on_there 0 a.contract g.contracts o.event (is_there a x t)
            (λ ps. in_flat_map (taking_active g ps) (actives_of g (a.contract + 0)) a o.event mine
            (takings_there ps a.number 0 (branches_of g.contracts a) x o t q))
        | inr t ↦ all_takings_there rest x o (λ z i. all z (inr i)) t q
      ]

pub offers_are_candidates : OffersAreCandidates
offers_are_candidates s g w o h =
    let c = from_flat_map offers_of (calculus.offers g) o (in_from_contains (offers g) o h) in
    let f = in_filter (λ x. is_enabled g x) (beginnings 0 g.contracts ++ all_takings g.contracts g.active) c.from c.there in
    contains_from_in (all_candidates s g w) o.event
    (elim (in_append c.from (beginnings 0 g.contracts) (all_takings g.contracts g.active) f.0) [
      | inl b ↦ begins_there s g w 0 g.contracts c.from o b c.made
      | inr t ↦ all_takings_there s g w g.active c.from o (λ a i. i) t c.made
    ])
