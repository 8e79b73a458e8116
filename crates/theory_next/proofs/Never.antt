-- Where something never comes.
use Rattle.std.proofs.Common.{◌≡◌, ℕ, arith, List, [], ◌∷◌, ◌++◌, map, Bool, true, false, refl, sym, ap, ◌∙◌, subst, inl, inr, ◌⊎◌}
use Rattle.std.specs.Prelude.{codes, slice_index, flat_map, ◌==◌, not, ◌&&◌, ◌||◌, if◌then◌else◌}
use Rattle.std.specs.List.{filter, list_all, list_any}
use Rattle.std.proofs.lemmas.Bool.{and_parts, and_from, or_cases, or_left, or_right}
use Rattle.spec_data.specs.Lists.{has_number}
use Rattle.spec_terms.specs.Advert.{Advert}
use Rattle.spec_calculus.specs.declared.parts.ActiveContract.{ActiveContract}
use Rattle.spec_calculus.specs.Configuration.{Configuration}
use Rattle.spec_run.specs.declared.event.Event.{Event}
use Rattle.spec_run.specs.declared.outcome.Reason.{Reason}
use Rattle.spec_run.specs.declared.outcome.Reason.TheVariants as reason
use Rattle.spec_run.specs.Setup.{Setup}
use Rattle.spec_run.specs.World.{World}
use Rattle.spec_next.specs.declared.requirement.Requirement.{Requirement}
use Rattle.spec_next.specs.declared.outlook.Ruling.{Ruling}
use Rattle.spec_next.specs.declared.outlook.Ruling.TheVariants as rulings
use Rattle.spec_next.specs.declared.outlook.Prospect.{Prospect}
use Rattle.spec_terms.specs.Precondition.{persistent, secrets}
use Rattle.spec_run.specs.declared.event.Event.TheVariants as events
use Rattle.spec_next.specs.Candidates.{people, advertising, committing, endorsing, starting, revealing, taking_active, actives_of, candidates}
use Rattle.spec_next.specs.Prospects.{ruling, lasting, is_never, decisive, requirements_by, is_refused, is_lost, goes_on, living, prospect, outlook}
use Rattle.spec_next.specs.OutlookText.{ruling_line}
use Rattle.spec_next.specs.Prospects.{is_shown, is_over, useful, outstanding, prospects_of}
use Rattle.theory_calculus.specs.Members.{Is_in}
use Rattle.theory_calculus.proofs.Members.{in_append, in_filter, filter_has, in_from_contains, contains_from_in, all_in}
use Rattle.theory_next.proofs.Ahead.{ahead_exactly}
use Rattle.theory_next.proofs.Exact.{from_map}
use Rattle.theory_next.specs.Never.{all_lacking, SaysWhatLacks, all_ahead, NeverBegins, ShowsWhatComes, NeverIsSaid}

-- ---- lists

pub any_in : {A : Type 0} (f : A → Bool) (xs : List A) (x : A) → Is_in x xs → f x ≡ true → list_any f xs ≡ true
any_in f [] x i h = absurd i
any_in f (y ∷ ys) x (inl e) h = or_left _ _ (subst (λ z. f z ≡ true) e h)
any_in f (y ∷ ys) x (inr i) h = or_right (f y) _ (any_in f ys x i h)

pub record Found {A : Type 0} (f : A → Bool) (xs : List A) : Type 0 where
  pub one : A
  pub there : Is_in one xs
  pub passes : f one ≡ true

pub any_from : {A : Type 0} (f : A → Bool) (xs : List A) → list_any f xs ≡ true → Found f xs
any_from f [] h = cc
any_from f (x ∷ xs) h = elim (or_cases (f x) (list_any f xs) h) [
  | inl e ↦ record { one = x; there = inl refl; passes = e }
  | inr e ↦ let r = any_from f xs e in record { one = r.one; there = inr r.there; passes = r.passes }
]

by_any : {A : Type 0} (f : A → Bool) (xs : List A) → ((x : A) → Is_in x xs → f x ≡ false) → list_any f xs ≡ false
by_any f [] h = refl
by_any f (x ∷ xs) h =
    let e = h x (inl refl) in ap (λ b. b || list_any f xs) e ∙ by_any f xs (λ y i. h y (inr i))

pub is_false : (b : Bool) → not b ≡ true → b ≡ false
is_false true h = cc
is_false false h = refl

-- ---- what an event lacks

pub in_decisive : (ws : List Requirement) (x : Requirement) → Is_in x (decisive ws) → Is_in x ws
in_decisive ws x h = by_test (list_any is_never ws) h
  where
    by_test : (b : Bool) → Is_in x (if b then filter is_never ws else ws) → Is_in x ws
    by_test true i = (in_filter is_never ws x i).0
    by_test false i = i

pub lasting_never : (r : Reason) → list_all is_never (lasting r) ≡ true
lasting_never reason.NoHonest = refl
lasting_never (reason.NoSecret x) = refl
lasting_never (reason.BadSecretLength x) = refl
lasting_never (reason.HashRepeated x) = refl
lasting_never _ = refl

-- what may come is lacking by a condition
pub lacks_condition : (r : Reason) (ws : List Requirement) (x : Requirement) → is_never x ≡ false → Is_in x (decisive (lasting r ++ ws)) → Is_in x ws
lacks_condition r ws x f h = elim (in_append x (lasting r) ws (in_decisive (lasting r ++ ws) x h)) [
  | inl a ↦ absurd (apart (is_never x) (all_in is_never (lasting r) x (lasting_never r) a) f)
  | inr b ↦ b
]
  where
    apart : (b : Bool) → b ≡ true → b ≡ false → ⊥
    apart true e h = cc
    apart false e h = cc

says_what_lacks : (s : Setup) (g : Configuration) (w : World) (e : Event) → SaysWhatLacks s g w e
says_what_lacks s g w e = record {
  nothing = λ h. none (ruling s w e) h;
  all = λ r q h.
      ap (requirements_by (outstanding s g w e)) q
      ∙ ap (λ b. if b then filter is_never (all_lacking s g w e r) else all_lacking s g w e r)
      (by_any is_never (all_lacking s g w e r) (λ x i. h x (contains_from_in (all_lacking s g w e r) x i)));
  never = λ r q y i n x.
      let ws = all_lacking s g w e r in
      let same : (prospect s g w e).requirements ≡ filter is_never ws =
      ap (requirements_by (outstanding s g w e)) q
      ∙ ap (λ b. if b then filter is_never ws else ws) (any_in is_never ws y (in_from_contains ws y i) n) in (
        λ h. let f = in_filter is_never ws x (subst (λ (xs : List Requirement). Is_in x xs) same (in_from_contains (prospect s g w e).requirements x h)) in
            (contains_from_in ws x f.0, f.1),
        λ h. contains_from_in (prospect s g w e).requirements x
            (subst (λ (xs : List Requirement). Is_in x xs) (sym same) (filter_has is_never ws x (in_from_contains ws x h.0) h.1)),
      );
  can = λ q. ap (ruling_line e) q;
  printed = λ rest q. by_line (ruling s w e) rest q;
}
  where
    by_line : (r : Ruling) (rest : List ℕ) → ruling_line e r ≡ codes "can " ++ rest → r ≡ rulings.Can
    by_line rulings.Can rest q = refl
    by_line (rulings.Cannot reason) rest q = let z : 110 ≡ 32 = ap (λ (xs : List ℕ). slice_index xs 3) q in absurd (omega (arith, z))
    by_line rulings.Halts rest q = let z : 110 ≡ 32 = ap (λ (xs : List ℕ). slice_index xs 3) q in absurd (omega (arith, z))

    none : (r : Ruling) → is_refused r ≡ false → requirements_by (outstanding s g w e) r ≡ []
    none rulings.Can h = refl
    none (rulings.Cannot reason) h = cc
    none rulings.Halts h = refl

-- ---- what a contract shows

abbrev ends : Prospect → Bool
ends p = is_lost p && not (goes_on p.event p.ruling)

abbrev kept : Prospect → Bool
kept p = is_lost p || goes_on p.event p.ruling

pub in_living : (ps : List Prospect) (p : Prospect) → Is_in p (living ps) → Is_in p ps
in_living ps p h = by_test (list_any ends ps) h
  where
    by_test : (b : Bool) → Is_in p (if b then filter kept ps else ps) → Is_in p ps
    by_test true i = (in_filter kept ps p i).0
    by_test false i = i

-- what a contract goes on by is shown
pub living_has : (ps : List Prospect) (p : Prospect) → Is_in p ps → goes_on p.event p.ruling ≡ true → Is_in p (living ps)
living_has ps p i h = by_test (list_any ends ps)
  where
    by_test : (b : Bool) → Is_in p (if b then filter kept ps else ps)
    by_test true = filter_has kept ps p i (or_right (is_lost p) _ h)
    by_test false = i

-- ---- contracts that are over

abbrev going : Prospect → Bool
going p = goes_on p.event p.ruling

pub in_useful : (over : Bool) (ps : List Prospect) (p : Prospect) → Is_in p (useful over ps) → Is_in p ps
in_useful true ps p i = (in_filter going ps p i).0
in_useful false ps p i = i

-- what a contract goes on by is ahead of it
pub useful_has : (over : Bool) (ps : List Prospect) (p : Prospect) → Is_in p ps → goes_on p.event p.ruling ≡ true → Is_in p (useful over ps)
useful_has true ps p i h = filter_has going ps p i h
useful_has false ps p i h = i

no_actives : (k : ℕ) (xs : List ActiveContract) → list_any (λ (a : ActiveContract). a.contract == k) xs ≡ false
    → filter (λ (a : ActiveContract). a.contract == k) xs ≡ []
no_actives k [] h = refl
no_actives k (x ∷ xs) h = by_first (λ q. no_actives k xs q) (x.contract == k) h
  where
    by_first : (list_any (λ (a : ActiveContract). a.contract == k) xs ≡ false → filter (λ (a : ActiveContract). a.contract == k) xs ≡ [])
        → (b : Bool) → (b || list_any (λ (a : ActiveContract). a.contract == k) xs) ≡ false
        → (if b then x ∷ filter (λ (a : ActiveContract). a.contract == k) xs else filter (λ (a : ActiveContract). a.contract == k) xs) ≡ []
    by_first rest true q = cc
    by_first rest false q = rest q

over_parts : (a b : Bool) → (a && not b) ≡ true → b ≡ false
over_parts true true h = cc
over_parts true false h = refl
over_parts false b h = cc

-- where no contract output is left, a contract goes on by its beginning alone
module _ (s : Setup) (g : Configuration) (w : World) (k : ℕ) (c : Advert) where
  not_going : {A : Type 0} (f : A → Event) → ((x : A) (r : Ruling) → goes_on (f x) r ≡ false) → (xs : List A) (e : Event) (r : Ruling)
      → Is_in e (map f xs) → goes_on e r ≡ true → ⊥
  not_going f h xs e r i on = let m = from_map f xs e i in apart_false _ (ap (λ x. goes_on x r) m.2 ∙ h m.0 r) on
    where
      apart_false : (b : Bool) → b ≡ false → b ≡ true → ⊥
      apart_false true q z = cc
      apart_false false q z = cc

  by_candidate : actives_of g k ≡ [] → (e : Event) (r : Ruling) → Is_in e (candidates s g w k c) → goes_on e r ≡ true → e ≡ events.FireInit k
  by_candidate none e r (inl q) on = let z : goes_on (advertising g k c) r ≡ true = subst (λ x. goes_on x r ≡ true) q on in cc
  by_candidate none e r (inr h) on =
      let ps = people s c in
      elim (in_append e (map (committing k) ps) _ h) [
        | inl a ↦ absurd (not_going (committing k) (λ x y. refl) ps e r a on)
        | inr t ↦ elim (in_append e (endorsing s w k ps) _ t) [
          | inl a ↦ absurd (not_going (λ party. events.Endorse k party) (λ x y. refl) _ e r a on)
          | inr u ↦ elim (in_append e (starting g k (persistent c.pre) ps) _ u) [
            | inl a ↦ absurd (not_going (λ party. events.Init k party) (λ x y. refl) _ e r a on)
            | inr (inl q) ↦ q
            | inr (inr v) ↦ elim (in_append e (revealing s k (secrets c.pre)) _ v) [
              | inl a ↦ absurd (not_going (λ (y : List ℕ × List ℕ). events.Reveal k (y.1) (y.0)) (λ x y. refl) _ e r a on)
              | inr x ↦ absurd (subst (λ xs. Is_in e (flat_map (taking_active g ps) xs)) none x)
            ]
          ]
        ]
      ]

  isnt_refused : (r : Ruling) → goes_on (events.FireInit k) r ≡ true → is_refused r ≡ false
  isnt_refused rulings.Can h = refl
  isnt_refused (rulings.Cannot reason) h = cc
  isnt_refused rulings.Halts h = refl

  begins_alone : is_over g w k ≡ true → (p : Prospect) → Is_in p (useful (is_over g w k) (prospects_of s g w (candidates s g w k c)))
      → (p.event ≡ events.FireInit k) × (is_refused p.ruling ≡ false)
  begins_alone h p i =
      let all = prospects_of s g w (candidates s g w k c) in
      let none = no_actives k g.active (over_parts (has_number k w.begun) _ h) in
      let f = in_filter going all p (subst (λ b. Is_in p (useful b all)) h i) in
      let m = from_map (prospect s g w) (filter (λ e. is_shown s w e (ruling s w e)) (candidates s g w k c)) p f.0 in
      let j = in_filter (λ e. is_shown s w e (ruling s w e)) (candidates s g w k c) m.0 m.1 in
      let on : goes_on p.event p.ruling ≡ true = f.1 in
      let same : p.event ≡ m.0 = ap (λ (q : Prospect). q.event) m.2 in
      let is : p.event ≡ events.FireInit k =
      same ∙ by_candidate none m.0 p.ruling j.0 (subst (λ x. goes_on x p.ruling ≡ true) same on) in
      (is, isnt_refused p.ruling (subst (λ x. goes_on x p.ruling ≡ true) is on))

never_begins : (ps : List Prospect) → NeverBegins ps → list_any ends ps ≡ true
never_begins ps n = any_in ends ps n.lost (in_from_contains ps n.lost n.there) (and_from _ _ n.is_lost (ap not n.before))

shows_what_comes : (s : Setup) (g : Configuration) (w : World) (k : ℕ) (advert : Advert) → ShowsWhatComes s g w k advert
shows_what_comes s g w k advert = record {
  all = λ h. ap (λ b. if b then filter kept ps else ps) (by_any ends ps (λ p i. each p i h));
  never = λ n p.
      let same : (outlook s g w k advert).prospects ≡ filter kept ps =
      ap (λ b. if b then filter kept ps else ps) (never_begins ps n) in (
        λ h. let f = in_filter kept ps p (subst (λ (xs : List Prospect). Is_in p xs) same (in_from_contains (outlook s g w k advert).prospects p h)) in
            (contains_from_in ps p f.0, or_cases (is_lost p) (goes_on p.event p.ruling) f.1),
        λ h. contains_from_in (outlook s g w k advert).prospects p
            (subst (λ (xs : List Prospect). Is_in p xs) (sym same) (filter_has kept ps p (in_from_contains ps p h.0) (is_kept p h.1))),
      );
  over = λ h p i. begins_alone s g w k advert h p (in_living ps p (in_from_contains (outlook s g w k advert).prospects p i));
  going = λ h. ap (λ b. useful b listed) h;
  ahead = ahead_exactly s g w (candidates s g w k advert);
}
  where
    listed : List Prospect
    listed = prospects_of s g w (candidates s g w k advert)

    ps : List Prospect
    ps = all_ahead s g w k advert

    each : (p : Prospect) → Is_in p ps → (NeverBegins ps → ⊥) → ends p ≡ false
    each p i h = by_test (ends p) refl
      where
        by_test : (b : Bool) → ends p ≡ b → ends p ≡ false
        by_test true e =
            let f = and_parts (is_lost p) (not (goes_on p.event p.ruling)) e in
            absurd (h (record {
              lost = p;
              there = contains_from_in ps p i;
              is_lost = f.0;
              before = is_false (goes_on p.event p.ruling) f.1;
            }))
        by_test false e = e

    is_kept : (p : Prospect) → (is_lost p ≡ true) ⊎ (goes_on p.event p.ruling ≡ true) → kept p ≡ true
    is_kept p (inl e) = or_left _ _ e
    is_kept p (inr e) = or_right (is_lost p) _ e

pub never_is_said : NeverIsSaid
never_is_said = record { events = says_what_lacks; contracts = shows_what_comes }
