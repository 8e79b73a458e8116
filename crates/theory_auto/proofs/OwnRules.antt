-- A strategy adds events of its own rules alone, and the longer run is one of which the theorems on runs speak.
use Rattle.std.proofs.Common.{◌≡◌, ℕ, List, [], ◌∷◌, ◌++◌, true, Option, Some, None, refl, sym, subst, inl, inr}
use Rattle.std.specs.Prelude.{◌⊎◌}
use Rattle.std.specs.List.{AllByRecursion}
use Rattle.std.specs.Str.{bytes_eq}
use Rattle.std.proofs.lemmas.Bool.{or_cases, and_parts}
use Rattle.std.proofs.lemmas.List.Sorted.{Contains-permutation}
use Rattle.spec_data.specs.Lists.{is_among}
use Rattle.spec_terms.specs.declared.path.PathStep.{PathStep}
use Rattle.spec_run.specs.declared.event.Event.{Event}
use Rattle.spec_run.specs.declared.event.Event.TheVariants as events
use Rattle.spec_run.specs.Setup.{Setup, is_declared}
use Rattle.spec_run.specs.World.{World}
use Rattle.spec_run.specs.Conditions.{IsEvent, are_all_among}
use Rattle.spec_run.specs.Translation.{last_world}
use Rattle.spec_run.specs.Statements.{IsRun}
use Rattle.spec_text.specs.Words.{◌>>=◌}
use Rattle.spec_tool.specs.declared.rule.Act.{Act}
use Rattle.spec_tool.specs.declared.rule.Act.TheVariants as acts
use Rattle.spec_tool.specs.declared.rule.Rule.{Rule}
use Rattle.spec_tool.specs.Turns.{taken_at, act_event, Progress}
use Rattle.theory_calculus.specs.Members.{Is_in}
use Rattle.theory_calculus.proofs.Members.{in_left, in_from_contains, contains_from_in}
use Rattle.theory_calculus.proofs.Names.{bytes-true}
use Rattle.theory_script.proofs.Listing.Stands.{some_same}
use Rattle.theory_run.proofs.Simulated.{simulation}
use Rattle.theory_run.proofs.Honest.Throughout.{licence, honest_deposits}
use Rattle.theory_auto.specs.Continued.{AreTaken, with_events}
use Rattle.theory_auto.specs.OwnRules.{IsHonest, IsDoneBy, IsOfRule, KeepsToRules, StrategiesKeepToRules}
use Rattle.theory_auto.proofs.Continued.{strategies_go}

-- ---- what a rule does

authorised_by : (party : List ℕ) (path : List PathStep) (o : Option (ℕ × ℕ)) (e : Event)
    → (o >>= λ p. Some (events.Authorise party (p.0) (p.1))) ≡ Some e → IsDoneBy party (acts.Authorise path) e
authorised_by party path None e h = cc
authorised_by party path (Some p) e h = (p.0, p.1, sym (some_same h))

fired_by : (party : List ℕ) (path : List PathStep) (o : Option (ℕ × ℕ)) (e : Event) → (o >>= λ p. Some (events.Fire (p.0) (p.1))) ≡ Some e
    → IsDoneBy party (acts.Fire path) e
fired_by party path None e h = cc
fired_by party path (Some p) e h = (p.0, p.1, sym (some_same h))

pub done_by : (s : Setup) (w : World) (party : List ℕ) (act : Act) (e : Event) → act_event s w party act ≡ Some e → IsDoneBy party act e
done_by s w party acts.Commit e h = sym (some_same h)
done_by s w party acts.Endorse e h = sym (some_same h)
done_by s w party acts.Init e h = sym (some_same h)
done_by s w party (acts.Authorise path) e h = authorised_by party path (taken_at s w path) e h
done_by s w party (acts.Reveal secret) e h = sym (some_same h)
done_by s w party acts.FireInit e h = sym (some_same h)
done_by s w party (acts.Fire path) e h = fired_by party path (taken_at s w path) e h

-- ---- declared parties

pub declared_among : (a : List ℕ) (names parties : List (List ℕ)) → are_all_among names parties ≡ true → is_among a names ≡ true
    → is_among a parties ≡ true
declared_among a [] parties h k = cc
declared_among a (x ∷ names) parties h k =
    let b = and_parts (is_among x parties) (are_all_among names parties) h in
    by_case (or_cases (bytes_eq x a) (is_among a names) k) b.0 (declared_among a names parties b.1)
  where
    by_case : (bytes_eq x a ≡ true) ⊎ (is_among a names ≡ true) → is_among x parties ≡ true
        → (is_among a names ≡ true → is_among a parties ≡ true) → is_among a parties ≡ true
    by_case (inl e) first later = subst (λ y. is_among y parties ≡ true) (bytes-true x a e) first
    by_case (inr i) first later = later i

-- what a declared party does by a rule is an event
pub is_event : (s : Setup) (party : List ℕ) (act : Act) (e : Event) → is_declared s party ≡ true → IsDoneBy party act e → IsEvent s e
is_event s party acts.Commit e d h = subst (IsEvent s) (sym h) (d, tt)
is_event s party acts.Endorse e d h = subst (IsEvent s) (sym h) d
is_event s party acts.Init e d h = subst (IsEvent s) (sym h) d
is_event s party (acts.Authorise path) e d h = subst (IsEvent s) (sym h.2) d
is_event s party (acts.Reveal secret) e d h = subst (IsEvent s) (sym h) d
is_event s party acts.FireInit e d h = subst (IsEvent s) (sym h) tt
is_event s party (acts.Fire path) e d h = subst (IsEvent s) (sym h.2) tt

-- ---- all events that are added

-- each is of one of the rules that are taken
module _ (s : Setup) (all : List Rule) where
  abbrev OfSome : Event → Type 0
  OfSome e = (r : Rule) × Is_in r all × IsDoneBy r.party r.act e

  of_taken : (rs : List Rule) (es : List Event) (w last : World) → ((r : Rule) → Is_in r rs → Is_in r all) → AreTaken s w rs es last
      → AllByRecursion OfSome es
  of_taken [] [] w last f t = tt
  of_taken [] (e ∷ es) w last f t = absurd t
  of_taken (r ∷ rs) [] w last f t = absurd t
  of_taken (r ∷ rs) (e ∷ es) w last f t =
      ((r, f r (inl refl), done_by s w r.party r.act e t.has), of_taken rs es t.next last (λ x i. f x (inr i)) t.goes_on)

all_then : {X : Type 0} (P Q : X → Type 0) → ((x : X) → P x → Q x) → (xs : List X) → AllByRecursion P xs → AllByRecursion Q xs
all_then P Q f [] h = tt
all_then P Q f (x ∷ xs) h = (f x h.0, all_then P Q f xs h.1)

pub all_append : {X : Type 0} (P : X → Type 0) (xs ys : List X) → AllByRecursion P xs → AllByRecursion P ys → AllByRecursion P (xs ++ ys)
all_append P [] ys h k = k
all_append P (x ∷ xs) ys h k = (h.0, all_append P xs ys h.1 k)

pub all_in : {X : Type 0} (P : X → Type 0) (xs : List X) (x : X) → AllByRecursion P xs → Is_in x xs → P x
all_in P [] x h i = absurd i
all_in P (y ∷ xs) x h (inl e) = subst P (sym e) h.0
all_in P (y ∷ xs) x h (inr i) = all_in P xs x h.1 i

keeps_to : (s : Setup) (es : List Event) (rules : List Rule) (p : Progress) → IsRun s es → AllByRecursion (IsHonest s.header) rules
    → AllByRecursion (OfSome s rules) p.events → KeepsToRules s es rules p
keeps_to s es rules p run honest of =
    let added = all_then (OfSome s rules) (IsEvent s) (λ e x.
    is_event s x.0.party x.0.act e
    (declared_among x.0.party s.header.honest s.header.parties run.setup.header.honest_declared
    (all_in (IsHonest s.header) rules x.0 honest x.1)) x.2) p.events of in
    let longer : IsRun s (with_events es p) =
    record { setup = run.setup; opens = run.opens; events = all_append (IsEvent s) es p.events run.events added } in
    record {
      of_rules = all_then (OfSome s rules) (IsOfRule rules) (λ e x. (x.0, contains_from_in rules x.0 x.1, x.2)) p.events of;
      is_run = longer;
      simulates = simulation s (with_events es p) longer;
      licence = licence s (with_events es p) longer;
      spends = honest_deposits s (with_events es p) longer;
    }

pub keep_to_rules : StrategiesKeepToRules
keep_to_rules s es rules p run on honest e =
    let g = strategies_go.goes_on s es rules p run on e in
    let stands : (r : Rule) → Is_in r g.rules_taken → Is_in r rules =
    λ r i. in_from_contains rules r (Contains-permutation (g.rules_taken ++ p.left) rules r g.each_once
    (contains_from_in (g.rules_taken ++ p.left) r (in_left r g.rules_taken p.left i))) in
    keeps_to s es rules p run honest
    (of_taken s rules g.rules_taken p.events (last_world s es) (last_world s (with_events es p)) stands g.taken)
