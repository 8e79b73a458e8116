-- What is missing for an event is exactly what fails.
use Rattle.std.proofs.Common.{◌≡◌, ℕ, List, [], ◌∷◌, map, Bool, true, false, refl, sym, ap, ◌∙◌, subst, inl, inr}
use Rattle.std.specs.Prelude.{◌↔◌, not, ◌&&◌, ◌||◌, if◌then◌else◌}
use Rattle.std.specs.List.{Contains, filter, list_all}
use Rattle.std.proofs.lemmas.Bool.{and_parts}
use Rattle.spec_data.specs.Lists.{is_among}
use Rattle.spec_terms.specs.Precondition.{names_of}
use Rattle.spec_calculus.specs.Configuration.{Configuration}
use Rattle.spec_run.specs.declared.event.Event.{Event}
use Rattle.spec_run.specs.declared.event.Event.TheVariants as events
use Rattle.spec_run.specs.Committing.{secrets_at}
use Rattle.spec_run.specs.Setup.{Setup, is_honest}
use Rattle.spec_run.specs.World.{World}
use Rattle.spec_next.specs.declared.requirement.Requirement.{Requirement}
use Rattle.spec_next.specs.declared.requirement.Requirement.TheVariants as requirements
use Rattle.spec_next.specs.Requirements.{Condition, unmet, conditions, requirements_of}
use Rattle.theory_calculus.specs.Members.{Is_in}
use Rattle.theory_calculus.proofs.Members.{in_from_contains, contains_from_in, in_filter, filter_has}
use Rattle.theory_next.specs.Requirements.{IsFailing, IsUntold, RequirementsAreExactTheorem}

-- ---- lists

pub in_map : {A B : Type 0} (f : A → B) (xs : List A) (x : A) → Is_in x xs → Is_in (f x) (map f xs)
in_map f [] x h = absurd h
in_map f (y ∷ ys) x (inl e) = inl (ap f e)
in_map f (y ∷ ys) x (inr i) = inr (in_map f ys x i)

pub from_map : {A B : Type 0} (f : A → B) (xs : List A) (y : B) → Is_in y (map f xs) → (x : A) × Is_in x xs × (y ≡ f x)
from_map f [] y h = absurd h
from_map f (x ∷ xs) y (inl e) = (x, inl refl, e)
from_map f (x ∷ xs) y (inr i) = let r = from_map f xs y i in (r.0, inr r.1, r.2)

-- ---- what is unmet

abbrev fails : Condition → Bool
fails c = not (c.0)

is_false : (b : Bool) → not b ≡ true → b ≡ false
is_false true h = cc
is_false false h = refl

-- where nothing is unmet, all are met
pub all_met : (cs : List Condition) → unmet cs ≡ [] → list_all (λ (c : Condition). c.0) cs ≡ true
all_met [] h = refl
all_met (c ∷ cs) h = by_test (c.0) h (all_met cs)
  where
    by_test : (b : Bool) → map (λ (d : Condition). d.1) (if not b then c ∷ filter fails cs else filter fails cs) ≡ []
        → (unmet cs ≡ [] → list_all (λ (d : Condition). d.0) cs ≡ true) → (b && list_all (λ (d : Condition). d.0) cs) ≡ true
    by_test true h ih = ih h
    by_test false h ih = cc

pub none_unmet : (cs : List Condition) → list_all (λ (c : Condition). c.0) cs ≡ true → unmet cs ≡ []
none_unmet [] h = refl
none_unmet (c ∷ cs) h =
    let p = and_parts (c.0) (list_all (λ (d : Condition). d.0) cs) h in
    ap (λ b. map (λ (d : Condition). d.1) (if not b then c ∷ filter fails cs else filter fails cs)) p.0 ∙ none_unmet cs p.1

-- a condition that fails is unmet
pub fails_in : (cs : List Condition) (c : Condition) → Is_in c cs → c.0 ≡ false → Is_in (c.1) (unmet cs)
fails_in cs c i h = in_map (λ (d : Condition). d.1) (filter fails cs) c (filter_has fails cs c i (ap not h))

pub is_failing : (cs : List Condition) (x : Requirement) → Is_in x (unmet cs) → IsFailing cs x
is_failing cs x h =
    let m = from_map (λ (c : Condition). c.1) (filter fails cs) x h in
    let f = in_filter fails cs m.0 m.1 in
    record { condition = m.0; there = contains_from_in cs m.0 f.0; fails = is_false (m.0.0) f.1; outstanding = sym m.2 }

is_unmet : (cs : List Condition) (x : Requirement) → IsFailing cs x → Is_in x (unmet cs)
is_unmet cs x f = subst (λ y. Is_in y (unmet cs)) f.outstanding (fails_in cs f.condition (in_from_contains cs f.condition f.there) f.fails)

-- ---- digests

abbrev secret_in : Requirement → List ℕ
secret_in (requirements.Digest party k secret) = secret
secret_in _ = []

both_false : (a b : Bool) → (a || b) ≡ false → (a ≡ false) × (b ≡ false)
both_false true b h = cc
both_false false b h = (refl, h)

digests_exactly : (s : Setup) (g : Configuration) (w : World) (k : ℕ) (party : List ℕ) (told : List (List ℕ × List ℕ)) (secret : List ℕ)
    → Contains (requirements_of s g w (events.Commit k party told)) (requirements.Digest party k secret) ↔ IsUntold s k party told secret
digests_exactly s g w k party told secret = (forth, back)
  where
    cs : List Condition
    cs = conditions s g w (events.Commit k party told)

    x : Requirement
    x = requirements.Digest party k secret

    wanted : List ℕ → Condition
    wanted y = (is_honest s party || is_among y (names_of told), requirements.Digest party k y)

    forth : Contains (requirements_of s g w (events.Commit k party told)) x → IsUntold s k party told secret
    forth h =
        let f = is_failing cs x (in_from_contains (unmet cs) x h) in
        by_place f.condition (in_from_contains cs f.condition f.there) f.outstanding f.fails
      where
        by_place : (c : Condition) → Is_in c cs → c.1 ≡ x → c.0 ≡ false → IsUntold s k party told secret
        by_place c (inl e) q z = let no : requirements.Advert k ≡ x = sym (ap (λ (d : Condition). d.1) e) ∙ q in cc
        by_place c (inr i) q z =
            let m = from_map wanted (secrets_at s k party) c i in
            let same : m.0 ≡ secret = ap secret_in (sym (ap (λ (d : Condition). d.1) m.2) ∙ q) in
            let b = both_false (is_honest s party) (is_among m.0 (names_of told)) (sym (ap (λ (d : Condition). d.0) m.2) ∙ z) in
            record {
              its = contains_from_in (secrets_at s k party) secret (subst (λ y. Is_in y (secrets_at s k party)) same m.1);
              dishonest = b.0;
              untold = subst (λ y. is_among y (names_of told) ≡ false) same b.1;
            }

    back : IsUntold s k party told secret → Contains (requirements_of s g w (events.Commit k party told)) x
    back h =
        let there : Is_in (wanted secret) cs = inr (in_map wanted (secrets_at s k party) secret (in_from_contains (secrets_at s k party) secret h.its)) in
        contains_from_in (unmet cs) x
        (fails_in cs (wanted secret) there (ap (λ b. b || is_among secret (names_of told)) h.dishonest ∙ h.untold))

pub exact : RequirementsAreExactTheorem
exact s g w e =
    let cs = conditions s g w e in
    record {
      failing = λ x. (
        λ h. is_failing cs x (in_from_contains (requirements_of s g w e) x h),
        λ f. contains_from_in (requirements_of s g w e) x
            (is_unmet cs x f),
      );
      nothing = (λ h. all_met cs h, λ h. none_unmet cs h);
      digests = λ k party told q secret.
          subst (λ (x : Event). Contains (requirements_of s g w x) (requirements.Digest party k secret) ↔ IsUntold s k party told secret) (sym q)
          (digests_exactly s g w k party told secret);
    }
