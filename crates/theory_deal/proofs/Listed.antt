-- The signatures that are missing and held are those of the list without and with one given; the first endorsement that is missing.
use Rattle.std.proofs.Common.{◌≡◌, ℕ, List, [], ◌∷◌, ◌++◌, Bool, true, false, not, Option, Some, None, refl, sym, ap, ◌∙◌, cond, arith, inl, inr}
use Rattle.std.specs.Prelude.{filter, ◌&&◌, ◌||◌, ◌⊎◌, ◌↔◌, is_some, slice_index, codes}
use Rattle.std.specs.List.{Contains, find, list_all, list_any}
use Rattle.std.specs.Option.{is_none}
use Rattle.std.proofs.lemmas.Bool.{and_parts, and_from}
use Rattle.spec_compiler.specs.Keyed.Keys.{Keys}
use Rattle.spec_text.specs.RunText.{newline}
use Rattle.spec_deal.specs.declared.signed.Signed.{Signed}
use Rattle.spec_deal.specs.declared.transaction.Wallet.{Wallet}
use Rattle.spec_deal.specs.DealText.{gate_line}
use Rattle.spec_deal.specs.Slots.{Slot, slots, is_endorsement}
use Rattle.spec_deal.specs.Given.{has, is_unverified, is_unverified_endorsement, has_unverified, may_start, first_unendorsed}
use Rattle.theory_calculus.specs.Members.{Is_in}
use Rattle.theory_calculus.proofs.Members.{in_from_contains, contains_from_in, in_filter, filter_has, all_in, found}
use Rattle.theory_deal.proofs.Scripts.{scripts_ask}
use Rattle.theory_deal.specs.Signatures.{IsOwed, MissingAndHeld, MayStart}

from_not : (b : Bool) → not b ≡ true → b ≡ false
from_not true e = cc
from_not false e = refl

to_not : (b : Bool) → b ≡ false → not b ≡ true
to_not true e = cc
to_not false e = refl

-- what passes a filter
passes : {X : Type 0} (p : X → Bool) (xs : List X) (x : X) → Contains (filter p xs) x → Contains xs x × (p x ≡ true)
passes p xs x h =
    let r = in_filter p xs x (in_from_contains (filter p xs) x h) in
    (contains_from_in xs x r.0, r.1)

passed : {X : Type 0} (p : X → Bool) (xs : List X) (x : X) → Contains xs x → p x ≡ true → Contains (filter p xs) x
passed p xs x h e = contains_from_in (filter p xs) x (filter_has p xs x (in_from_contains xs x h) e)

-- what is said of a slot that is missing or that isn't verified
abbrev is_unsettled : (List ℕ → List ℕ) → Keys → List Signed → Slot → Bool
is_unsettled hash keys given slot = not (has hash keys given slot) || is_unverified_endorsement hash keys given slot

module _ (hash : List ℕ → List ℕ) (keys : Keys) (given : List Signed) (slot : Slot) where
  is_owed : is_unverified_endorsement hash keys given slot ≡ true → IsOwed hash keys given slot
  is_owed h =
      let p = and_parts (is_endorsement slot.verb) (is_unverified hash keys given slot) h in
      let q = and_parts (is_some slot.wallet) (has hash keys given slot) p.1 in
      record { endorses = p.0; of_wallet = q.0; there = q.1 }

  owes : IsOwed hash keys given slot → is_unverified_endorsement hash keys given slot ≡ true
  owes h =
      and_from (is_endorsement slot.verb) (is_unverified hash keys given slot) h.endorses
      (and_from (is_some slot.wallet) (has hash keys given slot) h.of_wallet h.there)

  owed_from : is_unsettled hash keys given slot ≡ true → (has hash keys given slot ≡ false) ⊎ IsOwed hash keys given slot
  owed_from h = by_test (has hash keys given slot) refl h
    where
      by_test : (b : Bool) → has hash keys given slot ≡ b → (not b || is_unverified_endorsement hash keys given slot) ≡ true
          → (has hash keys given slot ≡ false) ⊎ IsOwed hash keys given slot
      by_test false e k = inl e
      by_test true e k = inr (is_owed k)

  owed_to : (has hash keys given slot ≡ false) ⊎ IsOwed hash keys given slot → is_unsettled hash keys given slot ≡ true
  owed_to (inl e) = ap (λ (b : Bool). not b || is_unverified_endorsement hash keys given slot) e
  owed_to (inr h) = by_test (not (has hash keys given slot)) (owes h)
    where
      by_test : (b : Bool) → is_unverified_endorsement hash keys given slot ≡ true
          → (b || is_unverified_endorsement hash keys given slot) ≡ true
      by_test true k = refl
      by_test false k = k

pub missing_and_held : MissingAndHeld
missing_and_held hash keys s given slot = record {
  is_missing = (
    λ h. let r = passes (λ x. not (has hash keys given x)) (slots hash keys s) slot h in (r.0, from_not (has hash keys given slot) r.1),
    λ h. passed (λ x. not (has hash keys given x)) (slots hash keys s) slot h.0 (to_not (has hash keys given slot) h.1),
  );
  is_held = (
    λ h. passes (has hash keys given) (slots hash keys s) slot h,
    λ h. passed (has hash keys given) (slots hash keys s) slot h.0 h.1,
  );
  is_unsettled = (
    λ h.
        let r = passes (is_unsettled hash keys given) (slots hash keys s) slot h in
        (r.0, owed_from hash keys given slot r.1),
    λ h. passed (is_unsettled hash keys given) (slots hash keys s) slot h.0 (owed_to hash keys given slot h.1),
  );
}

-- ---- all pass, or the first that doesn't

pub none_fails : {X : Type 0} (p : X → Bool) (xs : List X) → list_all p xs ≡ true → find (λ x. not (p x)) xs ≡ None
none_fails p [] h = refl
none_fails p (x ∷ xs) h = by_test (p x) refl h (none_fails p xs)
  where
    by_test : (b : Bool) → p x ≡ b → (b && list_all p xs) ≡ true → (list_all p xs ≡ true → find (λ y. not (p y)) xs ≡ None)
        → cond (not b) (Some x) (find (λ y. not (p y)) xs) ≡ None
    by_test true e k ih = ih k
    by_test false e k ih = cc

pub all_pass : {X : Type 0} (p : X → Bool) (xs : List X) → find (λ x. not (p x)) xs ≡ None → list_all p xs ≡ true
all_pass p [] h = refl
all_pass p (x ∷ xs) h = by_test (p x) h (all_pass p xs)
  where
    by_test : (b : Bool) → cond (not b) (Some x) (find (λ y. not (p y)) xs) ≡ None
        → (find (λ y. not (p y)) xs ≡ None → list_all p xs ≡ true) → (b && list_all p xs) ≡ true
    by_test true k ih = ih k
    by_test false k ih = cc

-- where none is found, none passes
pub none_found : {X : Type 0} (p : X → Bool) (xs : List X) (x : X) → find p xs ≡ None → Is_in x xs → p x ≡ false
none_found p [] x h i = absurd i
none_found {X} p (y ∷ ys) x h i = by_test (p y) refl h i (none_found p ys x)
  where
    by_test : (b : Bool) → p y ≡ b → cond b (Some y) (find p ys) ≡ None → (x ≡ y) ⊎ Is_in x ys
        → (find p ys ≡ None → Is_in x ys → p x ≡ false) → p x ≡ false
    by_test true e k j ih = cc
    by_test false e k (inl same) ih = ap p same ∙ e
    by_test false e k (inr later) ih = ih k later

all_of_each : {X : Type 0} (p q : X → Bool) (xs : List X) → ((x : X) → Contains xs x → q x ≡ true → p x ≡ true)
    → list_all p (filter q xs) ≡ true
all_of_each p q xs f =
    all_pass p (filter q xs) (by_found (find (λ x. not (p x)) (filter q xs)) refl)
  where
    by_found : (o : Option _) → find (λ x. not (p x)) (filter q xs) ≡ o → o ≡ None
    by_found None e = refl
    by_found (Some x) e =
        let r = found (λ y. not (p y)) (filter q xs) x e in
        let m = in_filter q xs x r.0 in
        let t : p x ≡ true = f x (contains_from_in xs x m.0) m.1 in
        let n : p x ≡ false = from_not (p x) r.1 in
        cc

-- ---- the last line

pub any_found : {X : Type 0} (p : X → Bool) (xs : List X) → list_any p xs ≡ true → (x : X) × Contains xs x × (p x ≡ true)
any_found {X} p xs h = let r = any_is p xs h in (r.0, contains_from_in xs r.0 r.1, r.2)
  where
    any_is : (q : X → Bool) (ys : List X) → list_any q ys ≡ true → (y : X) × Is_in y ys × (q y ≡ true)
    any_is q [] k = cc
    any_is q (y ∷ ys) k = by_test (q y) refl k (any_is q ys)
      where
        by_test : (b : Bool) → q y ≡ b → (b || list_any q ys) ≡ true → (list_any q ys ≡ true → (z : X) × Is_in z ys × (q z ≡ true))
            → (z : X) × Is_in z (y ∷ ys) × (q z ≡ true)
        by_test true e m ih = (y, inl refl, e)
        by_test false e m ih = let r = ih m in (r.0, inr r.1, r.2)

pub any_there : {X : Type 0} (p : X → Bool) (xs : List X) (x : X) → Is_in x xs → p x ≡ true → list_any p xs ≡ true
any_there p [] x i h = absurd i
any_there p (y ∷ ys) x (inl e) h = ap (λ (b : Bool). b || list_any p ys) (ap p (sym e) ∙ h)
any_there p (y ∷ ys) x (inr i) h = by_test (p y) (any_there p ys x i h)
  where
    by_test : (b : Bool) → list_any p ys ≡ true → (b || list_any p ys) ≡ true
    by_test true k = refl
    by_test false k = k

no_same : (m n : ℕ) → (m ≡ n → ⊥) → m ≡ n → ⊥
no_same m n f e = f e

-- the line begins so where no endorsement is missing, and else not
begins : (unverified : Bool) (o : Option Slot) → (o ≡ None) ↔ ((rest : List ℕ) × (gate_line unverified o ≡ codes "init may be signed" ++ rest))
begins true None = (λ e. (codes " once the unverified are checked" ++ newline, refl), λ h. refl)
begins false None = (λ e. (newline, refl), λ h. refl)
begins unverified (Some slot) = (
  λ e. cc,
  λ h. absurd (no_same 110 109 (λ e. omega (arith, e)) (ap (λ (xs : List ℕ). slice_index xs 5) h.1)),
)

ends_there : (unverified : Bool) (o : Option Slot) → is_none o && not unverified ≡ true
    → gate_line unverified o ≡ codes "init may be signed" ++ newline
ends_there false None h = refl
ends_there true None h = cc
ends_there unverified (Some slot) h = cc

there_ends : (unverified : Bool) (o : Option Slot) → gate_line unverified o ≡ codes "init may be signed" ++ newline
    → is_none o && not unverified ≡ true
there_ends false None h = refl
there_ends true None h = absurd (no_same 32 10 (λ e. omega (arith, e)) (ap (λ (xs : List ℕ). slice_index xs 18) h))
there_ends unverified (Some slot) h = absurd (no_same 110 109 (λ e. omega (arith, e)) (ap (λ (xs : List ℕ). slice_index xs 5) h))

pub none_any : {X : Type 0} (p : X → Bool) (xs : List X) → ((x : X) → Is_in x xs → p x ≡ false) → list_any p xs ≡ false
none_any p [] f = refl
none_any p (x ∷ xs) f =
    ap (λ (b : Bool). b || list_any p xs) (f x (inl refl)) ∙ none_any p xs (λ y i. f y (inr i))

and_true : (a : Bool) → (a && true) ≡ a
and_true true = refl
and_true false = refl

-- what no wallet signs isn't one of a wallet's
pub not_owed : (hash : List ℕ → List ℕ) (keys : Keys) (given : List Signed) (slot : Slot) → slot.wallet ≡ None
    → is_unverified_endorsement hash keys given slot ≡ false
not_owed hash keys given slot e =
    ap (λ (o : Option Wallet). is_endorsement slot.verb && (is_some o && has hash keys given slot)) e ∙ by_verb (is_endorsement slot.verb)
  where
    by_verb : (b : Bool) → (b && false) ≡ false
    by_verb true = refl
    by_verb false = refl

none_is : {X : Type 0} (o : Option X) → is_none o ≡ true → o ≡ None
none_is None h = refl
none_is (Some x) h = cc

pub may_start_exactly : MayStart
may_start_exactly hash keys s given =
    let all = slots hash keys s in
    let requirements : Slot → Bool = λ slot. is_endorsement slot.verb in
    let there = has hash keys given in
    let started = may_start hash keys s given in
    let unverified = has_unverified hash keys s given in
    let first = first_unendorsed hash keys s given in
    record {
      endorsed = (
        λ h slot c w. all_in there (filter requirements all) slot h (filter_has requirements all slot (in_from_contains all slot c) w),
        λ f. all_of_each there requirements all f,
      );
      none = (λ h. all_pass there (filter requirements all) h, λ h. none_fails there (filter requirements all) h);
      first = λ slot e.
          let r = found (λ y. not (there y)) (filter requirements all) slot e in
          let m = in_filter requirements all slot r.0 in
          (contains_from_in all slot m.0, m.1, from_not (there slot) r.1);
      owed = (
        λ h.
            let r = any_found (is_unverified_endorsement hash keys given) all h in
            (r.0, r.1, is_owed hash keys given r.0 r.2),
        λ h.
            any_there (is_unverified_endorsement hash keys given) all h.0 (in_from_contains all h.0 h.1)
            (owes hash keys given h.0 h.2),
      );
      printed = (
        λ h. (begins unverified first).0 (none_fails there (filter requirements all) h),
        λ h. all_pass there (filter requirements all) ((begins unverified first).1 h),
      );
      ready = (
        λ h.
            let p = and_parts started (not unverified) h in
            let none = none_fails there (filter requirements all) p.0 in
            ends_there unverified first (and_from (is_none first) (not unverified) (ap is_none none) p.1),
        λ h.
            let p = and_parts (is_none first) (not unverified) (there_ends unverified first h) in
            and_from started (not unverified) (all_pass there (filter requirements all) (none_is first p.0)) p.1,
      );
      of_keys = λ of_keys.
          let none : unverified ≡ false =
          none_any (is_unverified_endorsement hash keys given) all
          (λ slot i.
          let wallet = (scripts_ask hash keys s).by_keys of_keys slot (contains_from_in all slot i) in
          not_owed hash keys given slot wallet) in
          ap (λ (b : Bool). started && not b) none ∙ and_true started;
    }
