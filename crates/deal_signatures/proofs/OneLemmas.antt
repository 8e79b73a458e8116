-- Where all that are needed at one place are of one digest, one verification of a signature is enough.
use Rattle.std.proofs.Common.{◌≡◌, ℕ, List, [], ◌∷◌, Bool, true, false, not, Option, Some, None, refl, sym, ap, subst, ◌∙◌, arith, cond}
use Rattle.std.specs.Prelude.{◌&&◌, ◌||◌, ◌==◌}
use Rattle.std.specs.List.{find, list_all}
use Rattle.std.specs.Str.{bytes_eq}
use Rattle.std.proofs.lemmas.Bool.{and_parts, and_from}
use Rattle.std.proofs.lemmas.Slice.Eq.{bytes_eq-Decides}
use Rattle.spec_deal.specs.declared.signed.Signed.{Signed}
use Rattle.spec_deal.specs.SignatureFile.{verifies_if, is_verified}
use Rattle.spec_deal.specs.Transactions.{Required, is_at}
use Rattle.spec_deal.specs.Verifier.{Verifier}
use Rattle.deal_signatures.specs.Agreeing.{is_same, first_like, is_as_first, do_agree}
use Rattle.deal_signatures.specs.Keying.{signed_by}

-- what all of these have that have another thing
all_have : {A : Type 0} (f g : A → Bool) (xs : List A) → ((x : A) → f x ≡ true → g x ≡ true) → list_all f xs ≡ true
    → list_all g xs ≡ true
all_have f g [] h k = refl
all_have f g (x ∷ xs) h k =
    let p = and_parts (f x) (list_all f xs) k in
    and_from (g x) (list_all g xs) (h x p.0) (all_have f g xs h p.1)

-- the first that passes one test fails another, so not all pass it
first_fails : {A : Type 0} (p q : A → Bool) (xs : List A) (x : A) → find p xs ≡ Some x → (p x ≡ true → q x ≡ false)
    → list_all q xs ≡ false
first_fails p q [] x e h = cc
first_fails p q (y ∷ ys) x e h = by_test (p y) refl e (first_fails p q ys x)
  where
    none_behind : (b : Bool) → (b && false) ≡ false
    none_behind true = refl
    none_behind false = refl

    some_same : {X : Type 0} {a b : X} → Some a ≡ Some b → a ≡ b
    some_same k = cc

    by_test : (b : Bool) → p y ≡ b → cond b (Some y) (find p ys) ≡ Some x
        → (find p ys ≡ Some x → (p x ≡ true → q x ≡ false) → list_all q ys ≡ false) → (q y && list_all q ys) ≡ false
    by_test true is k later =
        let same : y ≡ x = some_same k in
        let fails : q y ≡ false = subst (λ z. p z ≡ true → q z ≡ false) (sym same) h is in
        ap (λ b. b && list_all q ys) fails
    by_test false is k later = ap (λ b. q y && b) (later k h) ∙ none_behind (q y)

-- none passes it
none_pass : {A : Type 0} (p q : A → Bool) (xs : List A) → find p xs ≡ None → ((x : A) → p x ≡ false → q x ≡ true)
    → list_all q xs ≡ true
none_pass p q [] e h = refl
none_pass p q (y ∷ ys) e h = by_test (p y) refl e (none_pass p q ys)
  where
    by_test : (b : Bool) → p y ≡ b → cond b (Some y) (find p ys) ≡ None
        → (find p ys ≡ None → ((x : _) → p x ≡ false → q x ≡ true) → list_all q ys ≡ true) → (q y && list_all q ys) ≡ true
    by_test true is k later = cc
    by_test false is k later = and_from (q y) (list_all q ys) (h y is) (later k h)

same_numbers : (i j : ℕ) → (i == j) ≡ true → i ≡ j
same_numbers i j e = grind (arith, e)

module _ (v : Verifier) (all : List Required) (g : Signed) where
  abbrev at_place : Required → Bool
  at_place w = is_at w.spot g

  abbrev good : Required → Bool
  good w = v.is_signature g.key w.digest g.signature

  -- what stands at the signature's place has the first there as its first
  first_there : (w : Required) → at_place w ≡ true → first_like all w ≡ find at_place all
  first_there w h =
      let p = and_parts (bytes_eq g.tx w.spot.tx) ((g.input == w.spot.input) && bytes_eq g.key w.spot.key) h in
      let q = and_parts (g.input == w.spot.input) (bytes_eq g.key w.spot.key) p.1 in
      let tx : w.spot.tx ≡ g.tx = sym ((bytes_eq-Decides g.tx w.spot.tx).0 p.0) in
      let input : w.spot.input ≡ g.input = sym (same_numbers g.input w.spot.input q.0) in
      let key : w.spot.key ≡ g.key = sym ((bytes_eq-Decides g.key w.spot.key).0 q.1) in
      λ i. find (λ (x : Required). is_at x.spot (signed_by (tx i) (input i) (key i) [])) all

  -- so it has that digest
  one_good : (first : Required) → find at_place all ≡ Some first → good first ≡ true → (w : Required) → is_as_first all w ≡ true
      → verifies_if v g w ≡ true
  one_good first e k w h = by_test (at_place w) refl
    where
      by_test : (b : Bool) → at_place w ≡ b → (not b || good w) ≡ true
      by_test false is = refl
      by_test true is =
          let same : is_same w (Some first) ≡ true = sym (ap (is_same w) (first_there w is ∙ e)) ∙ h in
          let digest : first.digest ≡ w.digest = (bytes_eq-Decides first.digest w.digest).0 same in
          subst (λ (d : List ℕ). v.is_signature g.key d g.signature ≡ true) digest k

  -- by the first that is needed there, if there is one
  abbrev by_option : Option Required → Bool
  by_option None = true
  by_option (Some first) = good first

  if_absent : (w : Required) → at_place w ≡ false → verifies_if v g w ≡ true
  if_absent w e = ap (λ b. not b || good w) e

  if_first_bad : (first : Required) → good first ≡ false → at_place first ≡ true → verifies_if v g first ≡ false
  if_first_bad first k e = λ i. not (e i) || k i

  pub by_first : (o : Option Required) → do_agree all ≡ true → find at_place all ≡ o → by_option o ≡ is_verified v all g
  by_first None agree e = sym (none_pass at_place (verifies_if v g) all e if_absent)
  by_first (Some first) agree e = by_good (good first) refl
    where
      by_good : (b : Bool) → good first ≡ b → b ≡ list_all (verifies_if v g) all
      by_good true k = sym (all_have (is_as_first all) (verifies_if v g) all (one_good first e k) agree)
      by_good false k = sym (first_fails at_place (verifies_if v g) all first e (if_first_bad first k))
