-- What is written of numbers means nothing in HTML, and texts are escaped part by part.
use Rattle.std.proofs.Common.{◌≡◌, ℕ, ◌+◌, ◌%◌, ◌<◌, ◌≤◌, ◌^◌, zero, suc, List, [], ◌∷◌, ◌++◌, Bool, true, false, refl, arith, length}
use Rattle.std.specs.Prelude.{◌&&◌, ◌==◌, if◌then◌else◌, codes}
use Rattle.std.specs.List.{list_all}
use Rattle.std.specs.Fmt.{decimal}
use Rattle.std.proofs.lemmas.Fmt.{decimal_by_steps}
use Rattle.std.proofs.lemmas.Grind.{flat_map-append, common_steps}
use Rattle.std.proofs.lemmas.List.Folds.{list_all-append}
use Rattle.std.proofs.lemmas.Bool.Decides.{nat_tests}
use Rattle.spec_data.specs.Digits.{is_digit}
use Rattle.spec_page.specs.Figures.{behind_digit, separated, sum_text}
use Rattle.spec_page.specs.Html.{escape, escaped}

pub escaped-append : (xs ys : List ℕ) → escaped (xs ++ ys) ≡ escaped xs ++ escaped ys
escaped-append xs ys = flat_map-append escape xs ys

escape-digit : (b : ℕ) → is_digit b ≡ true → escape b ≡ b ∷ []
escape-digit b h = grind (arith, nat_tests, common_steps)

digit_is : (d : ℕ) → d < 10 → is_digit (48 + d) ≡ true
digit_is d h = grind (arith, nat_tests, common_steps)

digits-append : (xs ys : List ℕ) → list_all is_digit xs ≡ true → list_all is_digit ys ≡ true → list_all is_digit (xs ++ ys) ≡ true
digits-append xs ys h k = rw (list_all-append is_digit xs ys, h, k) refl

decimal_is : (n : ℕ) → n < 2 ^ 64 → list_all is_digit (decimal n) ≡ true
decimal_is n h =
    decimal_by_steps (λ (k : ℕ) (ds : List ℕ). list_all is_digit ds ≡ true)
    (λ (k : ℕ) (small : k < 10). one_digit k small)
    (λ (k : ℕ) (ds : List ℕ) (large : 10 ≤ k) (all : list_all is_digit ds ≡ true). digits-append ds ((48 + k % 10) ∷ []) all (one_digit (k % 10) (omega arith)))
    n h
  where
    one_digit : (d : ℕ) → d < 10 → list_all is_digit ((48 + d) ∷ []) ≡ true
    one_digit d h = rw (digit_is d h) refl

and_left : (a b : Bool) → (a && b) ≡ true → a ≡ true
and_left true b h = refl
and_left false b h = h

and_right : (a b : Bool) → (a && b) ≡ true → b ≡ true
and_right true b h = h
and_right false b h = absurd (cc)

escaped-digits : (ds : List ℕ) → list_all is_digit ds ≡ true → escaped ds ≡ ds
escaped-digits [] h = refl
escaped-digits (d ∷ ds) h = rw (escape-digit d (and_left (is_digit d) (list_all is_digit ds) h), escaped-digits ds (and_right (is_digit d) (list_all is_digit ds) h)) refl

escaped-behind_digit : (n : ℕ) → escaped (behind_digit n) ≡ behind_digit n
escaped-behind_digit zero = refl
escaped-behind_digit (suc n) = by_test (suc n % 3 == 0)
  where
    by_test : (b : Bool) → escaped (if b then codes "," else []) ≡ (if b then codes "," else [])
    by_test true = refl
    by_test false = refl

escaped-separated : (ds : List ℕ) → list_all is_digit ds ≡ true → escaped (separated ds) ≡ separated ds
escaped-separated [] h = refl
escaped-separated (d ∷ ds) h =
    rw (escape-digit d (and_left (is_digit d) (list_all is_digit ds) h), escaped-append (behind_digit (length ds)) (separated ds), escaped-behind_digit (length ds), escaped-separated ds (and_right (is_digit d) (list_all is_digit ds) h)) refl

pub escaped_decimal : (n : ℕ) → n < 2 ^ 64 → escaped (decimal n) ≡ decimal n
escaped_decimal n h = escaped-digits (decimal n) (decimal_is n h)

pub escaped_sum_text : (n : ℕ) → n < 2 ^ 64 → escaped (sum_text n) ≡ sum_text n
escaped_sum_text n h = escaped-separated (decimal n) (decimal_is n h)
