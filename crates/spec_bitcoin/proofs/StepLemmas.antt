-- Numbers, steps, paths and labels at the front of a text: each is cut off in one way.
use Rattle.std.proofs.Common.{◌≡◌, ℕ, ◌<◌, ◌^◌, List, [], ◌∷◌, ◌++◌, Bool, true, false, refl, sym, ap, subst, ◌∙◌, arith, append_assoc}
use Rattle.std.specs.Fmt.{decimal}
use Rattle.std.specs.List.{list_all, flat_map, AllByRecursion}
use Rattle.std.proofs.lemmas.Bool.{and_parts}
use Rattle.std.proofs.lemmas.Fmt.{decimal_injective, digits_decimal}
use Rattle.std.proofs.lemmas.List.Concat.{flat_map-cons}
use Rattle.std.proofs.lemmas.Str.Parse.{IsNumeralModel, numerals_by_fold, tells_all_ascii_digits}
use Rattle.spec_data.specs.Digits.{is_digit, value_from, decimal_value}
use Rattle.spec_terms.specs.declared.path.PathStep.{PathStep}
use Rattle.spec_terms.specs.declared.path.PathStep.TheVariants.{Branch as To, Part as Into}
use Rattle.spec_bitcoin.specs.declared.label.Label.TheVariants.{Deposit, Branch}
use Rattle.spec_bitcoin.specs.Keys.{step_text, path_text, label_text, IsStep}

pub heads : (a b : ℕ) (t u : List ℕ) → a ∷ t ≡ b ∷ u → a ≡ b
heads a b t u e = cc

pub tails : (a b : ℕ) (t u : List ℕ) → a ∷ t ≡ b ∷ u → t ≡ u
tails a b t u e = cc

-- ---- decimals

pub decimals : IsNumeralModel (λ ds. list_all is_digit ds ≡ true) decimal_value
decimals =
    numerals_by_fold (λ ds. list_all is_digit ds ≡ true) tells_all_ascii_digits value_from
    (record { empty = λ n. refl; more = λ n c cs h. refl })

pub decimal_digits : (n : ℕ) → n < 2 ^ 32 → list_all is_digit (decimal n) ≡ true
decimal_digits n h = digits_decimal decimals n (omega (arith, h))

-- the text doesn't begin with a digit
abbrev pub Ends : List ℕ → Type 0
Ends [] = Unit {0}
Ends (c ∷ cs) = is_digit c ≡ false

apart : (t : Bool) → t ≡ true → t ≡ false → ⊥
apart t h k = cc

-- digits are cut off where they end
cut : (ds es x y : List ℕ) → list_all is_digit ds ≡ true → list_all is_digit es ≡ true → Ends x → Ends y → ds ++ x ≡ es ++ y
    → (ds ≡ es) × (x ≡ y)
cut [] [] x y h k f g e = (refl, e)
cut [] (c ∷ es) [] y h k f g e = cc
cut [] (c ∷ es) (b ∷ x) y h k f g e =
    let p = and_parts (is_digit c) (list_all is_digit es) k in
    absurd (apart (is_digit b) (ap is_digit (heads b c x (es ++ y) e) ∙ p.0) f)
cut (c ∷ ds) [] x [] h k f g e = cc
cut (c ∷ ds) [] x (b ∷ y) h k f g e =
    let p = and_parts (is_digit c) (list_all is_digit ds) h in
    absurd (apart (is_digit b) (sym (ap is_digit (heads c b (ds ++ x) y e)) ∙ p.0) g)
cut (c ∷ ds) (d ∷ es) x y h k f g e =
    let same = heads c d (ds ++ x) (es ++ y) e in
    let p = and_parts (is_digit c) (list_all is_digit ds) h in
    let q = and_parts (is_digit d) (list_all is_digit es) k in
    let r = cut ds es x y p.1 q.1 f g (tails c d (ds ++ x) (es ++ y) e) in
    ((λ i. same i ∷ r.0 i), r.1)

-- two decimals with something else behind them
pub two_decimals : (m n : ℕ) (x y : List ℕ) → m < 2 ^ 32 → n < 2 ^ 32 → Ends x → Ends y → decimal m ++ x ≡ decimal n ++ y
    → (m ≡ n) × (x ≡ y)
two_decimals m n x y h k f g e =
    let r = cut (decimal m) (decimal n) x y (decimal_digits m h) (decimal_digits n k) f g e in
    (decimal_injective m n (omega (arith, h)) (omega (arith, k)) r.0, r.1)

-- ---- a step by its mark and number

abbrev pub mark : PathStep → ℕ
mark (To i) = 46
mark (Into k) = 47

abbrev pub number : PathStep → ℕ
number (To i) = i
number (Into k) = k

pub step_is : (step : PathStep) (x : List ℕ) → step_text step ++ x ≡ mark step ∷ (decimal (number step) ++ x)
step_is (To i) x = refl
step_is (Into k) x = refl

pub number_fits : (step : PathStep) → IsStep step → number step < 2 ^ 32
number_fits (To i) h = h
number_fits (Into k) h = h

mark_below : (step : PathStep) → mark step < 58
mark_below (To i) = omega arith
mark_below (Into k) = omega arith

-- a colon begins no step
pub colon_no_step : (step : PathStep) (x y : List ℕ) → 58 ∷ x ≡ step_text step ++ y → ⊥
colon_no_step step x y e =
    let same : 58 ≡ mark step = heads 58 (mark step) x (decimal (number step) ++ y) (e ∙ step_is step y) in
    omega (arith, same, mark_below step)

pub same_step : (s t : PathStep) → mark s ≡ mark t → number s ≡ number t → s ≡ t
same_step (To i) (To j) e f = ap To f
same_step (Into i) (Into j) e f = ap Into f
same_step (To i) (Into j) e f = absurd (omega (arith, e))
same_step (Into i) (To j) e f = absurd (omega (arith, e))

-- two steps with no digit behind them
pub two_steps : (s t : PathStep) (x y : List ℕ) → IsStep s → IsStep t → Ends x → Ends y → step_text s ++ x ≡ step_text t ++ y
    → (s ≡ t) × (x ≡ y)
two_steps s t x y h k f g e =
    let a = decimal (number s) ++ x in
    let b = decimal (number t) ++ y in
    let whole : mark s ∷ a ≡ mark t ∷ b = sym (step_is s x) ∙ e ∙ step_is t y in
    let r = two_decimals (number s) (number t) x y (number_fits s h) (number_fits t k) f g (tails (mark s) (mark t) a b whole) in
    (same_step s t (heads (mark s) (mark t) a b whole) r.0, r.1)

-- ---- paths

pub steps-cons : (step : PathStep) (path : List PathStep) (x : List ℕ)
    → flat_map step_text (step ∷ path) ++ x ≡ step_text step ++ (flat_map step_text path ++ x)
steps-cons step path x =
    ap (λ (l : List ℕ). l ++ x) (flat_map-cons step_text step path) ∙ append_assoc (step_text step) (flat_map step_text path) x

pub step_ends : (step : PathStep) (x : List ℕ) → Ends (step_text step ++ x)
step_ends (To i) x = refl
step_ends (Into k) x = refl

pub path_ends : (path : List PathStep) (x : List ℕ) → Ends (flat_map step_text path ++ 58 ∷ x)
path_ends [] x = refl
path_ends (step ∷ path) x =
    subst Ends (sym (steps-cons step path (58 ∷ x))) (step_ends step (flat_map step_text path ++ 58 ∷ x))

-- two paths with a colon behind them
pub two_paths : (p q : List PathStep) (x y : List ℕ) → AllByRecursion IsStep p → AllByRecursion IsStep q
    → flat_map step_text p ++ 58 ∷ x ≡ flat_map step_text q ++ 58 ∷ y → (p ≡ q) × (x ≡ y)
two_paths [] [] x y h k e = (refl, tails 58 58 x y e)
two_paths [] (t ∷ q) x y h k e =
    absurd (colon_no_step t x (flat_map step_text q ++ 58 ∷ y) (e ∙ steps-cons t q (58 ∷ y)))
two_paths (s ∷ p) [] x y h k e =
    absurd (colon_no_step s y (flat_map step_text p ++ 58 ∷ x) (sym e ∙ steps-cons s p (58 ∷ x)))
two_paths (s ∷ p) (t ∷ q) x y h k e =
    let f = sym (steps-cons s p (58 ∷ x)) ∙ e ∙ steps-cons t q (58 ∷ y) in
    let one = two_steps s t _ _ h.0 k.0 (path_ends p x) (path_ends q y) f in
    let rest = two_paths p q x y h.1 k.1 one.1 in
    ((λ i. one.0 i ∷ rest.0 i), rest.1)

-- ---- labels

regroup : (a b c d e f : List ℕ) → a ++ b ++ c ++ d ++ e ++ f ≡ a ++ (b ++ (c ++ (d ++ (e ++ f))))
regroup a b c d e f = simp append_assoc

pub branch_is : (contract : ℕ) (path : List PathStep) (party : List ℕ)
    → label_text (Branch contract path party) ≡ 66 ∷ (58 ∷ (decimal contract ++ (58 ∷ (path_text path ++ 58 ∷ party))))
unfolding label_text
branch_is contract path party =
    regroup (66 ∷ (58 ∷ [])) (decimal contract) (58 ∷ []) (path_text path) (58 ∷ []) party

pub deposit_is : (party : List ℕ) → label_text (Deposit party) ≡ 68 ∷ (58 ∷ party)
unfolding label_text
deposit_is party = refl

pub kinds_apart : (x y : List ℕ) → 68 ∷ (58 ∷ x) ≡ 66 ∷ (58 ∷ y) → ⊥
kinds_apart x y e = omega (arith, heads 68 66 (58 ∷ x) (58 ∷ y) e)

-- what stands behind the two first bytes
pub behind_both : (a : ℕ) (x y : List ℕ) → a ∷ (58 ∷ x) ≡ a ∷ (58 ∷ y) → x ≡ y
behind_both a x y e = tails 58 58 x y (tails a a (58 ∷ x) (58 ∷ y) e)
