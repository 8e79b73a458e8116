-- The symbols of Base64 and their values.
use Rattle.std.proofs.Common.{◌≡◌, ℕ, ◌<◌, Bool, true, false, Option, Some, None, refl, sym, ap, ◌∙◌}
use Rattle.std.specs.Prelude.{◌==◌}
use Rattle.std.proofs.lemmas.Bool.{eqb-true}
use Rattle.std.proofs.lemmas.List.Quantifiers.{position-Some}
use Rattle.base64.specs.Tables.{all_below}
use Rattle.base64.proofs.Tables.{all_below_at}
use Rattle.spec_tool.specs.Base64.{symbols, padding, symbol_of, value_of}

abbrev pub some : {A : Type 0} → A → Option A
some x = Some x

pub some_is : {A : Type 0} (x y : A) → some x ≡ some y → x ≡ y
some_is x y h = cc

-- ---- a symbol's value

abbrev is_value : ℕ → Option ℕ → Bool
is_value v None = false
is_value v (Some w) = w == v

are_values : all_below (λ v. is_value v (value_of (symbol_of v))) 64 ≡ true
are_values = refl

is_some : (v : ℕ) (o : Option ℕ) → is_value v o ≡ true → o ≡ Some v
is_some v None h = absurd cc
is_some v (Some w) h = ap some (eqb-true w v h)

pub value_of_symbol : (v : ℕ) → v < 64 → value_of (symbol_of v) ≡ Some v
value_of_symbol v h = is_some v (value_of (symbol_of v)) (all_below_at (λ v. is_value v (value_of (symbol_of v))) 64 v are_values h)

-- ---- the padding is no symbol

padding_has_none : value_of padding ≡ None
padding_has_none = refl

test_is : (t : Bool) → (t ≡ true → ⊥) → t ≡ false
test_is true h = absurd (h refl)
test_is false h = refl

pub no_padding : (v : ℕ) → v < 64 → (symbol_of v == padding) ≡ false
no_padding v h = test_is (symbol_of v == padding) (λ e.
    let a : symbol_of v ≡ padding = eqb-true (symbol_of v) padding e in
    let b : some v ≡ None = sym (value_of_symbol v h) ∙ (ap value_of a ∙ padding_has_none) in
    absurd cc)

-- ---- what has a value is its symbol

pub record IsSymbol (c v : ℕ) : Type 0 where
  pub small : v < 64
  pub is : symbol_of v ≡ c

pub symbol_of_value : (c v : ℕ) → value_of c ≡ Some v → IsSymbol c v
symbol_of_value c v h =
    let p = position-Some (λ s. s == c) symbols v 0 h in
    record { small = p.0; is = eqb-true (symbol_of v) c (p.1) }
