-- Beyond the depth where every push has five bytes, the depth doesn't matter.
use Rattle.std.proofs.Common.{◌≡◌, ℕ, ◌+◌, ◌≤◌, ◌<◌, min, List, ◌⊎◌, inl, inr, refl, ap, arith}
use Rattle.std.proofs.lemmas.Bool.{cases_lt}
use Rattle.spec_terms.specs.Term.{Expr, constant, length_of, plus, minus, Pred, always, both, negation, equal, less}
use Rattle.spec_terms.specs.Cost.{push_len, place_in, formula_size, test_size}

push_len-five : (n : ℕ) → 8388608 ≤ n → push_len n ≡ 5
push_len-five n h = grind (arith, h)

formula_size-deep : (reveals : List (List ℕ)) (d e : ℕ) (f : Expr) → 8388608 ≤ d → 8388608 ≤ e → formula_size reveals d f ≡ formula_size reveals e f
formula_size-deep reveals d e (constant n) h k = refl
formula_size-deep reveals d e (length_of name) h k =
    rw (push_len-five (d + place_in reveals name) (omega (arith, h)), push_len-five (e + place_in reveals name) (omega (arith, k)))
formula_size-deep reveals d e (plus f g) h k =
    rw (formula_size-deep reveals d e f h k, formula_size-deep reveals (d + 1) (e + 1) g (omega (arith, h)) (omega (arith, k)))
formula_size-deep reveals d e (minus f g) h k =
    rw (formula_size-deep reveals d e f h k, formula_size-deep reveals (d + 1) (e + 1) g (omega (arith, h)) (omega (arith, k)))

test_size-deep : (reveals : List (List ℕ)) (d e : ℕ) (t : Pred) → 8388608 ≤ d → 8388608 ≤ e → test_size reveals d t ≡ test_size reveals e t
test_size-deep reveals d e always h k = refl
test_size-deep reveals d e (both p q) h k =
    rw (test_size-deep reveals d e p h k, test_size-deep reveals (d + 1) (e + 1) q (omega (arith, h)) (omega (arith, k)))
test_size-deep reveals d e (negation p) h k = rw (test_size-deep reveals d e p h k)
test_size-deep reveals d e (equal f g) h k =
    rw (formula_size-deep reveals d e f h k, formula_size-deep reveals (d + 1) (e + 1) g (omega (arith, h)) (omega (arith, k)))
test_size-deep reveals d e (less f g) h k =
    rw (formula_size-deep reveals d e f h k, formula_size-deep reveals (d + 1) (e + 1) g (omega (arith, h)) (omega (arith, k)))

module _ (reveals : List (List ℕ)) (d : ℕ) where
  -- one deeper, counted up to 8388608 only
  formula_by : (f : Expr) → (d + 1 < 8388608) ⊎ (8388608 ≤ d + 1) → formula_size reveals (min (d + 1) 8388608) f ≡ formula_size reveals (d + 1) f
  formula_by f (inr h) = formula_size-deep reveals (min (d + 1) 8388608) (d + 1) f (omega (arith, h)) h
  formula_by f (inl h) = ap (λ n. formula_size reveals n f) (omega (arith, h))

  pub formula_size_capped : (f : Expr) → formula_size reveals (min (d + 1) 8388608) f ≡ formula_size reveals (d + 1) f
  formula_size_capped f = formula_by f (cases_lt (d + 1) 8388608)

  test_by : (t : Pred) → (d + 1 < 8388608) ⊎ (8388608 ≤ d + 1) → test_size reveals (min (d + 1) 8388608) t ≡ test_size reveals (d + 1) t
  test_by t (inr h) = test_size-deep reveals (min (d + 1) 8388608) (d + 1) t (omega (arith, h)) h
  test_by t (inl h) = ap (λ n. test_size reveals n t) (omega (arith, h))

  pub test_size_capped : (t : Pred) → test_size reveals (min (d + 1) 8388608) t ≡ test_size reveals (d + 1) t
  test_size_capped t = test_by t (cases_lt (d + 1) 8388608)
