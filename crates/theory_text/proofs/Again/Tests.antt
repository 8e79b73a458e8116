-- Expressions and predicates that are within the limits are read, whatever follows.
use Rattle.std.proofs.Common.{◌≡◌, ℕ, zero, suc, ◌+◌, ◌≤◌, true, List, [], ◌∷◌, ◌++◌, Ok, refl, ap, ◌∙◌, append_assoc, arith}
use Rattle.std.specs.Prelude.{max, nat_le, ◌&&◌}
use Rattle.std.proofs.Math.Nat.{le-max_left, le-max_right}
use Rattle.std.proofs.lemmas.Bool.{leb-true}
use Rattle.spec_terms.specs.Term.{Expr, constant, length_of, plus, minus, Pred, always, both, negation, equal, less}
use Rattle.spec_terms.specs.Readable.{most_depth, formula_depth, test_depth, is_readable_formula, has_readable_formulas, is_readable_test}
use Rattle.spec_text.specs.declared.token.Keyword.TheVariants as word
use Rattle.spec_text.specs.declared.token.Symbol.TheVariants as mark
use Rattle.spec_text.specs.declared.lexeme.Lexeme.{Lexeme}
use Rattle.spec_text.specs.declared.lexeme.Lexeme.TheVariants.{Keyword as keyword, Symbol as symbol}
use Rattle.spec_text.specs.Grammar.{SpellsFormula, SpellsTest}
use Rattle.spec_text.specs.ReadTest.{constant_at, length_at, formula_at, comparison_at, test_at}
use Rattle.theory_text.proofs.ListFacts.{and_left, and_right}
use Rattle.theory_text.proofs.Told.Formulas.{formula_nothing, formula_first}

-- both are within what the greater is within
max_parts : (a b d : ℕ) → max a b + 1 ≤ suc d → (a ≤ d) × (b ≤ d)
max_parts a b d h =
    let p = le-max_left a b in
    let q = le-max_right a b in
    (omega (arith, p), omega (arith, q))

-- ---- expressions

some_depth : (a : Expr) → 1 ≤ formula_depth a
some_depth (constant n) = omega arith
some_depth (length_of x) = omega arith
some_depth (plus e f) = omega arith
some_depth (minus e f) = omega arith

formula_again : (a : Expr) (d : ℕ) (t rest : List Lexeme) → SpellsFormula t a → is_readable_formula a ≡ true → formula_depth a ≤ d
    → formula_at d (t ++ rest) ≡ Ok (a, rest)
unfolding formula_at constant_at length_at
formula_again a zero t rest l h le = let k = some_depth a in absurd (omega (arith, k))
formula_again (constant n) (suc d) t rest l h le = ap (λ (u : List Lexeme). formula_at (suc d) (u ++ rest)) l ∙ rw h refl
formula_again (length_of x) (suc d) t rest l h le = ap (λ (u : List Lexeme). formula_at (suc d) (u ++ rest)) l ∙ refl
formula_again (plus e f) (suc d) t rest l h le =
    let m = max_parts (formula_depth e) (formula_depth f) d le in
    let is : t ++ rest ≡ symbol mark.LeftParen ∷ (l.0 ++ (symbol mark.Plus ∷ (l.1 ++ (symbol mark.RightParen ∷ rest)))) =
    ap (λ (u : List Lexeme). u ++ rest) l.2 ∙ ap (λ (u : List Lexeme). symbol mark.LeftParen ∷ u) (simp append_assoc) in
    let one = formula_again e d l.0 (symbol mark.Plus ∷ (l.1 ++ (symbol mark.RightParen ∷ rest))) l.3 (and_left _ _ h) m.0 in
    let two = formula_again f d l.1 (symbol mark.RightParen ∷ rest) l.4 (and_right (is_readable_formula e) _ h) m.1 in
    ap (formula_at (suc d)) is ∙ rw (one, two) refl
formula_again (minus e f) (suc d) t rest l h le =
    let m = max_parts (formula_depth e) (formula_depth f) d le in
    let is : t ++ rest ≡ symbol mark.LeftParen ∷ (l.0 ++ (symbol mark.Minus ∷ (l.1 ++ (symbol mark.RightParen ∷ rest)))) =
    ap (λ (u : List Lexeme). u ++ rest) l.2 ∙ ap (λ (u : List Lexeme). symbol mark.LeftParen ∷ u) (simp append_assoc) in
    let one = formula_again e d l.0 (symbol mark.Minus ∷ (l.1 ++ (symbol mark.RightParen ∷ rest))) l.3 (and_left _ _ h) m.0 in
    let two = formula_again f d l.1 (symbol mark.RightParen ∷ rest) l.4 (and_right (is_readable_formula e) _ h) m.1 in
    ap (formula_at (suc d)) is ∙ rw (one, two) refl

-- ---- predicates

some_test_depth : (p : Pred) → 1 ≤ test_depth p
some_test_depth always = omega arith
some_test_depth (both p q) = omega arith
some_test_depth (negation p) = omega arith
some_test_depth (equal e f) = omega arith
some_test_depth (less e f) = omega arith

-- a comparison begins with no word
compared_at : (d : ℕ) (te u : List Lexeme) (e : Expr) → SpellsFormula te e → test_at (suc d) (te ++ u) ≡ comparison_at d (te ++ u)
unfolding test_at
compared_at d [] u e l = absurd (formula_nothing e l)
compared_at d (keyword word.True ∷ te) u e l = absurd (formula_first (keyword word.True) te e l refl)
compared_at d (keyword word.Not ∷ te) u e l = absurd (formula_first (keyword word.Not) te e l refl)
compared_at d (symbol mark.LeftBracket ∷ te) u e l = absurd (formula_first (symbol mark.LeftBracket) te e l refl)
compared_at d (c ∷ te) u e l = refl

equal_again : (e f : Expr) (d : ℕ) (te tf rest : List Lexeme) → SpellsFormula te e → SpellsFormula tf f
    → (is_readable_formula e && is_readable_formula f) ≡ true → max (formula_depth e) (formula_depth f) + 1 ≤ suc d
    → comparison_at d (te ++ symbol mark.Equal ∷ (tf ++ rest)) ≡ Ok (equal e f, rest)
unfolding comparison_at
equal_again e f d te tf rest l k h le =
    let m = max_parts (formula_depth e) (formula_depth f) d le in
    let one = formula_again e d te (symbol mark.Equal ∷ (tf ++ rest)) l (and_left _ _ h) m.0 in
    let two = formula_again f d tf rest k (and_right (is_readable_formula e) _ h) m.1 in
    rw (one, two) refl

less_again : (e f : Expr) (d : ℕ) (te tf rest : List Lexeme) → SpellsFormula te e → SpellsFormula tf f
    → (is_readable_formula e && is_readable_formula f) ≡ true → max (formula_depth e) (formula_depth f) + 1 ≤ suc d
    → comparison_at d (te ++ symbol mark.Less ∷ (tf ++ rest)) ≡ Ok (less e f, rest)
unfolding comparison_at
less_again e f d te tf rest l k h le =
    let m = max_parts (formula_depth e) (formula_depth f) d le in
    let one = formula_again e d te (symbol mark.Less ∷ (tf ++ rest)) l (and_left _ _ h) m.0 in
    let two = formula_again f d tf rest k (and_right (is_readable_formula e) _ h) m.1 in
    rw (one, two) refl

deep_again : (p : Pred) (d : ℕ) (t rest : List Lexeme) → SpellsTest t p → has_readable_formulas p ≡ true → test_depth p ≤ d
    → test_at d (t ++ rest) ≡ Ok (p, rest)
unfolding test_at
deep_again p zero t rest l h le = let k = some_test_depth p in absurd (omega (arith, k))
deep_again always (suc d) t rest l h le = ap (λ (u : List Lexeme). test_at (suc d) (u ++ rest)) l ∙ refl
deep_again (negation p) (suc d) t rest l h le =
    let one = deep_again p d l.0 rest l.2 h (omega arith) in
    ap (λ (u : List Lexeme). test_at (suc d) (u ++ rest)) l.1 ∙ rw one refl
deep_again (both p q) (suc d) t rest l h le =
    let m = max_parts (test_depth p) (test_depth q) d le in
    let is : t ++ rest ≡ symbol mark.LeftBracket ∷ (l.0 ++ (keyword word.And ∷ (l.1 ++ (symbol mark.RightBracket ∷ rest)))) =
    ap (λ (u : List Lexeme). u ++ rest) l.2 ∙ ap (λ (u : List Lexeme). symbol mark.LeftBracket ∷ u) (simp append_assoc) in
    let one = deep_again p d l.0 (keyword word.And ∷ (l.1 ++ (symbol mark.RightBracket ∷ rest))) l.3 (and_left _ _ h) m.0 in
    let two = deep_again q d l.1 (symbol mark.RightBracket ∷ rest) l.4 (and_right (has_readable_formulas p) _ h) m.1 in
    ap (test_at (suc d)) is ∙ rw (one, two) refl
deep_again (equal e f) (suc d) t rest l h le =
    let is : t ++ rest ≡ l.0 ++ symbol mark.Equal ∷ (l.1 ++ rest) = ap (λ (u : List Lexeme). u ++ rest) l.2 ∙ append_assoc l.0 (symbol mark.Equal ∷ l.1) rest in
    ap (test_at (suc d)) is ∙ compared_at d l.0 (symbol mark.Equal ∷ (l.1 ++ rest)) e l.3 ∙ equal_again e f d l.0 l.1 rest l.3 l.4 h le
deep_again (less e f) (suc d) t rest l h le =
    let is : t ++ rest ≡ l.0 ++ symbol mark.Less ∷ (l.1 ++ rest) = ap (λ (u : List Lexeme). u ++ rest) l.2 ∙ append_assoc l.0 (symbol mark.Less ∷ l.1) rest in
    ap (test_at (suc d)) is ∙ compared_at d l.0 (symbol mark.Less ∷ (l.1 ++ rest)) e l.3 ∙ less_again e f d l.0 l.1 rest l.3 l.4 h le

-- a predicate that is within the limits is read, whatever follows
pub test_again : (p : Pred) (t rest : List Lexeme) → SpellsTest t p → is_readable_test p ≡ true → test_at most_depth (t ++ rest) ≡ Ok (p, rest)
test_again p t rest l h =
    deep_again p most_depth t rest l (and_right (nat_le (test_depth p) most_depth) _ h) (leb-true (test_depth p) most_depth (and_left _ _ h))
