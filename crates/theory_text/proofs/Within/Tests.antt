-- The expressions and predicates that are read are within the limits of the reader.
use Rattle.std.proofs.Common.{◌≡◌, ℕ, zero, suc, ◌≤◌, Bool, true, false, List, [], ◌∷◌, refl, arith}
use Rattle.spec_terms.specs.Term.{Expr, Pred, both}
use Rattle.spec_terms.specs.Readable.{greatest_constant, formula_depth, test_depth, is_readable_formula, has_readable_formulas}
use Rattle.spec_text.specs.declared.token.Keyword.TheVariants as word
use Rattle.spec_text.specs.declared.token.Symbol.TheVariants as mark
use Rattle.spec_text.specs.declared.lexeme.Lexeme.{Lexeme}
use Rattle.spec_text.specs.declared.lexeme.Lexeme.TheVariants.{Keyword as keyword, Symbol as symbol, Number as number, HugeNumber as huge_number}
use Rattle.spec_text.specs.Reading.{a_symbol, a_keyword}
use Rattle.spec_text.specs.ReadTest.{a_sign, signed, constant_at, length_at, formula_at, a_relation, related, comparison_at, test_at}
use Rattle.theory_text.proofs.ListFacts.{and_is}
use Rattle.theory_text.proofs.Within.LexemeNames.{HaveNames}
use Rattle.theory_text.proofs.Within.ReadWithin.{Within, within_then, Any, mark_within, IsName, name_within, IsAtMost, number_within}

-- ---- expressions

-- at most so many nodes on one way, with names and constants that may be
pub record FormulaWithin (d : ℕ) (e : Expr) : Type 0 where
  pub depth : formula_depth e ≤ d
  pub readable : is_readable_formula e ≡ true

constant_within : (d : ℕ) (ts : List Lexeme) → HaveNames ts → Within (FormulaWithin (suc d)) (constant_at ts)
unfolding constant_at
constant_within d ts h = within_then (IsAtMost greatest_constant) (FormulaWithin (suc d)) _ _ (number_within greatest_constant ts h)
    (λ n us small k. (record { depth = omega arith; readable = small }, k))

length_within : (d : ℕ) (ts : List Lexeme) → HaveNames ts → Within (FormulaWithin (suc d)) (length_at ts)
unfolding length_at
length_within d ts h =
    within_then IsName (FormulaWithin (suc d)) _ _ (name_within ts h) (λ x us is k.
    within_then Any (FormulaWithin (suc d)) _ _ (mark_within (a_symbol mark.Bar) us k) (λ t vs y l.
    (record { depth = omega arith; readable = is }, l)))

signed_within : (d : ℕ) (sign : Bool) (e f : Expr) → FormulaWithin d e → FormulaWithin d f → FormulaWithin (suc d) (signed sign e f)
signed_within d true e f g h = record { depth = omega (arith, g.depth, h.depth); readable = and_is _ _ g.readable h.readable }
signed_within d false e f g h = record { depth = omega (arith, g.depth, h.depth); readable = and_is _ _ g.readable h.readable }

pub formula_within : (d : ℕ) (ts : List Lexeme) → HaveNames ts → Within (FormulaWithin d) (formula_at d ts)
unfolding formula_at
formula_within d [] h = tt
formula_within zero (t ∷ ts) h = tt
formula_within (suc d) (number n ∷ ts) h = constant_within d (number n ∷ ts) h
formula_within (suc d) (huge_number ∷ ts) h = constant_within d (huge_number ∷ ts) h
formula_within (suc d) (symbol mark.Bar ∷ ts) h = length_within d ts h.1
formula_within (suc d) (symbol mark.LeftParen ∷ ts) h =
    within_then (FormulaWithin d) (FormulaWithin (suc d)) _ _ (formula_within d ts h.1) (λ e us g k.
    within_then Any (FormulaWithin (suc d)) _ _ (mark_within a_sign us k) (λ sign vs y l.
    within_then (FormulaWithin d) (FormulaWithin (suc d)) _ _ (formula_within d vs l) (λ f ws i m.
    within_then Any (FormulaWithin (suc d)) _ _ (mark_within (a_symbol mark.RightParen) ws m) (λ c xs z n.
    (signed_within d sign e f g i, n)))))
formula_within (suc d) (t ∷ ts) h = tt

-- ---- predicates

pub record TestWithin (d : ℕ) (p : Pred) : Type 0 where
  pub depth : test_depth p ≤ d
  pub readable : has_readable_formulas p ≡ true

related_within : (d : ℕ) (relation : Bool) (e f : Expr) → FormulaWithin d e → FormulaWithin d f → TestWithin (suc d) (related relation e f)
related_within d true e f g h = record { depth = omega (arith, g.depth, h.depth); readable = and_is _ _ g.readable h.readable }
related_within d false e f g h = record { depth = omega (arith, g.depth, h.depth); readable = and_is _ _ g.readable h.readable }

comparison_within : (d : ℕ) (ts : List Lexeme) → HaveNames ts → Within (TestWithin (suc d)) (comparison_at d ts)
unfolding comparison_at
comparison_within d ts h =
    within_then (FormulaWithin d) (TestWithin (suc d)) _ _ (formula_within d ts h) (λ e us g k.
    within_then Any (TestWithin (suc d)) _ _ (mark_within a_relation us k) (λ relation vs y l.
    within_then (FormulaWithin d) (TestWithin (suc d)) _ _ (formula_within d vs l) (λ f ws i m.
    (related_within d relation e f g i, m))))

both_within : (d : ℕ) (p q : Pred) → TestWithin d p → TestWithin d q → TestWithin (suc d) (both p q)
both_within d p q g h = record { depth = omega (arith, g.depth, h.depth); readable = and_is _ _ g.readable h.readable }

pub test_within : (d : ℕ) (ts : List Lexeme) → HaveNames ts → Within (TestWithin d) (test_at d ts)
unfolding test_at
test_within d [] h = tt
test_within zero (t ∷ ts) h = tt
test_within (suc d) (keyword word.True ∷ ts) h = (record { depth = omega arith; readable = refl }, h.1)
test_within (suc d) (keyword word.Not ∷ ts) h =
    within_then (TestWithin d) (TestWithin (suc d)) _ _ (test_within d ts h.1) (λ p us g k.
    (record { depth = omega (arith, g.depth); readable = g.readable }, k))
test_within (suc d) (symbol mark.LeftBracket ∷ ts) h =
    within_then (TestWithin d) (TestWithin (suc d)) _ _ (test_within d ts h.1) (λ p us g k.
    within_then Any (TestWithin (suc d)) _ _ (mark_within (a_keyword word.And) us k) (λ w vs y l.
    within_then (TestWithin d) (TestWithin (suc d)) _ _ (test_within d vs l) (λ q ws i m.
    within_then Any (TestWithin (suc d)) _ _ (mark_within (a_symbol mark.RightBracket) ws m) (λ c xs z n.
    (both_within d p q g i, n)))))
test_within (suc d) (t ∷ ts) h = comparison_within d (t ∷ ts) h
