-- The canonical text of an expression or predicate spells it.
use Rattle.std.proofs.Common.{◌≡◌, ℕ, ◌≤◌, true, List, [], ◌∷◌, ◌++◌, refl, arith, inl, inr}
use Rattle.std.specs.Prelude.{nat_le}
use Rattle.std.proofs.lemmas.Bool.Decides.{nat_tests}
use Rattle.spec_terms.specs.Term.{Expr, constant, length_of, plus, minus, Pred, always, both, negation, equal, less}
use Rattle.spec_terms.specs.Readable.{greatest_constant, is_readable_formula, has_readable_formulas}
use Rattle.spec_text.specs.declared.token.Keyword.TheVariants as word
use Rattle.spec_text.specs.declared.token.Symbol.TheVariants as mark
use Rattle.spec_text.specs.declared.lexeme.Lexeme.{Lexeme}
use Rattle.spec_text.specs.declared.lexeme.Lexeme.TheVariants.{Keyword as keyword, Symbol as symbol, Name as name, Number as number}
use Rattle.spec_text.specs.Grammar.{SpellsFormula, SpellsTest, SpellsCondition}
use Rattle.spec_text.specs.Canonical.{formula_text, test_text, if_text}
use Rattle.theory_text.proofs.ListFacts.{and_left, and_right}
use Rattle.theory_text.proofs.Printed.Pieces.{Ends, Piece, nothing, open_ended, closed_then, piece_then}
use Rattle.theory_text.proofs.Printed.Marks.{after_space, left_paren, right_paren, left_bracket, right_bracket, bar, plus_spaced, minus_spaced, equal_spaced, less_spaced}
use Rattle.theory_text.proofs.Printed.WordPieces.{name_piece, true_piece, and_space, not_space, if_space}
use Rattle.theory_text.proofs.Printed.NumberPieces.{number_piece}

pub le_is : (m n : ℕ) → nat_le m n ≡ true → m ≤ n
le_is m n h = grind (arith, nat_tests)

-- ---- expressions

record FormulaSpelled (e : Expr) : Type 0 where
  tokens : List Lexeme
  piece : Piece (formula_text e) tokens
  spells : SpellsFormula tokens e

formula_spelled : (e : Expr) → is_readable_formula e ≡ true → FormulaSpelled e
formula_spelled (constant n) h = record { tokens = number n ∷ []; piece = number_piece n (omega (arith, le_is n greatest_constant h)); spells = refl }
formula_spelled (length_of x) h =
    record {
      tokens = symbol mark.Bar ∷ name x ∷ symbol mark.Bar
          ∷ [];
      piece = closed_then bar (piece_then (name_piece x h) (open_ended bar) refl);
      spells = refl;
    }
formula_spelled (plus e f) h =
    let s = formula_spelled e (and_left _ _ h) in
    let t = formula_spelled f (and_right _ _ h) in
    record {
      tokens = symbol mark.LeftParen ∷ (s.tokens ++ symbol mark.Plus ∷ (t.tokens ++ symbol mark.RightParen ∷ []));
      piece = closed_then left_paren (piece_then s.piece (closed_then plus_spaced (piece_then t.piece (open_ended right_paren) refl)) refl);
      spells = (s.tokens, t.tokens, refl, s.spells, t.spells);
    }
formula_spelled (minus e f) h =
    let s = formula_spelled e (and_left _ _ h) in
    let t = formula_spelled f (and_right _ _ h) in
    record {
      tokens = symbol mark.LeftParen ∷ (s.tokens ++ symbol mark.Minus ∷ (t.tokens ++ symbol mark.RightParen ∷ []));
      piece = closed_then left_paren (piece_then s.piece (closed_then minus_spaced (piece_then t.piece (open_ended right_paren) refl)) refl);
      spells = (s.tokens, t.tokens, refl, s.spells, t.spells);
    }

-- ---- predicates

record TestSpelled (p : Pred) : Type 0 where
  tokens : List Lexeme
  piece : Piece (test_text p) tokens
  spells : SpellsTest tokens p

test_spelled : (p : Pred) → has_readable_formulas p ≡ true → TestSpelled p
test_spelled always h = record { tokens = keyword word.True ∷ []; piece = true_piece; spells = refl }
test_spelled (both p q) h =
    let s = test_spelled p (and_left _ _ h) in
    let t = test_spelled q (and_right _ _ h) in
    record {
      tokens = symbol mark.LeftBracket ∷ (s.tokens ++ keyword word.And ∷ (t.tokens ++ symbol mark.RightBracket ∷ []));
      piece = closed_then left_bracket (piece_then s.piece (closed_then (after_space and_space) (piece_then t.piece (open_ended right_bracket) refl)) refl);
      spells = (s.tokens, t.tokens, refl, s.spells, t.spells);
    }
test_spelled (negation p) h =
    let s = test_spelled p h in
    record { tokens = keyword word.Not ∷ s.tokens; piece = closed_then not_space s.piece; spells = (s.tokens, refl, s.spells) }
test_spelled (equal e f) h =
    let s = formula_spelled e (and_left _ _ h) in
    let t = formula_spelled f (and_right _ _ h) in
    record {
      tokens = s.tokens ++ symbol mark.Equal
          ∷ t.tokens;
      piece = piece_then s.piece (closed_then equal_spaced t.piece) refl;
      spells = (s.tokens, t.tokens, refl, s.spells, t.spells);
    }
test_spelled (less e f) h =
    let s = formula_spelled e (and_left _ _ h) in
    let t = formula_spelled f (and_right _ _ h) in
    record {
      tokens = s.tokens ++ symbol mark.Less
          ∷ t.tokens;
      piece = piece_then s.piece (closed_then less_spaced t.piece) refl;
      spells = (s.tokens, t.tokens, refl, s.spells, t.spells);
    }

-- ---- conditions

pub record ConditionSpelled (p : Pred) : Type 0 where
  pub tokens : List Lexeme
  pub piece : Piece (if_text p) tokens
  pub ends : Ends (if_text p)
  pub spells : SpellsCondition tokens p

pub condition_spelled : (p : Pred) → has_readable_formulas p ≡ true → ConditionSpelled p
condition_spelled always h = record { tokens = []; piece = open_ended nothing; ends = tt; spells = inl (refl, refl) }
condition_spelled p h =
    let s = test_spelled p h in
    record { tokens = keyword word.If ∷ s.tokens; piece = closed_then (after_space if_space) s.piece; ends = refl; spells = inr (s.tokens, refl, s.spells) }
