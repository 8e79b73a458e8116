-- The walk goes through what spells an expression, a predicate or a heading.
use Rattle.std.proofs.Common.{◌≡◌, ℕ, suc, List, [], ◌∷◌, ◌++◌, refl, ap, ◌∙◌, append_assoc, inl, inr}
use Rattle.spec_terms.specs.Term.{Expr, constant, length_of, plus, minus, Pred, always, both, negation, equal, less}
use Rattle.spec_text.specs.declared.token.Keyword.TheVariants as word
use Rattle.spec_text.specs.declared.token.Symbol.TheVariants as mark
use Rattle.spec_text.specs.declared.lexeme.Lexeme.{Lexeme}
use Rattle.spec_text.specs.declared.lexeme.Lexeme.TheVariants.{Keyword as keyword, Symbol as symbol}
use Rattle.spec_text.specs.Grammar.{SpellsFormula, SpellsTest, more_names, names, SpellsCondition, SpellsReveals}
use Rattle.theory_limits.specs.Awaited.{Awaited, this_symbol, this_word, a_name, operator, relation, formula, test, behind_put, behind_reveal}
use Rattle.theory_limits.specs.Marks.{end_from}

-- the walk goes from these parts through these tokens
abbrev pub Goes : List Awaited → List Lexeme → List Awaited → List Lexeme → Type 0
Goes as' t bs u = end_from as' t ≡ end_from bs u

-- two texts and what follows
pub two : (c d : Lexeme) (t u rest : List Lexeme) → (t ++ c ∷ (u ++ d ∷ [])) ++ rest ≡ t ++ c ∷ (u ++ d ∷ rest)
two c d t u rest = append_assoc t (c ∷ (u ++ d ∷ [])) rest ∙ ap (λ (z : List Lexeme). t ++ c ∷ z) (append_assoc u (d ∷ []) rest)

-- ---- expressions

pub spelled_formula : (e : Expr) (d : ℕ) (t : List Lexeme) → SpellsFormula t e → (more : List Awaited) (rest : List Lexeme)
    → Goes (formula d ∷ more) (t ++ rest) more rest
spelled_formula (constant n) d t l more rest = rw l refl
spelled_formula (length_of x) d t l more rest = rw l refl
spelled_formula (plus e f) d t l more rest =
    ap (λ (z : List Lexeme). end_from (formula d ∷ more) (z ++ rest)) l.2 ∙ ap
    (end_from (formula (suc d) ∷ operator ∷ formula (suc d) ∷ this_symbol mark.RightParen ∷ more))
    (two (symbol mark.Plus) (symbol mark.RightParen) l.0 l.1 rest)
    ∙ spelled_formula e (suc d) l.0 l.3 (operator ∷ formula (suc d) ∷ this_symbol mark.RightParen ∷ more)
    (symbol mark.Plus ∷ (l.1 ++ symbol mark.RightParen ∷ rest))
    ∙ spelled_formula f (suc d) l.1 l.4 (this_symbol mark.RightParen ∷ more) (symbol mark.RightParen ∷ rest)
spelled_formula (minus e f) d t l more rest =
    ap (λ (z : List Lexeme). end_from (formula d ∷ more) (z ++ rest)) l.2 ∙ ap
    (end_from (formula (suc d) ∷ operator ∷ formula (suc d) ∷ this_symbol mark.RightParen ∷ more))
    (two (symbol mark.Minus) (symbol mark.RightParen) l.0 l.1 rest)
    ∙ spelled_formula e (suc d) l.0 l.3 (operator ∷ formula (suc d) ∷ this_symbol mark.RightParen ∷ more)
    (symbol mark.Minus ∷ (l.1 ++ symbol mark.RightParen ∷ rest))
    ∙ spelled_formula f (suc d) l.1 l.4 (this_symbol mark.RightParen ∷ more) (symbol mark.RightParen ∷ rest)

-- ---- predicates

-- the first expression of a comparison
compared_goes : (e : Expr) (d : ℕ) (t : List Lexeme) → SpellsFormula t e → (more : List Awaited) (rest : List Lexeme)
    → Goes (test d ∷ more) (t ++ rest) (formula (suc d) ∷ relation ∷ formula (suc d) ∷ more) (t ++ rest)
compared_goes (constant n) d t l more rest = rw l refl
compared_goes (length_of x) d t l more rest = rw l refl
compared_goes (plus e f) d t l more rest = rw l.2 refl
compared_goes (minus e f) d t l more rest = rw l.2 refl

pub spelled_test : (p : Pred) (d : ℕ) (t : List Lexeme) → SpellsTest t p → (more : List Awaited) (rest : List Lexeme)
    → Goes (test d ∷ more) (t ++ rest) more rest
spelled_test always d t l more rest = rw l refl
spelled_test (negation p) d t l more rest = ap (λ (z : List Lexeme). end_from (test d ∷ more) (z ++ rest)) l.1
    ∙ spelled_test p (suc d) l.0 l.2 more rest
spelled_test (both p q) d t l more rest =
    ap (λ (z : List Lexeme). end_from (test d ∷ more) (z ++ rest)) l.2 ∙ ap
    (end_from (test (suc d) ∷ this_word word.And ∷ test (suc d) ∷ this_symbol mark.RightBracket ∷ more))
    (two (keyword word.And) (symbol mark.RightBracket) l.0 l.1 rest)
    ∙ spelled_test p (suc d) l.0 l.3 (this_word word.And ∷ test (suc d) ∷ this_symbol mark.RightBracket ∷ more)
    (keyword word.And ∷ (l.1 ++ symbol mark.RightBracket ∷ rest))
    ∙ spelled_test q (suc d) l.1 l.4 (this_symbol mark.RightBracket ∷ more) (symbol mark.RightBracket ∷ rest)
spelled_test (equal e f) d t l more rest =
    ap (λ (z : List Lexeme). end_from (test d ∷ more) (z ++ rest)) l.2 ∙ ap (end_from (test d ∷ more))
    (append_assoc l.0 (symbol mark.Equal ∷ l.1) rest)
    ∙ compared_goes e d l.0 l.3 more (symbol mark.Equal ∷ (l.1 ++ rest))
    ∙ spelled_formula e (suc d) l.0 l.3 (relation ∷ formula (suc d) ∷ more) (symbol mark.Equal ∷ (l.1 ++ rest))
    ∙ spelled_formula f (suc d) l.1 l.4 more rest
spelled_test (less e f) d t l more rest =
    ap (λ (z : List Lexeme). end_from (test d ∷ more) (z ++ rest)) l.2 ∙ ap (end_from (test d ∷ more))
    (append_assoc l.0 (symbol mark.Less ∷ l.1) rest)
    ∙ compared_goes e d l.0 l.3 more (symbol mark.Less ∷ (l.1 ++ rest))
    ∙ spelled_formula e (suc d) l.0 l.3 (relation ∷ formula (suc d) ∷ more) (symbol mark.Less ∷ (l.1 ++ rest))
    ∙ spelled_formula f (suc d) l.1 l.4 more rest

-- ---- headings

put_names : (xs : List (List ℕ)) (more : List Awaited) (rest : List Lexeme)
    → Goes (behind_put ∷ more) (more_names xs ++ rest) (behind_put ∷ more) rest
put_names [] more rest = refl
put_names (x ∷ xs) more rest = put_names xs more rest

reveal_names : (xs : List (List ℕ)) (more : List Awaited) (rest : List Lexeme)
    → Goes (behind_reveal ∷ more) (more_names xs ++ rest) (behind_reveal ∷ more) rest
reveal_names [] more rest = refl
reveal_names (x ∷ xs) more rest = reveal_names xs more rest

spelled_condition : (t : List Lexeme) (p : Pred) → SpellsCondition t p → (more : List Awaited) (rest : List Lexeme)
    → Goes (behind_reveal ∷ more) (t ++ symbol mark.Dot ∷ rest) more rest
spelled_condition t p (inl w) more rest = rw w.0 refl
spelled_condition t p (inr w) more rest = ap (λ (z : List Lexeme). end_from (behind_reveal ∷ more) (z ++ symbol mark.Dot ∷ rest)) w.1
    ∙ spelled_test p 1 w.0 w.2 (this_symbol mark.Dot ∷ more) (symbol mark.Dot ∷ rest)

-- what follows `reveal`
pub spelled_reveals : (a : List ℕ) (as' : List (List ℕ)) (p : Pred) (tp : List Lexeme) → SpellsCondition tp p
    → (more : List Awaited) (rest : List Lexeme)
    → Goes (a_name ∷ behind_reveal ∷ more) ((names a as' ++ tp) ++ symbol mark.Dot ∷ rest) more rest
spelled_reveals a as' p tp l more rest =
    ap (end_from (behind_reveal ∷ more)) (append_assoc (more_names as') tp (symbol mark.Dot ∷ rest))
    ∙ reveal_names as' more (tp ++ symbol mark.Dot ∷ rest) ∙ spelled_condition tp p l more rest

-- what follows `put` without a reveal
pub spelled_puts : (x : List ℕ) (xs : List (List ℕ)) (more : List Awaited) (rest : List Lexeme)
    → Goes (a_name ∷ behind_put ∷ more) (names x xs ++ symbol mark.Dot ∷ rest) more rest
spelled_puts x xs more rest = put_names xs more (symbol mark.Dot ∷ rest)

-- what follows `put` with a reveal
pub spelled_both : (x : List ℕ) (xs : List (List ℕ)) (a : List ℕ) (as' : List (List ℕ)) (p : Pred) (tr : List Lexeme)
    → SpellsReveals tr a as' p → (more : List Awaited) (rest : List Lexeme)
    → Goes (a_name ∷ behind_put ∷ more) ((names x xs ++ symbol mark.Ampersand ∷ tr) ++ symbol mark.Dot ∷ rest) more rest
spelled_both x xs a as' p tr l more rest =
    ap (end_from (behind_put ∷ more)) (append_assoc (more_names xs) (symbol mark.Ampersand ∷ tr) (symbol mark.Dot ∷ rest))
    ∙ put_names xs more (symbol mark.Ampersand ∷ (tr ++ symbol mark.Dot ∷ rest))
    ∙ ap (λ (z : List Lexeme). end_from (this_word word.Reveal ∷ a_name ∷ behind_reveal ∷ more) (z ++ symbol mark.Dot ∷ rest)) l.1
    ∙ spelled_reveals a as' p l.0 l.2 more rest
