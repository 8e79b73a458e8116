-- The quantities of marks without their places: those of expressions, predicates and headings.
use Rattle.std.proofs.Common.{◌≡◌, ℕ, suc, List, [], ◌∷◌, ◌++◌, length, refl, ap, sym, ◌∙◌, append_assoc, inl, inr}
use Rattle.std.specs.Prelude.{Some, None}
use Rattle.spec_terms.specs.Term.{Expr, constant, length_of, plus, minus, Pred, always, both, negation, equal, less}
use Rattle.spec_terms.specs.Readable.{most_depth}
use Rattle.spec_terms.specs.declared.limit.Limit.{Limit}
use Rattle.spec_terms.specs.declared.limit.Limit.TheVariants as limits
use Rattle.spec_text.specs.declared.token.Keyword.TheVariants as word
use Rattle.spec_text.specs.declared.token.Symbol.TheVariants as mark
use Rattle.spec_text.specs.declared.lexeme.Lexeme.{Lexeme}
use Rattle.spec_text.specs.declared.lexeme.Lexeme.TheVariants.{Keyword as keyword, Symbol as symbol}
use Rattle.spec_text.specs.Grammar.{SpellsFormula, SpellsTest, more_names, names, SpellsCondition, SpellsReveals}
use Rattle.theory_limits.specs.Awaited.{Awaited, this_symbol, this_word, a_name, operator, relation, formula, test, behind_put, behind_reveal, Next, next}
use Rattle.theory_limits.specs.Marks.{over, exceeded, came, Mark, marks_at, marks_here, marks_from}
use Rattle.theory_limits.specs.Statements.{quantities}
use Rattle.theory_limits.specs.Trees.{over_formula, over_pred}
use Rattle.theory_limits.proofs.SpelledTests.{two}

-- ---- without places

abbrev pub listed_here : Next → List Limit → (List Awaited → List Limit) → List Limit
listed_here None here behind = []
listed_here (Some new) here behind = here ++ behind new

-- the quantities that tokens exceed
abbrev pub listed : List Awaited → ℕ → List Lexeme → List Limit
listed awaited before [] = []
listed [] before (t ∷ ts) = []
listed (a ∷ as') before (t ∷ ts) = listed_here (next a t) (exceeded a before t ts) (λ new. listed (new ++ as') (came a t before) ts)

both_lists : (left : ℕ) (ws : List Limit) (ms : List Mark) → quantities (marks_at left ws ++ ms) ≡ ws ++ quantities ms
both_lists left [] ms = refl
both_lists left (w ∷ ws) ms = ap (λ (z : List Limit). w ∷ z) (both_lists left ws ms)

here_listed : (n : Next) (left : ℕ) (ws : List Limit) (f : List Awaited → List Mark) (g : List Awaited → List Limit)
    → ((new : List Awaited) → quantities (f new) ≡ g new)
    → quantities (marks_here n (marks_at left ws) f) ≡ listed_here n ws g
here_listed None left ws f g h = refl
here_listed (Some new) left ws f g h = both_lists left ws (f new) ∙ ap (λ (z : List Limit). ws ++ z) (h new)

pub listed_is : (awaited : List Awaited) (before : ℕ) (ts : List Lexeme)
    → quantities (marks_from awaited before ts) ≡ listed awaited before ts
listed_is awaited before [] = refl
listed_is [] before (t ∷ ts) = refl
listed_is (a ∷ as') before (t ∷ ts) =
    here_listed (next a t) (suc (length ts)) (exceeded a before t ts) (λ new. marks_from (new ++ as') (came a t before) ts)
    (λ new. listed (new ++ as') (came a t before) ts) (λ new. listed_is (new ++ as') (came a t before) ts)

-- ---- expressions

-- three lists in a row
pub three : (us vs ws more : List Limit) → us ++ (vs ++ (ws ++ more)) ≡ (us ++ (vs ++ ws)) ++ more
three us vs ws more = ap (λ (z : List Limit). us ++ z) (sym (append_assoc vs ws more)) ∙ sym (append_assoc us (vs ++ ws) more)

pub listed_formula : (e : Expr) (d : ℕ) (t : List Lexeme) → SpellsFormula t e → (more : List Awaited) (before : ℕ) (rest : List Lexeme)
    → listed (formula d ∷ more) before (t ++ rest) ≡ over_formula d e ++ listed more before rest
listed_formula (constant n) d t l more before rest = rw l refl
listed_formula (length_of x) d t l more before rest = rw l refl
listed_formula (plus e f) d t l more before rest =
    let tail = this_symbol mark.RightParen ∷ more in
    ap (λ (z : List Lexeme). listed (formula d ∷ more) before (z ++ rest)) l.2
    ∙ ap (λ (z : List Lexeme). over limits.Depth most_depth d ++ listed (formula (suc d) ∷ operator ∷ formula (suc d) ∷ tail) before z)
    (two (symbol mark.Plus) (symbol mark.RightParen) l.0 l.1 rest)
    ∙ ap (λ (z : List Limit). over limits.Depth most_depth d ++ z)
    (listed_formula e (suc d) l.0 l.3 (operator ∷ formula (suc d) ∷ tail) before
    (symbol mark.Plus ∷ (l.1 ++ symbol mark.RightParen ∷ rest))
    ∙ ap (λ (z : List Limit). over_formula (suc d) e ++ z) (listed_formula f (suc d) l.1 l.4 tail before (symbol mark.RightParen ∷ rest)))
    ∙ three (over limits.Depth most_depth d) (over_formula (suc d) e) (over_formula (suc d) f) (listed more before rest)
listed_formula (minus e f) d t l more before rest =
    let tail = this_symbol mark.RightParen ∷ more in
    ap (λ (z : List Lexeme). listed (formula d ∷ more) before (z ++ rest)) l.2
    ∙ ap (λ (z : List Lexeme). over limits.Depth most_depth d ++ listed (formula (suc d) ∷ operator ∷ formula (suc d) ∷ tail) before z)
    (two (symbol mark.Minus) (symbol mark.RightParen) l.0 l.1 rest)
    ∙ ap (λ (z : List Limit). over limits.Depth most_depth d ++ z)
    (listed_formula e (suc d) l.0 l.3 (operator ∷ formula (suc d) ∷ tail) before
    (symbol mark.Minus ∷ (l.1 ++ symbol mark.RightParen ∷ rest))
    ∙ ap (λ (z : List Limit). over_formula (suc d) e ++ z) (listed_formula f (suc d) l.1 l.4 tail before (symbol mark.RightParen ∷ rest)))
    ∙ three (over limits.Depth most_depth d) (over_formula (suc d) e) (over_formula (suc d) f) (listed more before rest)

-- ---- predicates

compared_lists : (e : Expr) (d : ℕ) (t : List Lexeme) → SpellsFormula t e → (more : List Awaited) (before : ℕ) (rest : List Lexeme)
    → listed (test d ∷ more) before (t ++ rest) ≡ listed (formula (suc d) ∷ relation ∷ formula (suc d) ∷ more) before (t ++ rest)
compared_lists (constant n) d t l more before rest = rw l refl
compared_lists (length_of x) d t l more before rest = rw l refl
compared_lists (plus e f) d t l more before rest = rw l.2 refl
compared_lists (minus e f) d t l more before rest = rw l.2 refl

-- a comparison by its relation
relation_lists : (c : Lexeme) (e f : Expr) (d : ℕ) (te tf : List Lexeme) → SpellsFormula te e → SpellsFormula tf f
    → (more : List Awaited) (before : ℕ) (rest : List Lexeme)
    → listed (relation ∷ formula (suc d) ∷ more) before (c ∷ (tf ++ rest)) ≡ listed (formula (suc d) ∷ more) before (tf ++ rest)
    → listed (test d ∷ more) before ((te ++ c ∷ tf) ++ rest) ≡ (over_formula (suc d) e ++ over_formula (suc d) f) ++ listed more before rest
relation_lists c e f d te tf l m more before rest h =
    ap (listed (test d ∷ more) before) (append_assoc te (c ∷ tf) rest) ∙ compared_lists e d te l more before (c ∷ (tf ++ rest))
    ∙ listed_formula e (suc d) te l (relation ∷ formula (suc d) ∷ more) before (c ∷ (tf ++ rest))
    ∙ ap (λ (z : List Limit). over_formula (suc d) e ++ z) (h ∙ listed_formula f (suc d) tf m more before rest)
    ∙ sym (append_assoc (over_formula (suc d) e) (over_formula (suc d) f) (listed more before rest))

pub listed_test : (p : Pred) (d : ℕ) (t : List Lexeme) → SpellsTest t p → (more : List Awaited) (before : ℕ) (rest : List Lexeme)
    → listed (test d ∷ more) before (t ++ rest) ≡ over_pred d p ++ listed more before rest
listed_test always d t l more before rest = rw l refl
listed_test (negation p) d t l more before rest =
    ap (λ (z : List Lexeme). listed (test d ∷ more) before (z ++ rest)) l.1
    ∙ ap (λ (z : List Limit). over limits.Depth most_depth d ++ z) (listed_test p (suc d) l.0 l.2 more before rest)
    ∙ sym (append_assoc (over limits.Depth most_depth d) (over_pred (suc d) p) (listed more before rest))
listed_test (both p q) d t l more before rest =
    let tail = this_symbol mark.RightBracket ∷ more in
    ap (λ (z : List Lexeme). listed (test d ∷ more) before (z ++ rest)) l.2
    ∙ ap (λ (z : List Lexeme). over limits.Depth most_depth d ++ listed (test (suc d) ∷ this_word word.And ∷ test (suc d) ∷ tail) before z)
    (two (keyword word.And) (symbol mark.RightBracket) l.0 l.1 rest)
    ∙ ap (λ (z : List Limit). over limits.Depth most_depth d ++ z)
    (listed_test p (suc d) l.0 l.3 (this_word word.And ∷ test (suc d) ∷ tail) before
    (keyword word.And ∷ (l.1 ++ symbol mark.RightBracket ∷ rest))
    ∙ ap (λ (z : List Limit). over_pred (suc d) p ++ z) (listed_test q (suc d) l.1 l.4 tail before (symbol mark.RightBracket ∷ rest)))
    ∙ three (over limits.Depth most_depth d) (over_pred (suc d) p) (over_pred (suc d) q) (listed more before rest)
listed_test (equal e f) d t l more before rest = ap (λ (z : List Lexeme). listed (test d ∷ more) before (z ++ rest)) l.2
    ∙ relation_lists (symbol mark.Equal) e f d l.0 l.1 l.3 l.4 more before rest refl
listed_test (less e f) d t l more before rest = ap (λ (z : List Lexeme). listed (test d ∷ more) before (z ++ rest)) l.2
    ∙ relation_lists (symbol mark.Less) e f d l.0 l.1 l.3 l.4 more before rest refl

-- ---- headings

put_names : (xs : List (List ℕ)) (more : List Awaited) (before : ℕ) (rest : List Lexeme)
    → listed (behind_put ∷ more) before (more_names xs ++ rest) ≡ listed (behind_put ∷ more) before rest
put_names [] more before rest = refl
put_names (x ∷ xs) more before rest = put_names xs more before rest

reveal_names : (xs : List (List ℕ)) (more : List Awaited) (before : ℕ) (rest : List Lexeme)
    → listed (behind_reveal ∷ more) before (more_names xs ++ rest) ≡ listed (behind_reveal ∷ more) before rest
reveal_names [] more before rest = refl
reveal_names (x ∷ xs) more before rest = reveal_names xs more before rest

listed_condition : (t : List Lexeme) (p : Pred) → SpellsCondition t p → (more : List Awaited) (before : ℕ) (rest : List Lexeme)
    → listed (behind_reveal ∷ more) before (t ++ symbol mark.Dot ∷ rest) ≡ over_pred 1 p ++ listed more before rest
listed_condition t p (inl w) more before rest = rw (w.0, w.1) refl
listed_condition t p (inr w) more before rest =
    ap (λ (z : List Lexeme). listed (behind_reveal ∷ more) before (z ++ symbol mark.Dot ∷ rest)) w.1 ∙ listed_test p 1 w.0 w.2
    (this_symbol mark.Dot ∷ more) before (symbol mark.Dot ∷ rest)

pub listed_reveals : (a : List ℕ) (as' : List (List ℕ)) (p : Pred) (tp : List Lexeme) → SpellsCondition tp p
    → (more : List Awaited) (before : ℕ) (rest : List Lexeme)
    → listed (a_name ∷ behind_reveal ∷ more) before ((names a as' ++ tp) ++ symbol mark.Dot ∷ rest)
    ≡ over_pred 1 p ++ listed more before rest
listed_reveals a as' p tp l more before rest =
    ap (listed (behind_reveal ∷ more) before) (append_assoc (more_names as') tp (symbol mark.Dot ∷ rest))
    ∙ reveal_names as' more before (tp ++ symbol mark.Dot ∷ rest) ∙ listed_condition tp p l more before rest

pub listed_puts : (x : List ℕ) (xs : List (List ℕ)) (more : List Awaited) (before : ℕ) (rest : List Lexeme)
    → listed (a_name ∷ behind_put ∷ more) before (names x xs ++ symbol mark.Dot ∷ rest) ≡ listed more before rest
listed_puts x xs more before rest = put_names xs more before (symbol mark.Dot ∷ rest)

pub listed_both : (x : List ℕ) (xs : List (List ℕ)) (a : List ℕ) (as' : List (List ℕ)) (p : Pred) (tr : List Lexeme)
    → SpellsReveals tr a as' p → (more : List Awaited) (before : ℕ) (rest : List Lexeme)
    → listed (a_name ∷ behind_put ∷ more) before ((names x xs ++ symbol mark.Ampersand ∷ tr) ++ symbol mark.Dot ∷ rest)
    ≡ over_pred 1 p ++ listed more before rest
listed_both x xs a as' p tr l more before rest =
    ap (listed (behind_put ∷ more) before) (append_assoc (more_names xs) (symbol mark.Ampersand ∷ tr) (symbol mark.Dot ∷ rest))
    ∙ put_names xs more before (symbol mark.Ampersand ∷ (tr ++ symbol mark.Dot ∷ rest))
    ∙ ap (λ (z : List Lexeme). listed (this_word word.Reveal ∷ a_name ∷ behind_reveal ∷ more) before (z ++ symbol mark.Dot ∷ rest)) l.1
    ∙ listed_reveals a as' p l.0 l.2 more before rest
