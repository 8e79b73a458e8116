-- The walk over expressions and predicates.
use Rattle.std.proofs.Common.{◌≡◌, ℕ, zero, suc, ◌+◌, ◌≤◌, Bool, true, false, List, [], ◌∷◌, None, refl, ◌∙◌, arith, inl, inr}
use Rattle.std.specs.Prelude.{nat_le}
use Rattle.std.proofs.lemmas.Bool.Decides.{leb_tells}
use Rattle.spec_terms.specs.Term.{length_of, both, negation}
use Rattle.spec_terms.specs.Readable.{greatest_constant, most_depth}
use Rattle.spec_text.specs.declared.token.Keyword.{Keyword}
use Rattle.spec_text.specs.declared.token.Symbol.{Symbol}
use Rattle.spec_text.specs.declared.token.Keyword.TheVariants as word
use Rattle.spec_text.specs.declared.token.Symbol.TheVariants as mark
use Rattle.spec_text.specs.declared.lexeme.Lexeme.{Lexeme}
use Rattle.spec_text.specs.declared.lexeme.Lexeme.TheVariants.{Keyword as keyword, Symbol as symbol, Number as number}
use Rattle.spec_text.specs.ReadTest.{signed, constant_at, length_at, formula_at, related, comparison_at, test_at}
use Rattle.theory_limits.specs.Awaited.{Awaited, next_test, this_symbol, this_word, operator, relation, formula, test}
use Rattle.theory_limits.specs.Awaited.{a_name as some_name}
use Rattle.theory_limits.proofs.Judged.{judged, followed, Walks, walks_none, walks_seq}
use Rattle.theory_limits.proofs.Tokens.{walks_symbol, walks_word, walks_name, walks_operator, walks_relation}

-- ---- numbers within and above what may be

pub within : (n most : ℕ) → n ≤ most → nat_le n most ≡ true
within n most h = elim (leb_tells n most) [ inl w ↦ w.0 | inr w ↦ absurd (omega (arith, w.1)) ]

pub above : (n most : ℕ) → suc most ≤ n → nat_le n most ≡ false
above n most h = elim (leb_tells n most) [ inl w ↦ absurd (omega (arith, w.1)) | inr w ↦ w.0 ]

-- ---- expressions

length_walks : Walks (some_name ∷ this_symbol mark.Bar ∷ []) length_at
unfolding length_at
length_walks = walks_seq walks_name (λ x. walks_seq (walks_symbol mark.Bar) (λ e. walks_none (length_of x)))

number_by : (d n : ℕ) (more : List Awaited) (before : ℕ) (ts : List Lexeme) (b : Bool) → nat_le n greatest_constant ≡ b
    → nat_le d most_depth ≡ true
    → judged (formula d ∷ more) before (number n ∷ ts) ≡ followed (constant_at (number n ∷ ts)) (judged more before)
unfolding constant_at
number_by d n more before ts true e h = rw (e, h) refl
number_by d n more before ts false e h = rw e refl

deep_number : (d n : ℕ) (more : List Awaited) (before : ℕ) (ts : List Lexeme) (b : Bool) → nat_le n greatest_constant ≡ b
    → nat_le d most_depth ≡ false
    → judged (formula d ∷ more) before (number n ∷ ts) ≡ followed (formula_at zero (number n ∷ ts)) (judged more before)
unfolding formula_at
deep_number d n more before ts true e h = rw (e, h) refl
deep_number d n more before ts false e h = rw e refl

deep_formula : (d : ℕ) (more : List Awaited) (before : ℕ) (ts : List Lexeme) → nat_le d most_depth ≡ false
    → judged (formula d ∷ more) before ts ≡ followed (formula_at zero ts) (judged more before)
unfolding formula_at
deep_formula d more before [] h = refl
deep_formula d more before (number n ∷ ts) h = deep_number d n more before ts (nat_le n greatest_constant) refl h
deep_formula d more before (symbol mark.Bar ∷ ts) h = rw h refl
deep_formula d more before (symbol mark.LeftParen ∷ ts) h = rw h refl
deep_formula d more before (t ∷ ts) h = refl

-- what stands between the brackets of an expression, and the bracket that closes
formula_rest : (d k : ℕ) → Walks (formula (suc d) ∷ []) (formula_at k)
    → Walks (formula (suc d) ∷ operator ∷ formula (suc d) ∷ this_symbol mark.RightParen ∷ [])
    (λ ts. formula_at (suc k) (symbol mark.LeftParen ∷ ts))
unfolding formula_at
formula_rest d k w =
    walks_seq w
    (λ e. walks_seq walks_operator (λ o. walks_seq w (λ f. walks_seq (walks_symbol mark.RightParen) (λ c. walks_none (signed o e f)))))

shallow : (k d : ℕ) (more : List Awaited) (before : ℕ) (ts : List Lexeme) → Walks (formula (suc d) ∷ []) (formula_at k)
    → nat_le d most_depth ≡ true → judged (formula d ∷ more) before ts ≡ followed (formula_at (suc k) ts) (judged more before)
unfolding formula_at constant_at
shallow k d more before [] w le = refl
shallow k d more before (number n ∷ ts) w le = number_by d n more before ts (nat_le n greatest_constant) refl le
shallow k d more before (symbol mark.Bar ∷ ts) w le = rw le (length_walks.goes more before ts)
shallow k d more before (symbol mark.LeftParen ∷ ts) w le = rw le ((formula_rest d k w).goes more before ts)
shallow k d more before (t ∷ ts) w le = refl

formula_goes : (k d : ℕ) (more : List Awaited) (before : ℕ) (ts : List Lexeme) → d + k ≡ suc most_depth
    → judged (formula d ∷ more) before ts ≡ followed (formula_at k ts) (judged more before)
formula_goes zero d more before ts h = deep_formula d more before ts (above d most_depth (omega arith))
formula_goes (suc k) d more before ts h =
    shallow k d more before ts (record { goes = λ m b u. formula_goes k (suc d) m b u (omega arith) }) (within d most_depth (omega arith))

pub walks_formula : (k d : ℕ) → d + k ≡ suc most_depth → Walks (formula d ∷ []) (formula_at k)
walks_formula k d h = record { goes = λ more before ts. formula_goes k d more before ts h }

-- ---- predicates

comparison_walks : (k d : ℕ) → d + suc k ≡ suc most_depth → Walks (formula (suc d) ∷ relation ∷ formula (suc d) ∷ []) (comparison_at k)
unfolding comparison_at
comparison_walks k d h =
    walks_seq (walks_formula k (suc d) (omega arith))
    (λ e. walks_seq walks_relation (λ o. walks_seq (walks_formula k (suc d) (omega arith)) (λ f. walks_none (related o e f))))

-- a token with which only other predicates than comparisons begin
abbrev is_word : Lexeme → Bool
is_word (keyword k) = true
is_word (symbol mark.LeftBracket) = true
is_word t = false

number_is : (d n : ℕ) (more : List Awaited) (before : ℕ) (ts : List Lexeme) (x y : Bool) → nat_le n greatest_constant ≡ x
    → nat_le (suc d) most_depth ≡ y
    → judged (test d ∷ more) before (number n ∷ ts) ≡ judged (formula (suc d) ∷ relation ∷ formula (suc d) ∷ more) before (number n ∷ ts)
number_is d n more before ts true true e h = rw (e, h) refl
number_is d n more before ts true false e h = rw (e, h) refl
number_is d n more before ts false y e h = rw e refl

mark_is : (d : ℕ) (s : Symbol) (more : List Awaited) (before : ℕ) (ts : List Lexeme) (y : Bool) → nat_le (suc d) most_depth ≡ y
    → is_word (symbol s) ≡ false
    → judged (test d ∷ more) before (symbol s ∷ ts) ≡ judged (formula (suc d) ∷ relation ∷ formula (suc d) ∷ more) before (symbol s ∷ ts)
mark_is d mark.Bar more before ts true e h = rw e refl
mark_is d mark.Bar more before ts false e h = rw e refl
mark_is d mark.LeftParen more before ts true e h = rw e refl
mark_is d mark.LeftParen more before ts false e h = rw e refl
mark_is d mark.LeftBracket more before ts y e h = absurd cc
mark_is d s more before ts y e h = refl

-- Where a comparison begins, the walk goes on as from its first expression.
compared_is : (d : ℕ) (more : List Awaited) (before : ℕ) (t : Lexeme) (ts : List Lexeme) → is_word t ≡ false
    → judged (test d ∷ more) before (t ∷ ts) ≡ judged (formula (suc d) ∷ relation ∷ formula (suc d) ∷ more) before (t ∷ ts)
compared_is d more before (keyword k) ts h = absurd cc
compared_is d more before (symbol s) ts h = mark_is d s more before ts (nat_le (suc d) most_depth) refl h
compared_is d more before (number n) ts h = number_is d n more before ts (nat_le n greatest_constant) (nat_le (suc d) most_depth) refl refl
compared_is d more before t ts h = refl

compared_goes : (k d : ℕ) (more : List Awaited) (before : ℕ) (t : Lexeme) (ts : List Lexeme) → d + suc k ≡ suc most_depth
    → is_word t ≡ false → judged (test d ∷ more) before (t ∷ ts) ≡ followed (comparison_at k (t ∷ ts)) (judged more before)
compared_goes k d more before t ts h w = compared_is d more before t ts w ∙ (comparison_walks k d h).goes more before (t ∷ ts)

deep_expression : (d n : ℕ) (more : List Awaited) (before : ℕ) (ts : List Lexeme) (x : Bool) → nat_le n greatest_constant ≡ x
    → nat_le (suc d) most_depth ≡ false
    → judged (test d ∷ more) before (number n ∷ ts) ≡ followed (test_at zero (number n ∷ ts)) (judged more before)
unfolding test_at
deep_expression d n more before ts true e h = rw (e, h) refl
deep_expression d n more before ts false e h = rw e refl

deep_test : (d : ℕ) (more : List Awaited) (before : ℕ) (ts : List Lexeme) → nat_le d most_depth ≡ false → nat_le (suc d) most_depth ≡ false
    → judged (test d ∷ more) before ts ≡ followed (test_at zero ts) (judged more before)
unfolding test_at
deep_test d more before [] h hs = refl
deep_test d more before (keyword word.True ∷ ts) h hs = rw h refl
deep_test d more before (keyword word.Not ∷ ts) h hs = rw h refl
deep_test d more before (symbol mark.LeftBracket ∷ ts) h hs = rw h refl
deep_test d more before (symbol mark.Bar ∷ ts) h hs = rw hs refl
deep_test d more before (symbol mark.LeftParen ∷ ts) h hs = rw hs refl
deep_test d more before (number n ∷ ts) h hs = deep_expression d n more before ts (nat_le n greatest_constant) refl hs
deep_test d more before (t ∷ ts) h hs = refl

negation_walks : (d k : ℕ) → Walks (test (suc d) ∷ []) (test_at k)
    → Walks (test (suc d) ∷ []) (λ ts. test_at (suc k) (keyword word.Not ∷ ts))
unfolding test_at
negation_walks d k w = walks_seq w (λ p. walks_none (negation p))

both_walks : (d k : ℕ) → Walks (test (suc d) ∷ []) (test_at k)
    → Walks (test (suc d) ∷ this_word word.And ∷ test (suc d) ∷ this_symbol mark.RightBracket ∷ [])
    (λ ts. test_at (suc k) (symbol mark.LeftBracket ∷ ts))
unfolding test_at
both_walks d k w =
    walks_seq w
    (λ p. walks_seq (walks_word word.And)
    (λ a. walks_seq w (λ q. walks_seq (walks_symbol mark.RightBracket) (λ c. walks_none (both p q)))))

-- no predicate begins with another keyword
word_wrong : (k d : ℕ) (x : Keyword) (more : List Awaited) (before : ℕ) (ts : List Lexeme) → next_test d (keyword x) ≡ None
    → judged (test d ∷ more) before (keyword x ∷ ts) ≡ followed (comparison_at k (keyword x ∷ ts)) (judged more before)
unfolding comparison_at formula_at
word_wrong zero d x more before ts h = rw h refl
word_wrong (suc k) d x more before ts h = rw h refl

shallow_test : (k d : ℕ) (more : List Awaited) (before : ℕ) (ts : List Lexeme) → d + suc k ≡ suc most_depth
    → Walks (test (suc d) ∷ []) (test_at k) → nat_le d most_depth ≡ true
    → judged (test d ∷ more) before ts ≡ followed (test_at (suc k) ts) (judged more before)
unfolding test_at
shallow_test k d more before [] h w le = refl
shallow_test k d more before (keyword word.True ∷ ts) h w le = rw le refl
shallow_test k d more before (keyword word.Not ∷ ts) h w le = rw le ((negation_walks d k w).goes more before ts)
shallow_test k d more before (symbol mark.LeftBracket ∷ ts) h w le = rw le ((both_walks d k w).goes more before ts)
shallow_test k d more before (keyword x ∷ ts) h w le = word_wrong k d x more before ts refl
shallow_test k d more before (t ∷ ts) h w le = compared_goes k d more before t ts h refl

test_goes : (k d : ℕ) (more : List Awaited) (before : ℕ) (ts : List Lexeme) → d + k ≡ suc most_depth
    → judged (test d ∷ more) before ts ≡ followed (test_at k ts) (judged more before)
test_goes zero d more before ts h = deep_test d more before ts (above d most_depth (omega arith)) (above (suc d) most_depth (omega arith))
test_goes (suc k) d more before ts h =
    shallow_test k d more before ts h (record { goes = λ m b u. test_goes k (suc d) m b u (omega arith) })
    (within d most_depth (omega arith))

pub walks_test : Walks (test 1 ∷ []) (test_at most_depth)
walks_test = record { goes = λ more before ts. test_goes most_depth 1 more before ts refl }
