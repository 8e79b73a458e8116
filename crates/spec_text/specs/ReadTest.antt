-- Reading of expressions and predicates, by cases on the next token.
use Rattle.std.specs.Prelude.{ℕ, zero, suc, List, [], ◌∷◌, length, Bool, true, false, Ok, Err}
use Rattle.spec_terms.specs.Term.{Expr, constant, length_of, plus, minus, Pred, always, both, negation, equal, less}
use Rattle.spec_terms.specs.declared.limit.Limit.TheVariants as limits
use Rattle.spec_text.specs.declared.stop.Stop.TheVariants as stops
use Rattle.spec_text.specs.declared.token.Keyword.TheVariants as word
use Rattle.spec_text.specs.declared.token.Symbol.TheVariants as mark
use Rattle.spec_text.specs.declared.lexeme.Lexeme.{Lexeme}
use Rattle.spec_text.specs.declared.lexeme.Lexeme.TheVariants.{Keyword as keyword, Symbol as symbol, Number as number}
use Rattle.spec_text.specs.declared.lexeme.Lexeme.TheVariants.{HugeNumber as huge_number}
use Rattle.spec_terms.specs.Readable.{greatest_constant}
use Rattle.spec_text.specs.Reading.{Reads, ◌>>=◌, Seen, taken, wrong, above, take_seen, token_by, too_many, a_symbol, a_keyword, a_name}
use Rattle.spec_text.specs.Reading.{a_number}

-- ---- expressions

-- a constant
abbrev pub a_constant : Lexeme → Seen ℕ
a_constant t = a_number greatest_constant t

abbrev pub begun : {A : Type 0} → Seen A → Seen (Unit {0})
begun (taken x) = taken tt
begun wrong = wrong
begun (above w) = above w

-- a token with which an expression begins
abbrev pub begins_formula : Lexeme → Seen (Unit {0})
begins_formula (number n) = begun (a_constant (number n))
begins_formula huge_number = above limits.Number
begins_formula (symbol mark.Bar) = taken tt
begins_formula (symbol mark.LeftParen) = taken tt
begins_formula _ = wrong

-- plus is true, minus false
abbrev pub a_sign : Lexeme → Seen Bool
a_sign (symbol mark.Plus) = taken true
a_sign (symbol mark.Minus) = taken false
a_sign _ = wrong

abbrev pub signed : Bool → Expr → Expr → Expr
signed true e f = plus e f
signed false e f = minus e f

-- a constant at the front
unfoldable pub constant_at : List Lexeme → Reads Expr
constant_at ts = do
  v ← token_by a_constant ts
  Ok (constant (v.0), v.1)

-- the length of a secret behind its first bar
unfoldable pub length_at : List Lexeme → Reads Expr
length_at ts = do
  x ← token_by a_name ts
  e ← token_by (a_symbol mark.Bar) (x.1)
  Ok (length_of (x.0), e.1)

-- an expression of at most so many nodes on one way
unfoldable pub formula_at : ℕ → List Lexeme → Reads Expr
formula_at d [] = Err (stops.Syntax 0)
formula_at zero (t ∷ ts) = Err (too_many limits.Depth begins_formula (t ∷ ts))
formula_at (suc d) (number n ∷ ts) = constant_at (number n ∷ ts)
formula_at (suc d) (huge_number ∷ ts) = constant_at (huge_number ∷ ts)
formula_at (suc d) (symbol mark.Bar ∷ ts) = length_at ts
formula_at (suc d) (symbol mark.LeftParen ∷ ts) = do
  e ← formula_at d ts
  o ← token_by a_sign (e.1)
  f ← formula_at d (o.1)
  c ← token_by (a_symbol mark.RightParen) (f.1)
  Ok (signed (o.0) (e.0) (f.0), c.1)
formula_at (suc d) (t ∷ ts) = Err (stops.Syntax (suc (length ts)))

-- ---- predicates

-- a token with which a predicate begins
abbrev pub begins_test : Lexeme → Seen (Unit {0})
begins_test (keyword word.True) = taken tt
begins_test (keyword word.Not) = taken tt
begins_test (symbol mark.LeftBracket) = taken tt
begins_test t = begins_formula t

-- `=` is true, `<` false
abbrev pub a_relation : Lexeme → Seen Bool
a_relation (symbol mark.Equal) = taken true
a_relation (symbol mark.Less) = taken false
a_relation _ = wrong

abbrev pub related : Bool → Expr → Expr → Pred
related true e f = equal e f
related false e f = less e f

-- a comparison, with so many nodes under it
unfoldable pub comparison_at : ℕ → List Lexeme → Reads Pred
comparison_at d ts = do
  e ← formula_at d ts
  o ← token_by a_relation (e.1)
  f ← formula_at d (o.1)
  Ok (related (o.0) (e.0) (f.0), f.1)

-- a predicate of at most so many nodes on one way, expressions counted
unfoldable pub test_at : ℕ → List Lexeme → Reads Pred
test_at d [] = Err (stops.Syntax 0)
test_at zero (t ∷ ts) = Err (too_many limits.Depth begins_test (t ∷ ts))
test_at (suc d) (keyword word.True ∷ ts) = Ok (always, ts)
test_at (suc d) (keyword word.Not ∷ ts) = do
  p ← test_at d ts
  Ok (negation (p.0), p.1)
test_at (suc d) (symbol mark.LeftBracket ∷ ts) = do
  p ← test_at d ts
  w ← token_by (a_keyword word.And) (p.1)
  q ← test_at d (w.1)
  c ← token_by (a_symbol mark.RightBracket) (q.1)
  Ok (both (p.0) (q.0), c.1)
test_at (suc d) (t ∷ ts) = comparison_at d (t ∷ ts)
