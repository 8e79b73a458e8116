-- What is read of an expression or a predicate behind the token that it begins with, by a reader of what is one node deeper.
use Rattle.std.specs.Prelude.{List, Ok}
use Rattle.spec_terms.specs.Term.{Expr, Pred, both, negation}
use Rattle.spec_text.specs.declared.lexeme.Lexeme.{Lexeme}
use Rattle.spec_text.specs.declared.token.Keyword.TheVariants as word
use Rattle.spec_text.specs.declared.token.Symbol.TheVariants as mark
use Rattle.spec_text.specs.Reading.{Reads, ◌>>=◌, token_by, a_symbol, a_keyword}
use Rattle.spec_text.specs.ReadTest.{a_sign, signed}

-- two expressions with their sign, behind the bracket that opens
unfoldable pub sum_at : (List Lexeme → Reads Expr) → List Lexeme → Reads Expr
sum_at read ts = do
  e ← read ts
  o ← token_by a_sign (e.1)
  f ← read (o.1)
  c ← token_by (a_symbol mark.RightParen) (f.1)
  Ok (signed (o.0) (e.0) (f.0), c.1)

-- a predicate behind `not`
unfoldable pub negation_at : (List Lexeme → Reads Pred) → List Lexeme → Reads Pred
negation_at read ts = do
  p ← read ts
  Ok (negation (p.0), p.1)

-- two predicates with `and`, behind the bracket that opens
unfoldable pub conjunction_at : (List Lexeme → Reads Pred) → List Lexeme → Reads Pred
conjunction_at read ts = do
  p ← read ts
  w ← token_by (a_keyword word.And) (p.1)
  q ← read (w.1)
  c ← token_by (a_symbol mark.RightBracket) (q.1)
  Ok (both (p.0) (q.0), c.1)
