-- Reading of tokens from left to right: what is read with the tokens after it, or where reading stopped.
use Rattle.std.specs.Prelude.{ℕ, suc, List, [], ◌∷◌, length, Bool, true, false, ◌&&◌, ◌==◌, nat_le, Option, Some, None, Result, Ok, Err}
use Rattle.spec_terms.specs.declared.limit.Limit.{Limit}
use Rattle.spec_terms.specs.declared.limit.Limit.TheVariants as limits
use Rattle.spec_text.specs.declared.stop.Stop.{Stop}
use Rattle.spec_text.specs.declared.stop.Stop.TheVariants as stops
use Rattle.spec_text.specs.declared.token.Keyword.{Keyword}
use Rattle.spec_text.specs.declared.token.Keyword.TheVariants as word
use Rattle.spec_text.specs.declared.token.Symbol.{Symbol}
use Rattle.spec_text.specs.declared.token.Symbol.TheVariants as mark
use Rattle.spec_text.specs.declared.lexeme.Lexeme.{Lexeme}
use Rattle.spec_text.specs.declared.lexeme.Lexeme.TheVariants.{Keyword as keyword, Symbol as symbol, Name as name, Number as number}
use Rattle.spec_text.specs.declared.lexeme.Lexeme.TheVariants.{LongName as long_name, HugeNumber as huge_number}

-- what reading gives
abbrev pub Reads : Type 0 → Type 0
Reads A = Result (A × List Lexeme) Stop

infixl 10 ◌>>=◌
abbrev pub ◌>>=◌ : {A B : Type 0} → Result A Stop → (A → Result B Stop) → Result B Stop
(Ok x) >>= f = f x
(Err e) >>= f = Err e

-- ---- one token

-- how a token is seen where some are awaited: taken for a value, wrong, or above a limit
pub data Seen (A : Type 0) : Type 0 where
  taken : A → Seen A
  wrong : Seen A
  above : Limit → Seen A

abbrev pub take_seen : {A : Type 0} → Seen A → List Lexeme → Reads A
take_seen (taken x) ts = Ok (x, ts)
take_seen wrong ts = Err (stops.Syntax (suc (length ts)))
take_seen (above w) ts = Err (stops.Limit w (suc (length ts)))

-- the next token, where it is one of those that the test takes
abbrev pub token_by : {A : Type 0} → (Lexeme → Seen A) → List Lexeme → Reads A
token_by see [] = Err (stops.Syntax 0)
token_by see (t ∷ ts) = take_seen (see t) ts

abbrev pub stop_seen : {A : Type 0} → Limit → Seen A → ℕ → Stop
stop_seen w (taken x) left = stops.Limit w left
stop_seen w wrong left = stops.Syntax left
stop_seen w (above v) left = stops.Limit v left

-- why reading stops at the next token, where what it begins is one too many
abbrev pub too_many : {A : Type 0} → Limit → (Lexeme → Seen A) → List Lexeme → Stop
too_many w see [] = stops.Syntax 0
too_many w see (t ∷ ts) = stop_seen w (see t) (suc (length ts))

-- ---- which token

-- the place of a symbol in the list of symbols
abbrev pub symbol_number : Symbol → ℕ
symbol_number mark.LeftBrace = 0
symbol_number mark.RightBrace = 1
symbol_number mark.LeftParen = 2
symbol_number mark.RightParen = 3
symbol_number mark.LeftBracket = 4
symbol_number mark.RightBracket = 5
symbol_number mark.Colon = 6
symbol_number mark.Bang = 7
symbol_number mark.Question = 8
symbol_number mark.At = 9
symbol_number mark.Dot = 10
symbol_number mark.Comma = 11
symbol_number mark.Ampersand = 12
symbol_number mark.Plus = 13
symbol_number mark.Minus = 14
symbol_number mark.Arrow = 15
symbol_number mark.Equal = 16
symbol_number mark.Less = 17
symbol_number mark.Bar = 18

-- the place of a keyword in the list of keywords
abbrev pub keyword_number : Keyword → ℕ
keyword_number word.Put = 0
keyword_number word.Reveal = 1
keyword_number word.If = 2
keyword_number word.Withdraw = 3
keyword_number word.Split = 4
keyword_number word.After = 5
keyword_number word.Secret = 6
keyword_number word.True = 7
keyword_number word.And = 8
keyword_number word.Not = 9
keyword_number word.Fee = 10
keyword_number word.Outside = 11

abbrev pub is_symbol : Symbol → Symbol → Bool
is_symbol a b = symbol_number a == symbol_number b

abbrev pub is_keyword : Keyword → Keyword → Bool
is_keyword a b = keyword_number a == keyword_number b

abbrev pub seen_if : Bool → Seen (Unit {0})
seen_if true = taken tt
seen_if false = wrong

-- this symbol
abbrev pub a_symbol : Symbol → Lexeme → Seen (Unit {0})
a_symbol s (symbol t) = seen_if (is_symbol t s)
a_symbol s _ = wrong

-- this keyword
abbrev pub a_keyword : Keyword → Lexeme → Seen (Unit {0})
a_keyword k (keyword w) = seen_if (is_keyword w k)
a_keyword k _ = wrong

-- a name
abbrev pub a_name : Lexeme → Seen (List ℕ)
a_name (name bytes) = taken bytes
a_name long_name = above limits.Name
a_name _ = wrong

abbrev pub small_number : ℕ → Bool → Seen ℕ
small_number n true = taken n
small_number n false = above limits.Number

-- a number of at most this
abbrev pub a_number : ℕ → Lexeme → Seen ℕ
a_number most (number n) = small_number n (nat_le n most)
a_number most huge_number = above limits.Number
a_number most _ = wrong

-- ---- names behind commas

-- what ends names, as some
abbrev pub ending : {E : Type 0} → Seen E → Seen (Option E)
ending (taken e) = taken (Some e)
ending wrong = wrong
ending (above w) = above w

-- a comma, or what ends the names
abbrev pub comma_or : {E : Type 0} → (Lexeme → Seen E) → Lexeme → Seen (Option E)
comma_or ends (symbol mark.Comma) = taken None
comma_or ends t = ending (ends t)

-- a name, and the comma behind it or what ends the names
unfoldable pub name_at : {E : Type 0} → (Lexeme → Seen E) → List Lexeme → Reads (List ℕ × Option E)
name_at ends ts = do
  x ← token_by a_name ts
  o ← token_by (comma_or ends) (x.1)
  Ok ((x.0, o.0), o.1)

-- Names behind commas and what ends them. The Boolean tells that a name is awaited, and not a comma or the end.
unfoldable pub names_from : {E : Type 0} → (Lexeme → Seen E) → Bool → List Lexeme → Reads (List (List ℕ) × E)
names_from ends awaited [] = Err (stops.Syntax 0)
names_from ends true (t ∷ ts) = do
  x ← take_seen (a_name t) ts
  r ← names_from ends false ts
  Ok ((x.0 ∷ r.0.0, r.0.1), r.1)
names_from ends false (t ∷ ts) = do
  o ← take_seen (comma_or ends t) ts
  elim (o.0) [ None ↦ names_from ends true ts | Some e ↦ Ok (([], e), ts) ]
