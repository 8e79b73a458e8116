-- What may still come in a contract text, token by token and without any limit.
use Rattle.std.specs.Prelude.{ℕ, suc, List, [], ◌∷◌, ◌++◌, if◌then◌else◌, Option, Some, None}
use Rattle.spec_data.specs.Ranges.{max_money, last_height}
use Rattle.spec_text.specs.declared.token.Keyword.{Keyword}
use Rattle.spec_text.specs.declared.token.Keyword.TheVariants as word
use Rattle.spec_text.specs.declared.token.Symbol.{Symbol}
use Rattle.spec_text.specs.declared.token.Symbol.TheVariants as mark
use Rattle.spec_text.specs.declared.lexeme.Lexeme.{Lexeme}
use Rattle.spec_text.specs.declared.lexeme.Lexeme.TheVariants.{Keyword as keyword, Symbol as symbol, Name as name, Number as number}
use Rattle.spec_text.specs.declared.lexeme.Lexeme.TheVariants.{LongName as long_name, HugeNumber as huge_number}
use Rattle.spec_text.specs.Reading.{is_symbol, is_keyword}

-- A part of a text that is still to come. A depth counts the nodes, or the guarded terms, on the way to it, itself
-- included; a number of a branch or a part counts from 1 in its choice or split.
pub data Awaited : Type 0 where
  this_symbol : Symbol → Awaited
  this_word : Keyword → Awaited
  a_name : Awaited
  -- a number that may be at most so great
  a_number : ℕ → Awaited
  -- `+` or `-` of an expression
  operator : Awaited
  -- `=` or `<`
  relation : Awaited
  -- an expression of this depth
  formula : ℕ → Awaited
  -- a predicate of this depth
  test : ℕ → Awaited
  -- what follows a name that is put: a comma and a name, `&` and a reveal, or the point
  behind_put : Awaited
  -- what follows a name that is revealed: a comma and a name, a condition and the point, or the point
  behind_reveal : Awaited
  -- a guarded term of this depth behind a name or a height
  wrapped : ℕ → Awaited
  -- a branch: its depth, and its number in the choice
  branch : ℕ → ℕ → Awaited
  -- what follows a branch in brackets: a plus and a branch, or the bracket that closes
  behind_branch : ℕ → ℕ → Awaited
  -- a contract whose branches have this depth
  contract : ℕ → Awaited
  -- a part: the depth of its branches, and its number in the split
  part : ℕ → ℕ → Awaited
  -- what follows a part: a comma and a part, or the bracket that closes
  behind_part : ℕ → ℕ → Awaited
  -- an entry and the rest of the precondition: how many deposits and secrets came before it
  entry : ℕ → ℕ → Awaited
  -- what the entry is, behind its party and colon
  entry_kind : ℕ → ℕ → Awaited
  -- what follows an entry: a bar and an entry, or the brace that closes
  behind_entry : ℕ → ℕ → Awaited
  -- a fee and a contract, or a contract alone
  fee_or_contract : Awaited

-- what is awaited once a token has come; none where it can't come
abbrev pub Next : Type 0
Next = Option (List Awaited)

-- ---- expressions and predicates

abbrev pub next_formula : ℕ → Lexeme → Next
next_formula d (number n) = Some []
next_formula d huge_number = Some []
next_formula d (symbol mark.Bar) = Some (a_name ∷ this_symbol mark.Bar ∷ [])
next_formula d (symbol mark.LeftParen) = Some (formula (suc d) ∷ operator ∷ formula (suc d) ∷ this_symbol mark.RightParen ∷ [])
next_formula d _ = None

-- the rest of a comparison of this depth, whose first expression goes on so
abbrev pub compared : ℕ → Next → Next
compared d None = None
compared d (Some rest) = Some (rest ++ relation ∷ formula (suc d) ∷ [])

abbrev pub next_test : ℕ → Lexeme → Next
next_test d (keyword word.True) = Some []
next_test d (keyword word.Not) = Some (test (suc d) ∷ [])
next_test d (symbol mark.LeftBracket) = Some (test (suc d) ∷ this_word word.And ∷ test (suc d) ∷ this_symbol mark.RightBracket ∷ [])
next_test d t = compared d (next_formula (suc d) t)

-- ---- contracts

-- a guarded term, as a branch or behind a name or a height
abbrev pub next_branch : ℕ → Lexeme → Next
next_branch d (name party) = Some (this_symbol mark.Colon ∷ wrapped (suc d) ∷ [])
next_branch d long_name = Some (this_symbol mark.Colon ∷ wrapped (suc d) ∷ [])
next_branch d (keyword word.After) = Some (a_number last_height ∷ this_symbol mark.Colon ∷ wrapped (suc d) ∷ [])
next_branch d (keyword word.Put) = Some (a_name ∷ behind_put ∷ contract (suc d) ∷ [])
next_branch d (keyword word.Reveal) = Some (a_name ∷ behind_reveal ∷ contract (suc d) ∷ [])
next_branch d (keyword word.Withdraw) = Some (a_name ∷ [])
next_branch d (keyword word.Split) = Some (this_symbol mark.LeftBracket ∷ part (suc d) 1 ∷ [])
next_branch d _ = None

abbrev pub next_contract : ℕ → Lexeme → Next
next_contract d (symbol mark.LeftParen) = Some (branch d 1 ∷ behind_branch d 1 ∷ [])
next_contract d t = next_branch d t

-- ---- all parts of a text

abbrev pub next : Awaited → Lexeme → Next
next (this_symbol s) (symbol t) = if is_symbol t s then Some [] else None
next (this_word k) (keyword w) = if is_keyword w k then Some [] else None
next a_name (name bytes) = Some []
next a_name long_name = Some []
next (a_number most) (number n) = Some []
next (a_number most) huge_number = Some []
next operator (symbol mark.Plus) = Some []
next operator (symbol mark.Minus) = Some []
next relation (symbol mark.Equal) = Some []
next relation (symbol mark.Less) = Some []
next (formula d) t = next_formula d t
next (test d) t = next_test d t
next behind_put (symbol mark.Comma) = Some (a_name ∷ behind_put ∷ [])
next behind_put (symbol mark.Ampersand) = Some (this_word word.Reveal ∷ a_name ∷ behind_reveal ∷ [])
next behind_put (symbol mark.Dot) = Some []
next behind_reveal (symbol mark.Comma) = Some (a_name ∷ behind_reveal ∷ [])
next behind_reveal (keyword word.If) = Some (test 1 ∷ this_symbol mark.Dot ∷ [])
next behind_reveal (symbol mark.Dot) = Some []
next (wrapped d) t = next_branch d t
next (branch d k) t = next_branch d t
next (behind_branch d k) (symbol mark.Plus) = Some (branch d (suc k) ∷ behind_branch d (suc k) ∷ [])
next (behind_branch d k) (symbol mark.RightParen) = Some []
next (contract d) t = next_contract d t
next (part d k) (number n) = Some (this_symbol mark.Arrow ∷ contract d ∷ behind_part d k ∷ [])
next (part d k) huge_number = Some (this_symbol mark.Arrow ∷ contract d ∷ behind_part d k ∷ [])
next (behind_part d k) (symbol mark.Comma) = Some (part d (suc k) ∷ [])
next (behind_part d k) (symbol mark.RightBracket) = Some []
next (entry deposits secrets) (name party) = Some (this_symbol mark.Colon ∷ entry_kind deposits secrets ∷ [])
next (entry deposits secrets) long_name = Some (this_symbol mark.Colon ∷ entry_kind deposits secrets ∷ [])
next (entry_kind deposits secrets) (symbol mark.Bang) =
    Some (a_number max_money ∷ this_symbol mark.At ∷ a_name ∷ behind_entry (suc deposits) secrets ∷ [])
next (entry_kind deposits secrets) (symbol mark.Question) =
    Some (a_number max_money ∷ this_symbol mark.At ∷ a_name ∷ behind_entry (suc deposits) secrets ∷ [])
next (entry_kind deposits secrets) (keyword word.Secret) = Some (a_name ∷ behind_entry deposits (suc secrets) ∷ [])
next (behind_entry deposits secrets) (symbol mark.Bar) = Some (entry deposits secrets ∷ [])
next (behind_entry deposits secrets) (symbol mark.RightBrace) = Some []
next fee_or_contract (keyword word.Fee) = Some (a_number max_money ∷ contract 1 ∷ [])
next fee_or_contract t = next_contract 1 t
next _ _ = None

-- an advert
abbrev pub an_advert : List Awaited
an_advert = this_symbol mark.LeftBrace ∷ entry 0 0 ∷ fee_or_contract ∷ []
