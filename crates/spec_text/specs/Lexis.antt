-- The tokens of contract text, read greedily from the left.
use Rattle.std.specs.Prelude.{ℕ, zero, suc, ◌+◌, ◌^◌, List, [], ◌∷◌, length, take_while, codes, Bool, false, ◌&&◌, ◌||◌, if◌then◌else◌}
use Rattle.std.specs.Prelude.{◌==◌, nat_le, nat_lt, Option, Some, None, Result, Ok, Err}
use Rattle.std.specs.Str.{bytes_eq}
use Rattle.spec_terms.specs.Readable.{is_letter, is_name_byte}
use Rattle.spec_data.specs.Ranges.{most_name_bytes}
use Rattle.spec_data.specs.Digits.{is_digit, decimal_value}
use Rattle.spec_text.specs.declared.token.Token.{Token}
use Rattle.spec_text.specs.declared.token.Kind.{Kind}
use Rattle.spec_text.specs.declared.token.Kind.TheVariants as kind
use Rattle.spec_text.specs.declared.token.Keyword.{Keyword}
use Rattle.spec_text.specs.declared.token.Keyword.TheVariants as word
use Rattle.spec_text.specs.declared.token.Symbol.{Symbol}
use Rattle.spec_text.specs.declared.token.Symbol.TheVariants as symbol

-- ---- bytes

-- space, tab, line feed, carriage return
abbrev pub is_blank : ℕ → Bool
is_blank b = (b == 32) || ((b == 9) || ((b == 10) || (b == 13)))

-- ---- words

-- the keywords and their spelling
abbrev pub keywords : List (List ℕ × Keyword)
keywords =
    (codes "put", word.Put) ∷ (codes "reveal", word.Reveal) ∷ (codes "if", word.If)
    ∷ (codes "withdraw", word.Withdraw) ∷ (codes "split", word.Split) ∷ (codes "after", word.After)
    ∷ (codes "secret", word.Secret) ∷ (codes "true", word.True) ∷ (codes "and", word.And)
    ∷ (codes "not", word.Not) ∷ (codes "fee", word.Fee) ∷ (codes "Outside", word.Outside) ∷ []

-- what stands beside the word in a table
abbrev pub word_in : {A : Type 0} → List (List ℕ × A) → List ℕ → Option A
word_in [] bytes = None
word_in (row ∷ rows) bytes = if bytes_eq bytes (row.0) then Some (row.1) else word_in rows bytes

-- a word that is no keyword is a name, by its length a long one
abbrev pub name_kind : List ℕ → Kind
name_kind bytes = if nat_le (length bytes) most_name_bytes then kind.Name else kind.LongName

abbrev pub kind_or_name : List ℕ → Option Keyword → Kind
kind_or_name bytes (Some k) = kind.Keyword k
kind_or_name bytes None = name_kind bytes

-- the kind of a letter and the name bytes after it
abbrev pub word_kind : List ℕ → Kind
word_kind bytes = kind_or_name bytes (word_in keywords bytes)

-- the kind of digits
abbrev pub number_kind : List ℕ → Kind
number_kind digits = if nat_lt (decimal_value digits) (2 ^ 64) then kind.Number (decimal_value digits) else kind.HugeNumber

-- ---- symbols

-- the symbols of one byte; that of `-` is also the arrow's first
abbrev pub symbols : List (ℕ × Symbol)
symbols =
    (123, symbol.LeftBrace) ∷ (125, symbol.RightBrace) ∷ (40, symbol.LeftParen) ∷ (41, symbol.RightParen)
    ∷ (91, symbol.LeftBracket) ∷ (93, symbol.RightBracket) ∷ (58, symbol.Colon) ∷ (33, symbol.Bang)
    ∷ (63, symbol.Question) ∷ (64, symbol.At) ∷ (46, symbol.Dot) ∷ (44, symbol.Comma)
    ∷ (38, symbol.Ampersand) ∷ (43, symbol.Plus) ∷ (45, symbol.Minus) ∷ (61, symbol.Equal)
    ∷ (60, symbol.Less) ∷ (124, symbol.Bar) ∷ []

abbrev pub symbol_in : List (ℕ × Symbol) → ℕ → Option Symbol
symbol_in [] b = None
symbol_in (row ∷ rows) b = if b == row.0 then Some (row.1) else symbol_in rows b

-- ---- the token at the front

-- a kind, and how many bytes it has after its first
abbrev pub Prefix : Type 0
Prefix = Kind × ℕ

-- the prefix of a letter and what follows it: a word
unfoldable pub word_prefix : ℕ → List ℕ → Prefix
word_prefix b bytes = let rest = take_while is_name_byte bytes in (word_kind (b ∷ rest), length rest)

-- the prefix of a digit that isn't 0 and what follows it: a number
unfoldable pub number_prefix : ℕ → List ℕ → Prefix
number_prefix b bytes = let rest = take_while is_digit bytes in (number_kind (b ∷ rest), length rest)

abbrev pub symbol_or_none : Option Symbol → Option Prefix
symbol_or_none None = None
symbol_or_none (Some s) = Some (kind.Symbol s, 0)

-- the prefix of another byte: a symbol of one byte
unfoldable pub symbol_prefix : ℕ → Option Prefix
symbol_prefix b = symbol_or_none (symbol_in symbols b)

-- whether the bytes begin with `>`
abbrev pub begins_greater : List ℕ → Bool
begins_greater [] = false
begins_greater (b ∷ bytes) = b == 62

-- The longest token at the front of a byte and what follows it: its kind, and how many bytes it has after
-- the first; none where the byte begins no token.
abbrev pub prefix : ℕ → List ℕ → Option Prefix
prefix b bytes =
    if is_letter b then Some (word_prefix b bytes)
    else if b == 48 then Some (kind.Number 0, 0)
    else if is_digit b then Some (number_prefix b bytes)
    else if (b == 45) && begins_greater bytes then Some (kind.Symbol symbol.Arrow, 1)
    else symbol_prefix b

-- ---- all tokens

-- what is read from the left: the tokens, or the place of the first byte that begins no token
abbrev pub Tokens : Type 0
Tokens = Result (List Token) ℕ

abbrev pub with_token : Token → Tokens → Tokens
with_token token (Ok tokens) = Ok (token ∷ tokens)
with_token token (Err place) = Err place

-- the token of this kind and length from this place on
abbrev pub token_at : ℕ → Prefix → Token
token_at place f = record { kind = f.0; start = place; end = place + f.1 + 1 }

-- what the next byte is
pub data Look : Type 0 where
  -- it belongs to the token before it, as so many after it do
  inside : ℕ → Look
  blank : Look
  -- it begins a token
  start : Prefix → Look
  no_token : Look

abbrev pub prefix_look : Option Prefix → Look
prefix_look (Some f) = start f
prefix_look None = no_token

-- what the next byte is, where so many bytes still belong to the token before it
abbrev pub look : ℕ → ℕ → List ℕ → Look
look (suc left) b bytes = inside left
look zero b bytes = if is_blank b then blank else prefix_look (prefix b bytes)

-- how many bytes after this one belong to the same token
abbrev pub left_of : Look → ℕ
left_of (inside left) = left
left_of blank = 0
left_of (start f) = f.1
left_of no_token = 0

-- the tokens from this byte on, by those after it
abbrev pub from_look : ℕ → Look → Tokens → Tokens
from_look place (inside left) later = later
from_look place blank later = later
from_look place (start f) later = with_token (token_at place f) later
from_look place no_token later = Err place

-- the tokens from this place on, where so many bytes still belong to the token before it
abbrev pub tokens_from : ℕ → ℕ → List ℕ → Tokens
tokens_from place left [] = Ok []
tokens_from place left (b ∷ bytes) = from_look place (look left b bytes) (tokens_from (place + 1) (left_of (look left b bytes)) bytes)

-- the tokens of a text
abbrev pub tokens_of : List ℕ → Tokens
tokens_of text = tokens_from 0 0 text
