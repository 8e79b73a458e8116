-- What the tokens of a text say.
use Rattle.std.specs.Prelude.{ℕ, ◌-◌, List, [], ◌∷◌, length, take, drop, map, Bool, true, false, ◌&&◌, nat_le}
use Rattle.spec_text.specs.declared.token.Token.{Token}
use Rattle.spec_text.specs.declared.token.Kind.{Kind}
use Rattle.spec_text.specs.declared.token.Kind.TheVariants as kind
use Rattle.spec_text.specs.declared.lexeme.Lexeme.{Lexeme}
use Rattle.spec_text.specs.declared.lexeme.Lexeme.TheVariants.{Keyword as keyword, Symbol as symbol, Name as name, LongName as long_name}
use Rattle.spec_text.specs.declared.lexeme.Lexeme.TheVariants.{Number as number, HugeNumber as huge_number}
use Rattle.spec_data.specs.Ranges.{most_name_bytes}

-- the bytes of a token
abbrev pub token_bytes : List ℕ → Token → List ℕ
token_bytes text t = take (t.end - t.start) (drop t.start text)

-- a name has 1 to 32 bytes
abbrev pub fits_name : List ℕ → Bool
fits_name bytes = nat_le 1 (length bytes) && nat_le (length bytes) most_name_bytes

abbrev pub name_or_long : List ℕ → Bool → Lexeme
name_or_long bytes true = name bytes
name_or_long bytes false = long_name

-- what a token of this kind and these bytes says
abbrev pub lexeme_of : Kind → List ℕ → Lexeme
lexeme_of (kind.Keyword k) bytes = keyword k
lexeme_of (kind.Symbol s) bytes = symbol s
lexeme_of kind.Name bytes = name_or_long bytes (fits_name bytes)
lexeme_of kind.LongName bytes = long_name
lexeme_of (kind.Number n) bytes = number n
lexeme_of kind.HugeNumber bytes = huge_number

-- what a token of a text says
abbrev pub lexeme_in : List ℕ → Token → Lexeme
lexeme_in text t = lexeme_of t.kind (token_bytes text t)

-- what the tokens of a text say
abbrev pub lexemes : List ℕ → List Token → List Lexeme
lexemes text tokens = map (lexeme_in text) tokens
