-- The answers of the lexer, and the token at the front of a list.
use Rattle.std.specs.Prelude.{◌≡◌, ◌≤◌, ℕ, List, [], ◌∷◌, ◌++◌, Option, None, Result, Ok, Err}
use Rattle.std.specs.Global.{Vec}
use Rattle.spec_text.specs.declared.token.Token.{Token}
use Rattle.spec_text.specs.declared.token.Kind.TheVariants as kind
use Rattle.spec_text.specs.Lexis.{Prefix, prefix, word_prefix, number_prefix, Tokens}
use Rattle.bm_lex.specs.declared.error.LexError.{LexError}
use Rattle.bm_lex.specs.declared.error.LexError.TheVariants.{BadByte, Memory}

-- the token at the front, with how many bytes it has after its first
abbrev pub prefix_of : List ℕ → Option Prefix
prefix_of [] = None
prefix_of (b ∷ bytes) = prefix b bytes

-- the word at the front, which a letter begins
unfoldable pub word_at : List ℕ → Prefix
word_at [] = (kind.Name, 0)
word_at (b ∷ bytes) = word_prefix b bytes

-- the number at the front, which a digit begins
unfoldable pub number_at : List ℕ → Prefix
number_at [] = (kind.HugeNumber, 0)
number_at (b ∷ bytes) = number_prefix b bytes

-- what the lexer answers is what is read, unless memory ran out
abbrev pub Answers : Result (Vec Token) LexError → Tokens → Type 0
Answers (Ok tokens) said = said ≡ Ok tokens.items
Answers (Err (BadByte place)) said = said ≡ Err place
Answers (Err Memory) said = Unit {0}

-- the token lies in a text of this length
pub record LiesIn (length : ℕ) (token : Token) : Type 0 where
  pub from : token.start ≤ token.end
  pub to : token.end ≤ length

-- tokens before those that are still read
abbrev pub with_prefix : List Token → Tokens → Tokens
with_prefix prefix (Ok tokens) = Ok (prefix ++ tokens)
with_prefix prefix (Err place) = Err place
