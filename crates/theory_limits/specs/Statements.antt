-- What is claimed of the limits of contract text.
use Rattle.std.specs.Prelude.{◌≡◌, ℕ, ◌-◌, ◌≤◌, List, [], ◌∷◌, length, true, Some, None, Ok, Err}
use Rattle.spec_terms.specs.Advert.{Advert}
use Rattle.spec_terms.specs.Readable.{is_readable}
use Rattle.spec_terms.specs.declared.limit.Limit.{Limit}
use Rattle.spec_text.specs.declared.stop.Stop.TheVariants as stops
use Rattle.spec_text.specs.declared.stop.TextFault.TheVariants as faults
use Rattle.spec_text.specs.declared.token.Token.{Token}
use Rattle.spec_text.specs.Lexis.{tokens_of}
use Rattle.spec_text.specs.declared.lexeme.Lexeme.{Lexeme}
use Rattle.spec_text.specs.Lexeme.{lexemes}
use Rattle.spec_text.specs.Grammar.{Spells, StandFor}
use Rattle.spec_text.specs.ReadAdvert.{advert_of_all, place_of, read_answer}
use Rattle.spec_text.specs.Statements.{IsSpelledBy, IsSyntaxAt, IsLimitAt}
use Rattle.theory_limits.specs.Marks.{Mark, marks, grammar_end}
use Rattle.theory_limits.specs.Trees.{over_advert}

-- tokens spell at most one advert
abbrev pub OneAdvertTheorem : Type 0
OneAdvertTheorem = (t : List Lexeme) (a b : Advert) → Spells t a → Spells t b → a ≡ b

-- the first mark of these tokens has this quantity, and so many tokens are left from its token on
pub record IsFirstMark (t : List Lexeme) (w : Limit) (left : ℕ) : Type 0 where
  pub others : List Mark
  pub first : marks t ≡ record { quantity = w; left = left } ∷ others

-- each of these marks of so many tokens stands at token p or behind it
abbrev pub StandFrom : ℕ → ℕ → List Mark → Type 0
StandFrom p total [] = Unit {0}
StandFrom p total (m ∷ ms) = (p ≤ total - m.left) × StandFrom p total ms

-- the reader of contract text stops at the first limit that is exceeded, or where the grammar ends, whichever is first
pub record LimitsTheorem : Type 0 where
  -- A limit is answered exactly where it is the first mark; the tokens up to and with that begin some advert.
  pub limit : (t : List Lexeme) (w : Limit) (left : ℕ) → advert_of_all t ≡ Err (stops.Limit w left)
      → IsFirstMark t w left × IsLimitAt t (length t - left)
  pub limit_only : (t : List Lexeme) (w : Limit) (left : ℕ) → IsFirstMark t w left → advert_of_all t ≡ Err (stops.Limit w left)
  -- A syntax error is answered exactly where the grammar ends and no mark stands before.
  pub syntax : (t : List Lexeme) (left : ℕ) → advert_of_all t ≡ Err (stops.Syntax left)
      → IsSyntaxAt t (length t - left) × StandFrom (length t - left) (length t) (marks t)
  pub syntax_only : (t : List Lexeme) (p : ℕ) → IsSyntaxAt t p → StandFrom p (length t) (marks t)
      → advert_of_all t ≡ Err (stops.Syntax (length t - p))
  -- An advert is answered exactly where the tokens spell it and none is marked.
  pub read : (t : List Lexeme) (advert : Advert) → advert_of_all t ≡ Ok advert → Spells t advert × (marks t ≡ [])
  pub read_only : (t : List Lexeme) (advert : Advert) → Spells t advert → marks t ≡ [] → advert_of_all t ≡ Ok advert

-- tokens stand for a text that spells some advert
pub record MeansAdvert (t : List Lexeme) : Type 0 where
  pub meant : List Lexeme
  pub stand : StandFor t meant
  pub advert : Advert
  pub spelled : Spells meant advert

-- the parts that are awaited without any limit are those of the grammar
pub record GrammarTheorem : Type 0 where
  -- All tokens can come, and nothing more is awaited, exactly where they stand for a text that spells an advert.
  pub whole : (t : List Lexeme) → grammar_end t ≡ None → MeansAdvert t
  pub whole_only : (t : List Lexeme) → MeansAdvert t → grammar_end t ≡ None
  -- Else the first token that can't come is that from which on no advert goes on.
  pub ends : (t : List Lexeme) (left : ℕ) → grammar_end t ≡ Some left → IsSyntaxAt t (length t - left)

-- a text whose first mark has this quantity and is put to the token that begins at this byte
pub record IsMarkedText (text : List ℕ) (w : Limit) (place : ℕ) : Type 0 where
  pub tokens : List Token
  pub cut : tokens_of text ≡ Ok tokens
  pub left : ℕ
  pub first : IsFirstMark (lexemes text tokens) w left
  pub place_is : place ≡ place_of text tokens left

-- a text whose grammar ends at the token that begins at this byte, or at its end, and no token before is marked
pub record IsEndedText (text : List ℕ) (place : ℕ) : Type 0 where
  pub tokens : List Token
  pub cut : tokens_of text ≡ Ok tokens
  pub number : ℕ
  pub ends : IsSyntaxAt (lexemes text tokens) number
  pub unmarked : StandFrom number (length (lexemes text tokens)) (marks (lexemes text tokens))
  pub place_is : place ≡ place_of text tokens (length (lexemes text tokens) - number)

-- the same of texts, with places in bytes
pub record TextLimitsTheorem : Type 0 where
  pub limit : (text : List ℕ) (w : Limit) (place : ℕ) → read_answer text ≡ Err (faults.Limit w place) → IsMarkedText text w place
  pub limit_only : (text : List ℕ) (w : Limit) (place : ℕ) → IsMarkedText text w place → read_answer text ≡ Err (faults.Limit w place)
  pub syntax : (text : List ℕ) (place : ℕ) → read_answer text ≡ Err (faults.Syntax place) → IsEndedText text place
  pub syntax_only : (text : List ℕ) (place : ℕ) → IsEndedText text place → read_answer text ≡ Err (faults.Syntax place)

-- A text that spells an advert has no mark exactly where the advert, as a tree, is within the limits.
pub record FittingTheorem : Type 0 where
  pub within : (text : List ℕ) (advert : Advert) → (s : IsSpelledBy text advert) → marks (lexemes text s.tokens) ≡ []
      → is_readable advert ≡ true
  pub within_only : (text : List ℕ) (advert : Advert) → (s : IsSpelledBy text advert) → is_readable advert ≡ true
      → marks (lexemes text s.tokens) ≡ []

-- the quantities of these marks
abbrev pub quantities : List Mark → List Limit
quantities [] = []
quantities (m ∷ ms) = m.quantity ∷ quantities ms

-- the marks of tokens that spell an advert have the quantities that it exceeds as a tree, in the order of the text
abbrev pub TreeTheorem : Type 0
TreeTheorem = (t : List Lexeme) (advert : Advert) → Spells t advert → quantities (marks t) ≡ over_advert advert
