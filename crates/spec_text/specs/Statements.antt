-- What is claimed of reading and printing.
use Rattle.std.specs.Prelude.{◌≡◌, ℕ, ◌+◌, ◌-◌, ◌<◌, ◌≤◌, List, [], length, take, true, Ok, Err}
use Rattle.spec_terms.specs.Advert.{Advert}
use Rattle.spec_terms.specs.Readable.{is_readable}
use Rattle.spec_terms.specs.declared.limit.Limit.{Limit}
use Rattle.spec_run.specs.declared.event.Event.{Event}
use Rattle.spec_run.specs.declared.event.Run.{Run}
use Rattle.spec_text.specs.declared.token.Token.{Token}
use Rattle.spec_text.specs.declared.stop.Stop.TheVariants as stops
use Rattle.spec_text.specs.Lexis.{tokens_of}
use Rattle.spec_text.specs.declared.lexeme.Lexeme.{Lexeme}
use Rattle.spec_text.specs.Lexeme.{lexemes}
use Rattle.spec_text.specs.Grammar.{Spells, Begins}
use Rattle.spec_text.specs.ReadAdvert.{advert_of_all, read_answer}
use Rattle.spec_text.specs.Canonical.{advert_text}
use Rattle.spec_text.specs.RunFile.{says, event_of_line, read_run}
use Rattle.spec_text.specs.RunText.{event_text, header_text}

-- ---- contract text

-- the text spells the advert: all its tokens do
pub record IsSpelledBy (text : List ℕ) (advert : Advert) : Type 0 where
  pub tokens : List Token
  pub cut : tokens_of text ≡ Ok tokens
  pub spelled : Spells (lexemes text tokens) advert

-- the tokens before number p begin some advert, no more of them do, and all together spell none
pub record IsSyntaxAt (t : List Lexeme) (p : ℕ) : Type 0 where
  pub within : p ≤ length t
  pub begins : Begins (take p t)
  pub longest : (q : ℕ) → p < q → q ≤ length t → Begins (take q t) → ⊥
  pub none : (advert : Advert) → Spells t advert → ⊥

-- the tokens up to and with number p begin some advert
pub record IsLimitAt (t : List Lexeme) (p : ℕ) : Type 0 where
  pub within : p < length t
  pub begins : Begins (take (p + 1) t)

-- the reader of contract text answers by the grammar
pub record ReaderTheorem : Type 0 where
  -- what is read is spelled and within the limits
  pub found : (text : List ℕ) (advert : Advert) → read_answer text ≡ Ok advert → IsSpelledBy text advert
  pub fits : (text : List ℕ) (advert : Advert) → read_answer text ≡ Ok advert → is_readable advert ≡ true
  -- what is spelled and within the limits is read
  pub only : (text : List ℕ) (advert : Advert) → IsSpelledBy text advert → is_readable advert ≡ true → read_answer text ≡ Ok advert
  -- where reading stops
  pub syntax : (t : List Lexeme) (left : ℕ) → advert_of_all t ≡ Err (stops.Syntax left) → IsSyntaxAt t (length t - left)
  pub limit : (t : List Lexeme) (w : Limit) (left : ℕ) → advert_of_all t ≡ Err (stops.Limit w left) → IsLimitAt t (length t - left)

-- the canonical text of an advert that the reader can give is read as that advert
abbrev pub PrintedAdvertTheorem : Type 0
PrintedAdvertTheorem = (advert : Advert) → is_readable advert ≡ true → read_answer (advert_text advert) ≡ Ok advert

-- ---- run files

-- the canonical line of an event that some line spells is read as that event, after the same parties
abbrev pub PrintedEventTheorem : Type 0
PrintedEventTheorem = (parties : List (List ℕ)) (count : ℕ) (line : List ℕ) (event : Event)
    → event_of_line parties count line ≡ says event → event_of_line parties count (event_text event) ≡ says event

-- the canonical lines of a header that some file has are read as that header
abbrev pub PrintedHeaderTheorem : Type 0
PrintedHeaderTheorem =
    (text : List ℕ) (run : Run) → read_run text ≡ Ok run → read_run (header_text run.header)
    ≡ Ok (record { header = run.header; events = [] })
