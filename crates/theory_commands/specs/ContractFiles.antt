-- Which contract a file is taken for, and why another is refused, by the grammar of contract text.
use Rattle.std.specs.Prelude.{◌≡◌, ℕ, ◌≤◌, ◌<◌, List, ◌++◌, ◌↔◌, length, true, Some, None, Ok, Err, codes}
use Rattle.std.specs.Fmt.{decimal}
use Rattle.spec_terms.specs.Advert.{Advert}
use Rattle.spec_terms.specs.Readable.{is_readable}
use Rattle.spec_terms.specs.Faults.{first_fault, first_limit}
use Rattle.spec_terms.specs.declared.limit.Limit.{Limit}
use Rattle.spec_terms.specs.declared.place.Place.{Place}
use Rattle.spec_text.specs.Limits.{most_text_bytes}
use Rattle.spec_text.specs.Lexis.{tokens_of}
use Rattle.spec_text.specs.Refusals.{too_long_text, limit_text, fault_text, exceeded_text}
use Rattle.spec_text.specs.Statements.{IsSpelledBy}
use Rattle.spec_tool.specs.Answers.{contract_in}
use Rattle.spec_tool.specs.Reads.{Text}
use Rattle.theory_limits.specs.Statements.{IsMarkedText, IsEndedText}

-- ---- contracts that are taken

-- The text spells the advert, whose depths, counts and numbers are within the limits of the reader.
pub record IsReadable (text : List ℕ) (advert : Advert) : Type 0 where
  pub few : length text ≤ most_text_bytes
  pub spelled : IsSpelledBy text advert
  pub readable : is_readable advert ≡ true

-- It has no fault, and exceeds no other limit either.
pub record IsContract (text : List ℕ) (advert : Advert) : Type 0 where
  pub read : IsReadable text advert
  pub faultless : first_fault advert ≡ None
  pub limited : first_limit advert ≡ None

-- so is what was read of a file that isn't too long
abbrev pub HoldsContract : Text → Advert → Type 0
HoldsContract None advert = ⊥
HoldsContract (Some text) advert = IsContract text advert

-- ---- contracts that are refused

pub data Refusal : Type 0 where
  -- the file has more bytes than it may have
  too_long : Refusal
  -- no token begins at this byte
  bad_byte : (place : ℕ) → Refusal
  -- the grammar ends at the token that begins at this byte
  ended : (place : ℕ) → Refusal
  -- the token that begins at this byte is the first that exceeds a limit
  marked : (limit : Limit) → (place : ℕ) → Refusal
  -- this fault is the first of the advert
  fault : (number : ℕ) → (place : Place) → Refusal
  -- the advert has no fault, and this limit is the first that it exceeds
  exceeded : (limit : Limit) → (place : Place) → Refusal

-- the text spells a readable advert of which this holds
pub record Reads (text : List ℕ) (claim : Advert → Type 0) : Type 0 where
  pub advert : Advert
  pub read : IsReadable text advert
  pub claimed : claim advert

-- the advert has no fault, and this is the first limit that it exceeds
pub record Exceeds (limit : Limit) (place : Place) (advert : Advert) : Type 0 where
  pub faultless : first_fault advert ≡ None
  pub first : first_limit advert ≡ Some (limit, place)

-- why a text is refused
abbrev pub IsRefusedText : List ℕ → Refusal → Type 0
IsRefusedText text too_long = most_text_bytes < length text
IsRefusedText text (bad_byte place) = (length text ≤ most_text_bytes) × (tokens_of text ≡ Err place)
IsRefusedText text (ended place) = (length text ≤ most_text_bytes) × IsEndedText text place
IsRefusedText text (marked limit place) = (length text ≤ most_text_bytes) × IsMarkedText text limit place
IsRefusedText text (fault number place) = Reads text (λ advert. first_fault advert ≡ Some (number, place))
IsRefusedText text (exceeded limit place) = Reads text (Exceeds limit place)

-- why a file is refused; of one that is too long nothing was read
abbrev pub IsRefusedContract : Text → Refusal → Type 0
IsRefusedContract None too_long = Unit {0}
IsRefusedContract None _ = ⊥
IsRefusedContract (Some text) why = IsRefusedText text why

-- the same, as it is printed
abbrev pub refusal_text : Refusal → List ℕ
refusal_text too_long = too_long_text
refusal_text (bad_byte place) = codes "byte " ++ decimal place
refusal_text (ended place) = codes "syntax " ++ decimal place
refusal_text (marked limit place) = codes "limit " ++ (limit_text limit ++ (codes " " ++ decimal place))
refusal_text (fault number place) = fault_text number place
refusal_text (exceeded limit place) = exceeded_text limit place

-- ---- what is claimed

-- of every file
pub record ContractsAreRead : Type 0 where
  -- a file is taken for the contract that it holds, and is refused for just that
  pub read : (text : Text) (advert : Advert) → (contract_in text ≡ Ok advert) ↔ HoldsContract text advert
  pub refused : (text : Text) (why : List ℕ)
      → (contract_in text ≡ Err why) ↔ ((r : Refusal) × IsRefusedContract text r × (why ≡ refusal_text r))
