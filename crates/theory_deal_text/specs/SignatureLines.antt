-- What each line of the texts of `missing` and `held` says, read from its words: the grammar of these lines.
use Rattle.std.specs.Prelude.{ℕ, List, [], ◌∷◌, Bool, true, false, ◌&&◌, ◌==◌, if◌then◌else◌, Option, Some, None, codes}
use Rattle.std.specs.Str.{bytes_eq}
use Rattle.spec_text.specs.Lines.{parts_of, lines_of}
use Rattle.spec_text.specs.Words.{◌>>=◌, given, a_name, all_of}
use Rattle.spec_tool.specs.declared.which.Which.{Which}
use Rattle.spec_tool.specs.Commands.{which_of}
use Rattle.theory_play_text.specs.Lines.{Words, by_digits}
use Rattle.theory_deal_text.specs.Signers.{ShownSlot, slot_said}

-- ---- what a line of `missing` says

pub data MissingLine : Type 0 where
  -- `missing WHICH K LABEL VERB`
  lacks : (slot : ShownSlot) → MissingLine
  -- `unverified WHICH K LABEL VERB`
  unverified : (slot : ShownSlot) → MissingLine
  -- `init may be signed`
  may_start : MissingLine
  -- `init may be signed once the unverified are checked`
  may_start_once_checked : MissingLine
  -- `init not endorsed WHICH PARTY`
  not_endorsed : (which : Which) → (party : List ℕ) → MissingLine

abbrev pub slot_line : (ShownSlot → MissingLine) → Words → Option MissingLine
slot_line make (name ∷ input ∷ who ∷ what ∷ []) = slot_said name input who what >>= λ slot. Some (make slot)
slot_line make _ = None

-- whether words are these
abbrev pub are_words : Words → Words → Bool
are_words [] [] = true
are_words (a ∷ words) (b ∷ others) = bytes_eq a b && are_words words others
are_words _ _ = false

abbrev pub words_may_start : Words
words_may_start = codes "may" ∷ codes "be" ∷ codes "signed" ∷ []

abbrev pub words_once_checked : Words
words_once_checked =
    codes "may" ∷ codes "be" ∷ codes "signed" ∷ codes "once" ∷ codes "the" ∷ codes "unverified" ∷ codes "are" ∷ codes "checked" ∷ []

abbrev pub endorsed_said : Words → Option MissingLine
endorsed_said (first ∷ next ∷ name ∷ party ∷ []) =
    given (bytes_eq first (codes "not") && bytes_eq next (codes "endorsed")) name >>= λ word. which_of word >>= λ which.
    a_name party >>= λ a. Some (not_endorsed which a)
endorsed_said _ = None

abbrev pub init_said : Words → Option MissingLine
init_said words =
    if are_words words words_may_start then Some may_start
    else if are_words words words_once_checked then Some may_start_once_checked
    else endorsed_said words

-- a line by its first word
abbrev pub missing_said : Words → Option MissingLine
missing_said [] = None
missing_said (word ∷ words) =
    if bytes_eq word (codes "missing") then slot_line lacks words
    else if bytes_eq word (codes "unverified") then slot_line unverified words
    else if bytes_eq word (codes "init") then init_said words
    else None

-- its words stand between single spaces
abbrev pub missing_line : List ℕ → Option MissingLine
missing_line line = missing_said (parts_of (λ b. b == 32) line)

-- what the lines of a text say, in order
abbrev pub missing_of : List ℕ → Option (List MissingLine)
missing_of text = all_of missing_line (lines_of text)

-- ---- what a line of `held` says

pub data HeldLine : Type 0 where
  -- `held WHICH K LABEL VERB KEY DIGEST SIGNATURE`
  signed : (slot : ShownSlot) → (key : List ℕ) → (digest : List ℕ) → (signature : List ℕ) → HeldLine
  -- `witness WHICH K LABEL VERB` and the items
  witnessed : (slot : ShownSlot) → (items : List (List ℕ)) → HeldLine

-- an item of a witness; an empty one is `-`
abbrev pub item_said : List ℕ → Option (List ℕ)
item_said word = if bytes_eq word (codes "-") then Some [] else by_digits word

abbrev pub signed_said : Words → Option HeldLine
signed_said (name ∷ input ∷ who ∷ what ∷ key ∷ digest ∷ signature ∷ []) =
    slot_said name input who what >>= λ slot. by_digits key >>= λ k. by_digits digest >>= λ d. by_digits signature >>= λ s.
    Some (signed slot k d s)
signed_said _ = None

abbrev pub witnessed_said : Words → Option HeldLine
witnessed_said (name ∷ input ∷ who ∷ what ∷ words) =
    slot_said name input who what >>= λ slot. all_of item_said words >>= λ items. Some (witnessed slot items)
witnessed_said _ = None

abbrev pub held_said : Words → Option HeldLine
held_said [] = None
held_said (word ∷ words) =
    if bytes_eq word (codes "held") then signed_said words
    else if bytes_eq word (codes "witness") then witnessed_said words
    else None

abbrev pub held_line : List ℕ → Option HeldLine
held_line line = held_said (parts_of (λ b. b == 32) line)

abbrev pub held_of : List ℕ → Option (List HeldLine)
held_of text = all_of held_line (lines_of text)
