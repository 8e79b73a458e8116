-- Each line of the texts of `missing` and `held` is read as what it says.
use Rattle.std.proofs.Common.{◌≡◌, ℕ, ◌+◌, ◌/◌, ◌%◌, List, [], ◌∷◌, map, Bool, true, false, Option, refl, ap, ◌∙◌, arith}
use Rattle.std.specs.Prelude.{◌==◌, nat_lt, ◌&&◌, codes, if◌then◌else◌}
use Rattle.std.specs.Str.{bytes_eq}
use Rattle.std.proofs.lemmas.Bool.Decides.{nat_tests}
use Rattle.spec_data.specs.Digits.{hex_digit, hex_text}
use Rattle.spec_text.specs.Words.{◌>>=◌, a_name, all_of}
use Rattle.spec_tool.specs.Keyed.Listed.{which_text}
use Rattle.spec_deal.specs.DealText.{item_word}
use Rattle.theory_text.proofs.Options.{some}
use Rattle.theory_play_text.specs.Lines.{Words, by_digits}
use Rattle.theory_play_text.specs.Printable.{IsNamed}
use Rattle.theory_play_text.proofs.LineWords.{IsPlain, ArePlain, known_word}
use Rattle.theory_play_text.proofs.WordsBack.{name_back, name_plain, bytes_back, bytes_plain}
use Rattle.theory_plan_text.specs.PlanLines.{IsWhich}
use Rattle.theory_plan_text.proofs.AnyLines.{Written}
use Rattle.theory_plan_text.proofs.PlanRead.{which_back, which_plain}
use Rattle.theory_deal_text.specs.Signers.{IsSlot}
use Rattle.theory_deal_text.specs.SignatureLines.{MissingLine, words_may_start, words_once_checked, missing_said, HeldLine, item_said, held_said}
use Rattle.theory_deal_text.specs.SignatureLines as line
use Rattle.theory_deal_text.proofs.Words.{slot_and, slot_back, slot_plain}

-- ---- missing

abbrev missing_word : MissingLine → List ℕ
missing_word (line.lacks slot) = codes "missing"
missing_word (line.unverified slot) = codes "unverified"
missing_word line.may_start = codes "init"
missing_word line.may_start_once_checked = codes "init"
missing_word (line.not_endorsed which party) = codes "init"

abbrev missing_words : MissingLine → Words
missing_words (line.lacks slot) = slot_and slot []
missing_words (line.unverified slot) = slot_and slot []
missing_words line.may_start = words_may_start
missing_words line.may_start_once_checked = words_once_checked
missing_words (line.not_endorsed which party) = codes "not" ∷ codes "endorsed" ∷ which_text which ∷ party ∷ []

abbrev pub missing_written : Written MissingLine
missing_written = record { word = missing_word; words = missing_words }

abbrev pub IsMissing : MissingLine → Type 0
IsMissing (line.lacks slot) = IsSlot slot
IsMissing (line.unverified slot) = IsSlot slot
IsMissing line.may_start = Unit {0}
IsMissing line.may_start_once_checked = Unit {0}
IsMissing (line.not_endorsed which party) = IsWhich which × IsNamed party

pub missing_plain : (l : MissingLine) → IsMissing l → ArePlain (missing_word l ∷ missing_words l)
missing_plain (line.lacks slot) h = (known_word (codes "missing") refl, slot_plain slot h [] tt)
missing_plain (line.unverified slot) h = (known_word (codes "unverified") refl, slot_plain slot h [] tt)
missing_plain line.may_start h = (
  known_word (codes "init") refl,
  (known_word (codes "may") refl, (known_word (codes "be") refl, (known_word (codes "signed") refl, tt))),
)
missing_plain line.may_start_once_checked h = (
  known_word (codes "init") refl,
  (
    known_word (codes "may") refl,
    (
      known_word (codes "be") refl,
      (
        known_word (codes "signed") refl,
        (
          known_word (codes "once") refl,
          (
            known_word (codes "the") refl,
            (known_word (codes "unverified") refl, (known_word (codes "are") refl, (known_word (codes "checked") refl, tt))),
          ),
        ),
      ),
    ),
  ),
)
missing_plain (line.not_endorsed which party) h = (
  known_word (codes "init") refl,
  (known_word (codes "not") refl, (known_word (codes "endorsed") refl, (which_plain which h.0, (name_plain party h.1, tt)))),
)

abbrev says_missing : MissingLine → Option MissingLine
says_missing l = some l

pub missing_back : (l : MissingLine) → IsMissing l → missing_said (missing_word l ∷ missing_words l) ≡ says_missing l
missing_back (line.lacks slot) h = ap (λ o. o >>= λ x. says_missing (line.lacks x)) (slot_back slot h)
missing_back (line.unverified slot) h = ap (λ o. o >>= λ x. says_missing (line.unverified x)) (slot_back slot h)
missing_back line.may_start h = refl
missing_back line.may_start_once_checked h = refl
missing_back (line.not_endorsed which party) h =
    ap (λ o. o >>= λ w. a_name party >>= λ a. says_missing (line.not_endorsed w a)) (which_back which h.0)
    ∙ ap (λ o. o >>= λ a. says_missing (line.not_endorsed which a)) (name_back party h.1)

-- ---- held

abbrev held_word : HeldLine → List ℕ
held_word (line.signed slot key digest signature) = codes "held"
held_word (line.witnessed slot items) = codes "witness"

abbrev held_words : HeldLine → Words
held_words (line.signed slot key digest signature) = slot_and slot (hex_text key ∷ hex_text digest ∷ hex_text signature ∷ [])
held_words (line.witnessed slot items) = slot_and slot (map item_word items)

abbrev pub held_written : Written HeldLine
held_written = record { word = held_word; words = held_words }

abbrev pub IsHeld : HeldLine → Type 0
IsHeld (line.signed slot key digest signature) = IsSlot slot
IsHeld (line.witnessed slot items) = IsSlot slot

-- a digit isn't the mark of an empty item
no_mark : (v : ℕ) → (hex_digit v == 45) ≡ false
no_mark v = by_ten (nat_lt v 10)
  where
    by_ten : (t : Bool) → ((if t then 48 + v else 87 + v) == 45) ≡ false
    by_ten true = grind (arith, nat_tests)
    by_ten false = grind (arith, nat_tests)

item_back : (item : List ℕ) → item_said (item_word item) ≡ some item
item_back [] = refl
item_back (b ∷ bytes) =
    ap (λ (t : Bool). if t && bytes_eq (hex_digit (b % 16) ∷ hex_text bytes) [] then some [] else by_digits (hex_text (b ∷ bytes)))
    (no_mark (b / 16))
    ∙ bytes_back (b ∷ bytes)

items_back : (items : List (List ℕ)) → all_of item_said (map item_word items) ≡ some items
items_back [] = refl
items_back (item ∷ items) = rw (item_back item, items_back items) refl

item_plain : (item : List ℕ) → IsPlain (item_word item)
item_plain [] = known_word (codes "-") refl
item_plain (b ∷ bytes) = bytes_plain (b ∷ bytes)

items_plain : (items : List (List ℕ)) → ArePlain (map item_word items)
items_plain [] = tt
items_plain (item ∷ items) = (item_plain item, items_plain items)

pub held_plain : (l : HeldLine) → IsHeld l → ArePlain (held_word l ∷ held_words l)
held_plain (line.signed slot key digest signature) h = (
  known_word (codes "held") refl,
  slot_plain slot h (hex_text key ∷ hex_text digest ∷ hex_text signature ∷ [])
      (bytes_plain key, (bytes_plain digest, (bytes_plain signature, tt))),
)
held_plain (line.witnessed slot items) h = (known_word (codes "witness") refl, slot_plain slot h (map item_word items) (items_plain items))

abbrev says_held : HeldLine → Option HeldLine
says_held l = some l

pub held_back : (l : HeldLine) → IsHeld l → held_said (held_word l ∷ held_words l) ≡ says_held l
held_back (line.signed slot key digest signature) h =
    ap (λ o. o >>= λ x. by_digits (hex_text key) >>= λ k. by_digits (hex_text digest) >>= λ d. by_digits (hex_text signature) >>= λ s.
    says_held (line.signed x k d s)) (slot_back slot h)
    ∙ (ap (λ o. o >>= λ k. by_digits (hex_text digest) >>= λ d. by_digits (hex_text signature) >>= λ s. says_held (line.signed slot k d s))
    (bytes_back key)
    ∙ (ap (λ o. o >>= λ d. by_digits (hex_text signature) >>= λ s. says_held (line.signed slot key d s)) (bytes_back digest)
    ∙ ap (λ o. o >>= λ s. says_held (line.signed slot key digest s)) (bytes_back signature)))
held_back (line.witnessed slot items) h =
    ap (λ o. o >>= λ x. all_of item_said (map item_word items) >>= λ is. says_held (line.witnessed x is)) (slot_back slot h)
    ∙ ap (λ o. o >>= λ is. says_held (line.witnessed slot is)) (items_back items)
