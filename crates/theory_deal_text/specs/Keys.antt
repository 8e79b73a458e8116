-- What `keys` prints, read from its text: the grammar of its lines.
use Rattle.std.specs.Prelude.{ℕ, List, [], ◌∷◌, Bool, ◌&&◌, ◌==◌, if◌then◌else◌, Option, Some, None, codes}
use Rattle.std.specs.Str.{bytes_eq}
use Rattle.spec_text.specs.Lines.{parts_of, lines_of}
use Rattle.spec_text.specs.Words.{◌>>=◌, given, a_name, all_of, label}
use Rattle.spec_deal.specs.declared.deal.Needed.{Needed}
use Rattle.spec_deal.specs.declared.deal.Needed.TheVariants as needs
use Rattle.theory_play_text.specs.Lines.{Words}

-- ---- what a line says

-- what stands for a word that is to be given
abbrev pub is_blank : List ℕ → Bool
is_blank word = bytes_eq word (codes "..")

-- `key LABEL ..`
abbrev pub key_said : Words → Option Needed
key_said (word ∷ a ∷ []) = given (is_blank a) word >>= label >>= λ l. Some (needs.Key l)
key_said _ = None

-- `deposit NAME .. ..`
abbrev pub deposit_said : Words → Option Needed
deposit_said (word ∷ a ∷ b ∷ []) = given (is_blank a && is_blank b) word >>= a_name >>= λ x. Some (needs.Deposit x)
deposit_said _ = None

-- `hash NAME ..`
abbrev pub hash_said : Words → Option Needed
hash_said (word ∷ a ∷ []) = given (is_blank a) word >>= a_name >>= λ x. Some (needs.Hash x)
hash_said _ = None

-- a line by its first word
abbrev pub needed_said : Words → Option Needed
needed_said [] = None
needed_said (word ∷ words) =
    if bytes_eq word (codes "key") then key_said words
    else if bytes_eq word (codes "deposit") then deposit_said words
    else if bytes_eq word (codes "hash") then hash_said words
    else None

-- its words stand between single spaces
abbrev pub needed_line : List ℕ → Option Needed
needed_line line = needed_said (parts_of (λ b. b == 32) line)

-- what the lines of a text say that is needed, in order
abbrev pub needed_of : List ℕ → Option (List Needed)
needed_of text = all_of needed_line (lines_of text)
