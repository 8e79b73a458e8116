-- What the lines of a file offer, and which digests strings are to have.
use Rattle.std.specs.Prelude.{◌≡◌, ℕ, List, [], ◌∷◌, Bool, true, if◌then◌else◌, Option, Some, None, codes}
use Rattle.std.specs.List.{find}
use Rattle.std.specs.Option.{option_map}
use Rattle.std.specs.Str.{bytes_eq}
use Rattle.spec_data.specs.Digits.{read_hex}
use Rattle.spec_compiler.specs.Keyed.Instance.{Instance}
use Rattle.spec_compiler.specs.Scripts.{digest_of}
use Rattle.spec_deal.specs.declared.entry.Shown.{Shown}
use Rattle.spec_deal.specs.HashesText.{offered}

-- a string of line n
abbrev pub string_of : ℕ → List ℕ → List ℕ → Shown
string_of n name bytes = record { line = n; name = name; bytes = bytes }

-- the string that the words of line n spell, whatever secrets there are
abbrev pub shown_at : ℕ → List (List ℕ) → Option Shown
shown_at n (word ∷ name ∷ hex ∷ []) =
    if bytes_eq word (codes "secret") then option_map (string_of n name) (read_hex hex) else None
shown_at n _ = None

-- whether a digest is that which the secret of this name is to have, if there is a list of them; else any will do
abbrev pub fits : Option (List (List ℕ × List ℕ)) → List ℕ → List ℕ → Bool
fits None name digest = true
fits (Some hashes) name digest = bytes_eq digest (digest_of hashes name)

-- of a string that is what this deal says
abbrev pub Judges : (List ℕ → List ℕ) → Instance → Option (List (List ℕ × List ℕ)) → Shown → Type 0
Judges hash s wanted shown = fits wanted shown.name (hash shown.bytes) ≡ bytes_eq (hash shown.bytes) (digest_of s.hashes shown.name)

-- of a string that none of these is for
abbrev pub JudgesNew : (List ℕ → List ℕ) → Instance → Option (List (List ℕ × List ℕ)) → List Shown → Shown → Type 0
JudgesNew hash s wanted taken shown = find (λ (x : Shown). bytes_eq x.name shown.name) taken ≡ None → Judges hash s wanted shown

-- of such a string of a line
abbrev pub JudgesLine : (List ℕ → List ℕ) → Instance → Option (List (List ℕ × List ℕ)) → List Shown → ℕ → List (List ℕ) → Type 0
JudgesLine hash s wanted taken n words = (shown : Shown) → Some shown ≡ shown_at n words → JudgesNew hash s wanted taken shown

-- the deal has these hashes, or those of the file's own strings
abbrev pub IsWanted : (List ℕ → List ℕ) → Instance → Option (List (List ℕ × List ℕ)) → List ℕ → Type 0
IsWanted hash s None text = s.hashes ≡ offered hash text
IsWanted hash s (Some hashes) text = s.hashes ≡ hashes
