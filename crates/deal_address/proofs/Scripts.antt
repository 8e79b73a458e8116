-- The values of a word of at most 90 characters, the script of them, and what is answered of the word.
use Rattle.std.proofs.Common.{◌≡◌, ℕ, ◌-◌, ◌<◌, ◌≤◌, List, [], ◌∷◌, length, take, drop, map, Bool, true, false, Option, Some, None, refl, ap, ◌∙◌, arith}
use Rattle.std.specs.Prelude.{slice_index, unwrap_or, position, ◌==◌, if◌then◌else◌}
use Rattle.std.proofs.lemmas.List.{length-take, length-drop}
use Rattle.std.proofs.lemmas.List.FromFn.{length-map-range_with_len}
use Rattle.std.proofs.lemmas.List.Quantifiers.{position-Some}
use Rattle.spec_address.specs.Address.{address, letters, reads, read_address, script_of, spells, value_of, values_of}
use Rattle.spec_address.specs.Groups.{byte_at, byte_count, bytes_of}
use Rattle.theory_address.proofs.Addresses.{read_is_short}

-- ---- sizes

pub few_groups : (values : List ℕ) → length values ≤ 90 → length (take (length values - 7) (drop 1 values)) ≤ 90
few_groups values h = omega (arith, length-take (length values - 7) (drop 1 values), length-drop 1 values)

pub few_bytes : (groups : List ℕ) → length groups ≤ 90 → length (bytes_of groups) < 256
few_bytes groups h = omega (arith, length-map-range_with_len (byte_at groups) 0 (byte_count (length groups)))

value_small : (o : Option ℕ) (letter : ℕ) → position (λ l. l == letter) letters ≡ o → unwrap_or o 0 < 32
value_small None letter e = omega arith
value_small (Some v) letter e = (position-Some (λ l. l == letter) letters v 0 e).0

pub first_small : (characters : List ℕ) (f : ℕ → ℕ) → slice_index (map value_of (map f characters)) 0 < 32
first_small [] f = omega arith
first_small (c ∷ characters) f = value_small (position (λ l. l == f c) letters) (f c) refl

-- ---- what is answered of a word

-- the script that a word spells, if its address spells the word
pub answered : (hrp word script : List ℕ) (text : Option (List ℕ)) (t : Bool) → script ≡ script_of (values_of hrp word)
    → text ≡ address hrp script → t ≡ spells word text → (if t then Some script else None) ≡ read_address hrp word
unfolding read_address
answered hrp word script text t spelled written told =
    (λ j. if told j then Some script else None) ∙ (λ j. if spells word (written j) then Some script else None)
    ∙ ap (λ s. if reads hrp word s then Some s else None) spelled

pub long_is_none : (hrp word : List ℕ) → 90 < length word → None ≡ read_address hrp word
unfolding read_address
long_is_none hrp word long = by (reads hrp word script) refl
  where
    script : List ℕ
    script = script_of (values_of hrp word)

    by : (t : Bool) → reads hrp word script ≡ t → None ≡ (if t then Some script else None)
    by false e = refl
    by true e = let short = read_is_short hrp word script e in absurd (omega (arith, short, long))
