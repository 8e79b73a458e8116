-- A list of strings with an index that tells where a string stands first.
use Rattle.std.specs.Prelude.{◌≡◌, ◌<◌, ◌+◌, ◌-◌, ◌%◌, ◌^◌, ℕ, List, [], Bool, false, cond, nat_le, ◌==◌, Option, Some, None, length, take, drop, get_or, slice_get}
use Rattle.std.specs.Ordering.{nat_cmp}
use Rattle.std.specs.Int.{from_le_bytes, w64}
use Rattle.std.specs.Str.{bytes_eq}
use Rattle.std.specs.Cmp.Lexicographic.{slice_cmp}
use Rattle.std.specs.BTreeMap as tree
use Rattle.std.specs.BTreeMap.{BTreeMap}
use Rattle.std.specs.Global.{Vec}
use Rattle.bm_hash.specs.Messages.{place_of}
use Rattle.bm_hash_strings.specs.declared.places.Places.{Places}

-- the numbers that the first eight bytes of a string and its last eight are, and 0 of a shorter one
unfoldable pub first_number : List ℕ → ℕ
first_number q = cond (nat_le 8 (length q)) (from_le_bytes w64 (take 8 q)) 0

unfoldable pub last_number : List ℕ → ℕ
last_number q = cond (nat_le 8 (length q)) (from_le_bytes w64 (drop (length q - 8) q)) 0

-- the fingerprint of a string: their sum in 64 bits
unfoldable pub fingerprint_of : List ℕ → ℕ
fingerprint_of q = (first_number q + last_number q) % 2 ^ 64

-- the first place of the string
abbrev pub first_place : List (List ℕ) → List ℕ → Option ℕ
first_place strings q = place_of (λ m. m) strings q

-- where the first string of this fingerprint stands
abbrev pub place_by_fingerprint : BTreeMap ℕ ℕ → ℕ → Option ℕ
place_by_fingerprint index m = tree.get_by (λ k. nat_cmp m k) index

-- where a string stands whose fingerprint an earlier one has
abbrev pub found_at : BTreeMap (Vec ℕ) ℕ → List ℕ → Option ℕ
found_at index q = tree.get_by (λ k. slice_cmp nat_cmp q k.items) index

-- where a string stands, by the place of the first of its fingerprint and by its place among the others
abbrev pub place_by : List (List ℕ) → List ℕ → Option ℕ → Option ℕ → Option ℕ
place_by strings q None other = None
place_by strings q (Some p) other = cond (bytes_eq (get_or strings p []) q) (Some p) other

abbrev pub placed_at : List (List ℕ) → Places → List ℕ → Option ℕ
placed_at strings places q = place_by strings q (place_by_fingerprint places.by_fingerprint (fingerprint_of q)) (found_at places.others q)

-- a place has a string of this fingerprint
pub record HasFingerprint (strings : List (List ℕ)) (m p : ℕ) : Type 0 where
  pub within : p < length strings
  pub by_fingerprint : fingerprint_of (get_or strings p []) ≡ m

-- a string stands at this place, behind the first string of its fingerprint
pub record IsOther (strings : List (List ℕ)) (index : BTreeMap ℕ ℕ) (q : List ℕ) (k : ℕ) : Type 0 where
  pub within : k < length strings
  pub there : get_or strings k [] ≡ q
  pub first : ℕ
  pub by_fingerprint : place_by_fingerprint index (fingerprint_of q) ≡ Some first
  pub behind : first < k

-- the index tells of each string where it stands first
pub record IsPlaced (strings : List (List ℕ)) (places : Places) : Type 0 where
  pub at : (q : List ℕ) → placed_at strings places q ≡ first_place strings q
  pub fingerprints : (m p : ℕ) → place_by_fingerprint places.by_fingerprint m ≡ Some p → HasFingerprint strings m p
  pub behind : (q : List ℕ) (k : ℕ) → found_at places.others q ≡ Some k → IsOther strings places.by_fingerprint q k

-- whether the place is this one
abbrev pub is_place : Option ℕ → ℕ → Bool
is_place None n = false
is_place (Some k) n = k == n

-- whether this string stands at a place
abbrev pub is_string : Option (List ℕ) → List ℕ → Bool
is_string None q = false
is_string (Some string) q = bytes_eq string q

abbrev pub stands_at : List (List ℕ) → ℕ → List ℕ → Bool
stands_at strings place q = is_string (slice_get strings place) q
