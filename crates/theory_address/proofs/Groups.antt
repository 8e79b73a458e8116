-- Bytes are had back from their groups of five bits.
use Rattle.std.proofs.Common.{◌≡◌, ℕ, zero, suc, ◌+◌, ◌-◌, ◌*◌, ◌/◌, ◌%◌, ◌^◌, ◌<◌, ◌≤◌, List, [], ◌∷◌, length, map, refl, sym, ap, subst, ◌∙◌, arith, inl, inr}
use Rattle.std.proofs.Math.Nat.{zero-div}
use Rattle.std.specs.Prelude.{true, slice_index, nat_lt}
use Rattle.std.specs.List.{range_with_len}
use Rattle.std.proofs.lemmas.Bool.{and_parts, cases_lt}
use Rattle.std.proofs.lemmas.List.{get_or_past}
use Rattle.std.proofs.lemmas.List.FromFn.{length-map-range_with_len, get_or-map-range_with_len, fill_by_all}
use Rattle.spec_address.specs.Address.{are_bytes}
use Rattle.spec_address.specs.Groups.{group_at, group_count, groups_of, byte_at, byte_count, bytes_of}

-- ---- bytes

first_below : (b : ℕ) (bytes : List ℕ) → are_bytes (b ∷ bytes) ≡ true → (b < 256) × (are_bytes bytes ≡ true)
first_below b bytes h =
    let parts = and_parts (nat_lt b 256) (are_bytes bytes) h in
    let small = parts.0 in
    (grind (arith, small), parts.1)

pub below_256 : (bytes : List ℕ) (i : ℕ) → are_bytes bytes ≡ true → slice_index bytes i < 256
below_256 [] i h = omega arith
below_256 (b ∷ bytes) zero h = (first_below b bytes h).0
below_256 (b ∷ bytes) (suc i) h = below_256 bytes i ((first_below b bytes h).1)

-- ---- a group by the places of its bytes

-- the five bits of two bytes behind this many
abbrev cut : ℕ → ℕ → ℕ → ℕ
cut a b shift = (a * 256 + b) / 2 ^ (11 - shift) % 32

group_by : (bytes : List ℕ) (i place next shift : ℕ) → 5 * i / 8 ≡ place → 5 * i / 8 + 1 ≡ next → 5 * i % 8 ≡ shift
    → group_at bytes i ≡ cut (slice_index bytes place) (slice_index bytes next) shift
unfolding group_at
group_by bytes i place next shift p n s = λ j. cut (slice_index bytes (p j)) (slice_index bytes (n j)) (s j)

-- behind the last byte every group is 0
group_past : (bytes : List ℕ) (i : ℕ) → group_count (length bytes) ≤ i → group_at bytes i ≡ 0
unfolding group_at
group_past bytes i h =
    let a : slice_index bytes (5 * i / 8) ≡ 0 = get_or_past bytes (5 * i / 8) 0 (omega arith) in
    let b : slice_index bytes (5 * i / 8 + 1) ≡ 0 = get_or_past bytes (5 * i / 8 + 1) 0 (omega arith) in
    (λ j. cut (a j) (b j) (5 * i % 8)) ∙ ap (λ n. n % 32) (zero-div (2 ^ (11 - 5 * i % 8)))

pub length_groups : (bytes : List ℕ) → length (groups_of bytes) ≡ group_count (length bytes)
length_groups bytes = length-map-range_with_len (group_at bytes) 0 (group_count (length bytes))

group_of : (bytes : List ℕ) (i : ℕ) → slice_index (groups_of bytes) i ≡ group_at bytes i
group_of bytes i =
    elim (cases_lt i (group_count (length bytes))) [
      | inl less ↦ get_or-map-range_with_len (group_at bytes) 0 (group_count (length bytes)) i i 0 less (omega arith)
      | inr past ↦ get_or_past (groups_of bytes) i 0 (rw length_groups past) ∙ sym (group_past bytes i past)
    ]

-- ---- a byte by its groups

-- the eight bits of three groups behind this many
abbrev joined : ℕ → ℕ → ℕ → ℕ → ℕ
joined g h k shift = (g * 1024 + h * 32 + k) / 2 ^ (7 - shift) % 256

byte_by : (bytes : List ℕ) (i x y z shift : ℕ) → 8 * i / 5 ≡ x → 8 * i / 5 + 1 ≡ y → 8 * i / 5 + 2 ≡ z → 8 * i % 5 ≡ shift
    → byte_at (groups_of bytes) i ≡ joined (group_at bytes x) (group_at bytes y) (group_at bytes z) shift
unfolding byte_at
byte_by bytes i x y z shift p q r s =
    (λ j. joined (slice_index (groups_of bytes) (p j)) (slice_index (groups_of bytes) (q j)) (slice_index (groups_of bytes) (r j)) (s j))
    ∙ (λ j. joined (group_of bytes x j) (group_of bytes y j) (group_of bytes z j) shift)

-- ---- the bits of five bytes in eight groups

bits_0 : (a b c : ℕ) → a < 256 → b < 256 → c < 256 → joined (cut a b 0) (cut a b 5) (cut b c 2) 0 ≡ a
bits_0 a b c pa pb pc = omega arith

bits_1 : (a b c : ℕ) → a < 256 → b < 256 → c < 256 → joined (cut a b 5) (cut b c 2) (cut b c 7) 3 ≡ b
bits_1 a b c pa pb pc = omega arith

bits_2 : (b c d e : ℕ) → b < 256 → c < 256 → d < 256 → e < 256 → joined (cut b c 7) (cut c d 4) (cut d e 1) 1 ≡ c
bits_2 b c d e pb pc pd pe = omega arith

bits_3 : (c d e : ℕ) → c < 256 → d < 256 → e < 256 → joined (cut c d 4) (cut d e 1) (cut d e 6) 4 ≡ d
bits_3 c d e pc pd pe = omega arith

bits_4 : (d e f g : ℕ) → d < 256 → e < 256 → f < 256 → g < 256 → joined (cut d e 6) (cut e f 3) (cut f g 0) 2 ≡ e
bits_4 d e f g pd pe pf pg = omega arith

-- ---- bytes of groups

byte_0 : (bytes : List ℕ) (q : ℕ) → ((k : ℕ) → slice_index bytes k < 256) → byte_at (groups_of bytes) (5 * q) ≡ slice_index bytes (5 * q)
byte_0 bytes q small =
    byte_by bytes (5 * q) (8 * q) (8 * q + 1) (8 * q + 2) 0 (omega arith) (omega arith) (omega arith) (omega arith)
    ∙ (λ j. joined (group_by bytes (8 * q) (5 * q) (5 * q + 1) 0 (omega arith) (omega arith) (omega arith) j)
    (group_by bytes (8 * q + 1) (5 * q) (5 * q + 1) 5 (omega arith) (omega arith) (omega arith) j)
    (group_by bytes (8 * q + 2) (5 * q + 1) (5 * q + 2) 2 (omega arith) (omega arith) (omega arith) j) 0)
    ∙ bits_0 (slice_index bytes (5 * q)) (slice_index bytes (5 * q + 1)) (slice_index bytes (5 * q + 2)) (small (5 * q)) (small (5 * q + 1)) (small (5 * q + 2))

byte_1 : (bytes : List ℕ) (q : ℕ) → ((k : ℕ) → slice_index bytes k < 256) → byte_at (groups_of bytes) (5 * q + 1) ≡ slice_index bytes (5 * q + 1)
byte_1 bytes q small =
    byte_by bytes (5 * q + 1) (8 * q + 1) (8 * q + 2) (8 * q + 3) 3 (omega arith) (omega arith) (omega arith) (omega arith)
    ∙ (λ j. joined (group_by bytes (8 * q + 1) (5 * q) (5 * q + 1) 5 (omega arith) (omega arith) (omega arith) j)
    (group_by bytes (8 * q + 2) (5 * q + 1) (5 * q + 2) 2 (omega arith) (omega arith) (omega arith) j)
    (group_by bytes (8 * q + 3) (5 * q + 1) (5 * q + 2) 7 (omega arith) (omega arith) (omega arith) j) 3)
    ∙ bits_1 (slice_index bytes (5 * q)) (slice_index bytes (5 * q + 1)) (slice_index bytes (5 * q + 2)) (small (5 * q)) (small (5 * q + 1)) (small (5 * q + 2))

byte_2 : (bytes : List ℕ) (q : ℕ) → ((k : ℕ) → slice_index bytes k < 256) → byte_at (groups_of bytes) (5 * q + 2) ≡ slice_index bytes (5 * q + 2)
byte_2 bytes q small =
    byte_by bytes (5 * q + 2) (8 * q + 3) (8 * q + 4) (8 * q + 5) 1 (omega arith) (omega arith) (omega arith) (omega arith)
    ∙ (λ j. joined (group_by bytes (8 * q + 3) (5 * q + 1) (5 * q + 2) 7 (omega arith) (omega arith) (omega arith) j)
    (group_by bytes (8 * q + 4) (5 * q + 2) (5 * q + 3) 4 (omega arith) (omega arith) (omega arith) j)
    (group_by bytes (8 * q + 5) (5 * q + 3) (5 * q + 4) 1 (omega arith) (omega arith) (omega arith) j) 1)
    ∙ bits_2 (slice_index bytes (5 * q + 1)) (slice_index bytes (5 * q + 2)) (slice_index bytes (5 * q + 3)) (slice_index bytes (5 * q + 4))
    (small (5 * q + 1)) (small (5 * q + 2)) (small (5 * q + 3)) (small (5 * q + 4))

byte_3 : (bytes : List ℕ) (q : ℕ) → ((k : ℕ) → slice_index bytes k < 256) → byte_at (groups_of bytes) (5 * q + 3) ≡ slice_index bytes (5 * q + 3)
byte_3 bytes q small =
    byte_by bytes (5 * q + 3) (8 * q + 4) (8 * q + 5) (8 * q + 6) 4 (omega arith) (omega arith) (omega arith) (omega arith)
    ∙ (λ j. joined (group_by bytes (8 * q + 4) (5 * q + 2) (5 * q + 3) 4 (omega arith) (omega arith) (omega arith) j)
    (group_by bytes (8 * q + 5) (5 * q + 3) (5 * q + 4) 1 (omega arith) (omega arith) (omega arith) j)
    (group_by bytes (8 * q + 6) (5 * q + 3) (5 * q + 4) 6 (omega arith) (omega arith) (omega arith) j) 4)
    ∙ bits_3 (slice_index bytes (5 * q + 2)) (slice_index bytes (5 * q + 3)) (slice_index bytes (5 * q + 4)) (small (5 * q + 2))
    (small (5 * q + 3)) (small (5 * q + 4))

byte_4 : (bytes : List ℕ) (q : ℕ) → ((k : ℕ) → slice_index bytes k < 256) → byte_at (groups_of bytes) (5 * q + 4) ≡ slice_index bytes (5 * q + 4)
byte_4 bytes q small =
    byte_by bytes (5 * q + 4) (8 * q + 6) (8 * q + 7) (8 * q + 8) 2 (omega arith) (omega arith) (omega arith) (omega arith)
    ∙ (λ j. joined (group_by bytes (8 * q + 6) (5 * q + 3) (5 * q + 4) 6 (omega arith) (omega arith) (omega arith) j)
    (group_by bytes (8 * q + 7) (5 * q + 4) (5 * q + 5) 3 (omega arith) (omega arith) (omega arith) j)
    (group_by bytes (8 * q + 8) (5 * q + 5) (5 * q + 6) 0 (omega arith) (omega arith) (omega arith) j) 2)
    ∙ bits_4 (slice_index bytes (5 * q + 3)) (slice_index bytes (5 * q + 4)) (slice_index bytes (5 * q + 5)) (slice_index bytes (5 * q + 6))
    (small (5 * q + 3)) (small (5 * q + 4)) (small (5 * q + 5)) (small (5 * q + 6))

byte_of : (bytes : List ℕ) (i : ℕ) → ((k : ℕ) → slice_index bytes k < 256) → byte_at (groups_of bytes) i ≡ slice_index bytes i
byte_of bytes i small = by (i % 5) refl
  where
    Same : ℕ → Type 0
    Same k = byte_at (groups_of bytes) k ≡ slice_index bytes k

    by : (r : ℕ) → i % 5 ≡ r → byte_at (groups_of bytes) i ≡ slice_index bytes i
    by zero e = subst Same (omega arith) (byte_0 bytes (i / 5) small)
    by (suc zero) e = subst Same (omega arith) (byte_1 bytes (i / 5) small)
    by (suc (suc zero)) e = subst Same (omega arith) (byte_2 bytes (i / 5) small)
    by (suc (suc (suc zero))) e = subst Same (omega arith) (byte_3 bytes (i / 5) small)
    by (suc (suc (suc (suc zero)))) e = subst Same (omega arith) (byte_4 bytes (i / 5) small)
    by (suc (suc (suc (suc (suc r))))) e = absurd (omega arith)

pub bytes_back : (bytes : List ℕ) → are_bytes bytes ≡ true → bytes_of (groups_of bytes) ≡ bytes
bytes_back bytes h =
    let count : byte_count (length (groups_of bytes)) ≡ length bytes = ap byte_count (length_groups bytes) ∙ omega arith in
    ap (λ n. map (byte_at (groups_of bytes)) (range_with_len 0 n)) count
    ∙ sym (fill_by_all (byte_at (groups_of bytes)) bytes (length bytes) 0 refl (λ k less. sym (byte_of bytes k (λ i. below_256 bytes i h))))
