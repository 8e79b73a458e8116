-- What is printed of a listed transaction is read as that very one.
use Rattle.std.proofs.Common.{◌≡◌, ℕ, ◌+◌, ◌*◌, ◌≤◌, ◌<◌, ◌^◌, List, [], ◌∷◌, ◌++◌, length, Some, Ok, refl, sym, ap, ◌∙◌, subst}
use Rattle.std.proofs.Common.{arith, lit<, length-append}
use Rattle.std.specs.List.{flat_map, AllByRecursion}
use Rattle.std.proofs.lemmas.List.Concat.{flat_map-cons}
use Rattle.spec_data.specs.Hashes.{IsBytes, HashesBytes}
use Rattle.spec_data.proofs.ByteLemmas.{IsBytes-append}
use Rattle.spec_bitcoin.specs.Keys.{Pair}
use Rattle.spec_bitcoin.specs.Spelling.{IsString, long_word, sized}
use Rattle.spec_text.specs.RunText.{newline}
use Rattle.spec_tool.specs.Base64.{base64_text, base64_bytes}
use Rattle.spec_tool.specs.Listed.{Listed}
use Rattle.spec_tool.specs.Psbt.{Psbt, Pairing, pairing_bytes, map_bytes, magic, IsPairing, IsMap, Spells}
use Rattle.spec_tool.specs.PsbtBytes.{psbt_of, psbt_bytes}
use Rattle.spec_tool.specs.PsbtText.{listed_psbt, psbt_line, without_feed, formed, decoded, psbt_in}
use Rattle.theory_psbt.proofs.Base64ReadBack.{text_reads}
use Rattle.theory_bitcoin.proofs.Exact.{IsBytes-back, bytes_none, bytes_cons}
use Rattle.theory_psbt.specs.Fitting.{IsFitting}
use Rattle.theory_psbt.specs.Listed.{IsListed}
use Rattle.theory_psbt.proofs.ListedFits.{listed_fits}
use Rattle.theory_psbt.proofs.PartBytes.{output_is_bytes}
use Rattle.theory_psbt.proofs.Writing.{written_is_spelled, written_is_read}
use Rattle.theory_psbt_listed.proofs.Sizes.{IsSmall, psbt_small}

-- ---- what is written is bytes

sized_bytes : (text : List ℕ) → IsString text → IsBytes (sized text)
sized_bytes text h =
    IsBytes-back (long_word 0) (sized text)
    (output_is_bytes (record { value = 0; script = text }) (record { value = lit< tt; script = h }))

records_bytes : (rs : List Pairing) → AllByRecursion IsPairing rs → IsBytes (flat_map pairing_bytes rs)
records_bytes [] h = bytes_none
records_bytes (r ∷ rs) h =
    let one = IsBytes-append (sized (r.0)) (sized (r.1)) (sized_bytes (r.0) h.0.key) (sized_bytes (r.1) h.0.value) in
    subst IsBytes (sym (flat_map-cons pairing_bytes r rs))
    (IsBytes-append (pairing_bytes r) (flat_map pairing_bytes rs) one (records_bytes rs h.1))

a_map_bytes : (rs : List Pairing) → IsMap rs → IsBytes (map_bytes rs)
a_map_bytes rs h =
    IsBytes-append (flat_map pairing_bytes rs) (0 ∷ []) (records_bytes rs h.each) (bytes_cons 0 [] (lit< tt) bytes_none)

maps_bytes : (ms : List (List Pairing)) → AllByRecursion IsMap ms → IsBytes (flat_map map_bytes ms)
maps_bytes [] h = bytes_none
maps_bytes (m ∷ ms) h =
    subst IsBytes (sym (flat_map-cons map_bytes m ms))
    (IsBytes-append (map_bytes m) (flat_map map_bytes ms) (a_map_bytes m h.0) (maps_bytes ms h.1))

first_all : {A : Type 0} (P : A → Type 0) (xs ys : List A) → AllByRecursion P (xs ++ ys) → AllByRecursion P xs
first_all P [] ys h = tt
first_all P (x ∷ xs) ys h = (h.0, first_all P xs ys h.1)

last_all : {A : Type 0} (P : A → Type 0) (xs ys : List A) → AllByRecursion P (xs ++ ys) → AllByRecursion P ys
last_all P [] ys h = h
last_all P (x ∷ xs) ys h = last_all P xs ys h.1

magic_bytes : IsBytes magic
magic_bytes =
    bytes_cons 0x70 (0x73 ∷ 0x62 ∷ 0x74 ∷ 0xff ∷ []) (lit< tt) (bytes_cons 0x73 (0x62 ∷ 0x74 ∷ 0xff ∷ []) (lit< tt)
    (bytes_cons 0x62 (0x74 ∷ 0xff ∷ []) (lit< tt) (bytes_cons 0x74 (0xff ∷ []) (lit< tt) (bytes_cons 0xff [] (lit< tt) bytes_none))))

spelled_bytes : (bytes : List ℕ) (p : Psbt) → Spells bytes p → IsBytes bytes
spelled_bytes bytes p h =
    let inputs = maps_bytes h.inputs (first_all IsMap h.inputs h.outputs h.maps.1) in
    let outputs = maps_bytes h.outputs (last_all IsMap h.inputs h.outputs h.maps.1) in
    let behind = flat_map map_bytes h.inputs ++ flat_map map_bytes h.outputs in
    let inner = IsBytes-append (flat_map map_bytes h.inputs) (flat_map map_bytes h.outputs) inputs outputs in
    let all = IsBytes-append (map_bytes h.global) behind (a_map_bytes h.global h.maps.0) inner in
    subst IsBytes (sym h.same) (IsBytes-append magic (map_bytes h.global ++ behind) magic_bytes all)

-- ---- lines

feed_cut : (text : List ℕ) → without_feed (text ++ 10 ∷ []) ≡ text
feed_cut [] = refl
feed_cut (x ∷ []) = refl
feed_cut (x ∷ (y ∷ text)) = ap (λ (t : List ℕ). x ∷ t) (feed_cut (y ∷ text))

text_size : (bytes : List ℕ) → length (base64_text bytes) ≤ 2 * length bytes + 4
unfolding base64_text
text_size [] = omega arith
text_size (a ∷ []) = omega arith
text_size (a ∷ b ∷ []) = omega arith
text_size (a ∷ b ∷ c ∷ rest) = let r = text_size rest in omega (arith, r)

line_read : (p : Psbt) → IsBytes (psbt_bytes p) → psbt_of (psbt_bytes p) ≡ Some p → psbt_in (Some (psbt_line p)) ≡ Ok p
line_read p are again =
    ap (λ (t : List ℕ). decoded (base64_bytes t)) (feed_cut (base64_text (psbt_bytes p)))
    ∙ ap decoded (text_reads (psbt_bytes p) are)
    ∙ ap formed again

-- ---- listed transactions

pub record IsReadAgain (hash : List ℕ → List ℕ) (book : List Pair) (l : Listed) : Type 0 where
  pub small : length (psbt_line (listed_psbt hash book l)) ≤ 1000005
  pub read : psbt_in (Some (psbt_line (listed_psbt hash book l))) ≡ Ok (listed_psbt hash book l)

pub read_again : (hash : List ℕ → List ℕ) → HashesBytes hash → (book : List Pair) (l : Listed) → IsListed hash l → IsSmall l
    → IsReadAgain hash book l
read_again hash size book l listed small =
    let p = listed_psbt hash book l in
    let fits : IsFitting p = listed_fits hash size book l listed in
    let few = psbt_small hash size book l small in
    let n = text_size (psbt_bytes p) in
    let m = length-append (base64_text (psbt_bytes p)) newline in
    let short : length (psbt_bytes p) < 2 ^ 64 = omega (arith, few) in
    record {
      small = omega (arith, few, n, m);
      read = line_read p (spelled_bytes (psbt_bytes p) p (written_is_spelled p fits short)) (written_is_read p fits short);
    }
