-- A line with a partially signed transaction is read as that very one.
use Rattle.std.proofs.Common.{◌≡◌, ℕ, zero, suc, ◌+◌, ◌<◌, ◌^◌, List, [], ◌∷◌, ◌++◌, length, map, Bool, false, refl, sym, ap, ◌∙◌, subst}
use Rattle.std.proofs.Common.{lit<}
use Rattle.std.specs.Prelude.{◌/◌, ◌%◌, ◌*◌, slice_index}
use Rattle.std.specs.List.{flat_map, AllByRecursion}
use Rattle.std.proofs.lemmas.List.Concat.{flat_map-cons}
use Rattle.spec_data.specs.Hashes.{IsBytes}
use Rattle.spec_data.proofs.ByteLemmas.{IsBytes-append}
use Rattle.spec_bitcoin.specs.Spelling.{IsString, long_word, sized}
use Rattle.spec_text.specs.Words.{◌>>=◌, all_of}
use Rattle.spec_tool.specs.Base64.{symbols, symbol_of, base64_text}
use Rattle.spec_tool.specs.Psbt.{Psbt, Pairing, pairing_bytes, map_bytes, magic, IsPairing, IsMap, Spells}
use Rattle.spec_tool.specs.PsbtBytes.{psbt_of, psbt_bytes}
use Rattle.spec_tool.specs.PsbtText.{psbt_line}
use Rattle.theory_bitcoin.proofs.Exact.{IsBytes-back, bytes_none, bytes_cons}
use Rattle.theory_psbt.specs.Fitting.{IsFitting}
use Rattle.theory_psbt.proofs.Base64ReadBack.{text_reads}
use Rattle.theory_psbt.proofs.PartBytes.{output_is_bytes}
use Rattle.theory_psbt.proofs.Writing.{written_is_spelled, written_is_read}
use Rattle.theory_text.proofs.Lines.LineBytes.{ends_line, lined, lines_again}
use Rattle.theory_text.proofs.Lines.Separated.{Lacks}
use Rattle.theory_text.proofs.Options.{some}
use Rattle.theory_play_text.proofs.LineWords.{lacks_where}
use Rattle.theory_deal_text.specs.Psbts.{psbt_said, psbts_of}

-- ---- what is written is bytes

sized_bytes : (text : List ℕ) → IsString text → IsBytes (sized text)
sized_bytes text h =
    IsBytes-back (long_word 0) (sized text)
    (output_is_bytes (record { value = 0; script = text }) (record { value = lit< tt; script = h }))

records_bytes : (rs : List Pairing) → AllByRecursion IsPairing rs → IsBytes (flat_map pairing_bytes rs)
records_bytes [] h = bytes_none
records_bytes (r ∷ rs) h =
    let one = IsBytes-append (sized (r.0)) (sized (r.1)) (sized_bytes (r.0) h.0.key) (sized_bytes (r.1) h.0.value) in
    subst IsBytes (sym (flat_map-cons pairing_bytes r rs))
    (IsBytes-append (pairing_bytes r) (flat_map pairing_bytes rs) one (records_bytes rs h.1))

a_map_bytes : (rs : List Pairing) → IsMap rs → IsBytes (map_bytes rs)
a_map_bytes rs h =
    IsBytes-append (flat_map pairing_bytes rs) (0 ∷ []) (records_bytes rs h.each) (bytes_cons 0 [] (lit< tt) bytes_none)

maps_bytes : (ms : List (List Pairing)) → AllByRecursion IsMap ms → IsBytes (flat_map map_bytes ms)
maps_bytes [] h = bytes_none
maps_bytes (m ∷ ms) h =
    subst IsBytes (sym (flat_map-cons map_bytes m ms))
    (IsBytes-append (map_bytes m) (flat_map map_bytes ms) (a_map_bytes m h.0) (maps_bytes ms h.1))

first_all : {A : Type 0} (P : A → Type 0) (xs ys : List A) → AllByRecursion P (xs ++ ys) → AllByRecursion P xs
first_all P [] ys h = tt
first_all P (x ∷ xs) ys h = (h.0, first_all P xs ys h.1)

last_all : {A : Type 0} (P : A → Type 0) (xs ys : List A) → AllByRecursion P (xs ++ ys) → AllByRecursion P ys
last_all P [] ys h = h
last_all P (x ∷ xs) ys h = last_all P xs ys h.1

magic_bytes : IsBytes magic
magic_bytes =
    bytes_cons 0x70 (0x73 ∷ 0x62 ∷ 0x74 ∷ 0xff ∷ []) (lit< tt) (bytes_cons 0x73 (0x62 ∷ 0x74 ∷ 0xff ∷ []) (lit< tt)
    (bytes_cons 0x62 (0x74 ∷ 0xff ∷ []) (lit< tt) (bytes_cons 0x74 (0xff ∷ []) (lit< tt) (bytes_cons 0xff [] (lit< tt) bytes_none))))

spelled_bytes : (bytes : List ℕ) (p : Psbt) → Spells bytes p → IsBytes bytes
spelled_bytes bytes p h =
    let inputs = maps_bytes h.inputs (first_all IsMap h.inputs h.outputs h.maps.1) in
    let outputs = maps_bytes h.outputs (last_all IsMap h.inputs h.outputs h.maps.1) in
    let behind = flat_map map_bytes h.inputs ++ flat_map map_bytes h.outputs in
    let inner = IsBytes-append (flat_map map_bytes h.inputs) (flat_map map_bytes h.outputs) inputs outputs in
    let all = IsBytes-append (map_bytes h.global) behind (a_map_bytes h.global h.maps.0) inner in
    subst IsBytes (sym h.same) (IsBytes-append magic (map_bytes h.global ++ behind) magic_bytes all)

-- ---- a line

-- one that can be written, and that isn't long
pub record IsWritable (p : Psbt) : Type 0 where
  pub fits : IsFitting p
  pub short : length (psbt_bytes p) < 2 ^ 64

abbrev word_of : Psbt → List ℕ
word_of p = base64_text (psbt_bytes p)

word_read : (p : Psbt) → IsWritable p → psbt_said (word_of p) ≡ some p
word_read p h =
    ap (λ o. o >>= psbt_of) (text_reads (psbt_bytes p) (spelled_bytes (psbt_bytes p) p (written_is_spelled p h.fits h.short)))
    ∙ written_is_read p h.fits h.short

-- none of the symbols ends a line
symbols_lack : Lacks ends_line symbols
symbols_lack = lacks_where ends_line symbols refl

-- what stands at a number of bytes of which none passes
pub lacks_at : (test : ℕ → Bool) (bytes : List ℕ) (k : ℕ) → Lacks test bytes → test 0 ≡ false → test (slice_index bytes k) ≡ false
lacks_at test [] k h z = z
lacks_at test (b ∷ bytes) zero h z = h.0
lacks_at test (b ∷ bytes) (suc k) h z = lacks_at test bytes k h.1 z

symbol_ends : (v : ℕ) → ends_line (symbol_of v) ≡ false
symbol_ends v = lacks_at ends_line symbols v symbols_lack refl

text_ends : (bytes : List ℕ) → Lacks ends_line (base64_text bytes)
unfolding base64_text
text_ends [] = tt
text_ends (a ∷ []) = (symbol_ends (a / 4), (symbol_ends (a % 4 * 16), (refl, (refl, tt))))
text_ends (a ∷ b ∷ []) =
    (symbol_ends (a / 4), (symbol_ends (a % 4 * 16 + b / 16), (symbol_ends (b % 16 * 4), (refl, tt))))
text_ends (a ∷ b ∷ c ∷ rest) = (
  symbol_ends (a / 4),
  (symbol_ends (a % 4 * 16 + b / 16), (symbol_ends (b % 16 * 4 + c / 64), (symbol_ends (c % 64), text_ends rest))),
)

-- ---- lines

words_read : (ps : List Psbt) → AllByRecursion IsWritable ps → all_of psbt_said (map word_of ps) ≡ some ps
words_read [] h = refl
words_read (p ∷ ps) h = rw (word_read p h.0, words_read ps h.1) refl

words_end : (ps : List Psbt) → AllByRecursion (Lacks ends_line) (map word_of ps)
words_end [] = tt
words_end (p ∷ ps) = (text_ends (psbt_bytes p), words_end ps)

lines_are : (ps : List Psbt) → flat_map psbt_line ps ≡ lined (map word_of ps)
lines_are [] = refl
lines_are (p ∷ ps) = ap (λ (t : List ℕ). psbt_line p ++ t) (lines_are ps)

pub psbts_back : (ps : List Psbt) → AllByRecursion IsWritable ps → psbts_of (flat_map psbt_line ps) ≡ some ps
psbts_back ps h =
    ap psbts_of (lines_are ps)
    ∙ (ap (all_of psbt_said) (lines_again (map word_of ps) (words_end ps)) ∙ words_read ps h)
