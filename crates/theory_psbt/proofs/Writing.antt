-- What is written of a partially signed transaction spells it.
use Rattle.std.proofs.Common.{◌≡◌, lit<, ℕ, zero, suc, ◌+◌, ◌<◌, ◌^◌, List, [], ◌∷◌, ◌++◌, length, map, replicate, Bool, true, false, eqb, Option, Some, None, refl, sym, ap, ◌∙◌, arith}
use Rattle.std.specs.Prelude.{IfSome, is_some, if◌then◌else◌, ◌&&◌}
use Rattle.std.specs.List.{flat_map, list_all, AllByRecursion}
use Rattle.std.specs.Option.{option_map}
use Rattle.std.proofs.lemmas.Bool.{eq-eqb, eqb-true, ne_eqb}
use Rattle.std.proofs.lemmas.List.{length-append}
use Rattle.std.proofs.lemmas.List.Concat.{flat_map-cons}
use Rattle.std.proofs.lemmas.List.Folds.{flat_map-map, list_all-append}
use Rattle.spec_data.specs.Lists.{look_up}
use Rattle.spec_bitcoin.specs.declared.tx.TxOut.{TxOut}
use Rattle.spec_bitcoin.specs.Spelling.{compact, sized, stripped, output_bytes, witness_bytes, IsBytes, IsString, IsOutput}
use Rattle.spec_text.specs.Words.{◌>>=◌}
use Rattle.spec_tool.specs.declared.psbt.PsbtInput.{PsbtInput}
use Rattle.spec_tool.specs.Psbt.{Psbt, Pairing, pairing_bytes, map_bytes, magic, all_type, is_unsigned, IsPairing, IsMap, output_of, witness_of, input_fits, input_said, input_of, inputs_of, signatures_of, Spells}
use Rattle.spec_tool.specs.PsbtBytes.{part, as_it_is, all_part, input_records, psbt_bytes, psbt_of}
use Rattle.theory_bitcoin.proofs.Exact.{bytes_none, bytes_cons}
use Rattle.theory_text.proofs.ListFacts.{and_is, and_left, and_right}
use Rattle.theory_text.proofs.Options.{some}
use Rattle.theory_psbt.specs.Fitting.{IsSignature, IsStack, IsKnown, IsFitting}
use Rattle.theory_psbt.proofs.Kept.{signs_ascend}
use Rattle.theory_psbt.proofs.PartBytes.{output_is_bytes, witness_is_bytes, stripped_is_bytes, output_again, witness_again, unsigned_again}
use Rattle.theory_psbt.proofs.Reading as reading
use Rattle.theory_psbt.proofs.Records.{signed, records_apart, found_spent, found_signature, found_all, found_script, found_witness}
use Rattle.theory_psbt.proofs.Signatures.{same_signatures}

-- ---- each record is one that a map can have

-- the key is a string and not empty, and the value is of bytes
record IsProper (r : Pairing) : Type 0 where
  some : eqb (length (r.0)) 0 ≡ false
  key : IsString (r.0)
  value : IsBytes (r.1)

single_key : (t : ℕ) → t < 256 → IsString (t ∷ [])
single_key t h = record { bytes = bytes_cons t [] h bytes_none; size = lit< tt }

all_joined : {A : Type 0} (P : A → Type 0) (xs ys : List A) → AllByRecursion P xs → AllByRecursion P ys → AllByRecursion P (xs ++ ys)
all_joined P [] ys h k = k
all_joined P (x ∷ xs) ys h k = (h.0, all_joined P xs ys h.1 k)

part_proper : {A : Type 0} (t : ℕ) (spell : A → List ℕ) (Fits : A → Type 0) (o : Option A) → t < 256 → IfSome o Fits
    → ((a : A) → Fits a → IsBytes (spell a)) → AllByRecursion IsProper (part t spell o)
part_proper t spell Fits (Some a) small h bytes = (record { some = refl; key = single_key t small; value = bytes a h }, tt)
part_proper t spell Fits None small h bytes = tt

all_proper : (all : Bool) → AllByRecursion IsProper (all_part all)
all_proper true = (
  record {
    some = refl;
    key = single_key 3 (lit< tt);
    value = bytes_cons 1 (0 ∷ 0 ∷ 0 ∷ []) (lit< tt)
        (bytes_cons 0 (0 ∷ 0 ∷ []) (lit< tt) (bytes_cons 0 (0 ∷ []) (lit< tt) (bytes_cons 0 [] (lit< tt) bytes_none)));
  },
  tt,
)
all_proper false = tt

signatures_proper : (ps : List Pairing) → AllByRecursion IsSignature ps → AllByRecursion IsProper (map {B = Pairing} (λ p. (2 ∷ p.0, p.1)) ps)
signatures_proper [] h = tt
signatures_proper (p ∷ ps) h = (
  record {
    some = ne_eqb (length (2 ∷ p.0)) 0
        (λ e. absurd (omega (arith, e, h.0.size)));
    key = record {
      bytes = bytes_cons 2 (p.0) (lit< tt) h.0.key;
      size = omega
          (arith, h.0.size);
    };
    value = h.0.value.bytes;
  },
  signatures_proper ps h.1,
)

records_proper : (i : PsbtInput) → IsKnown i → AllByRecursion IsProper (input_records i)
records_proper i h =
    all_joined IsProper (part 1 output_bytes i.spent) _ (part_proper 1 output_bytes IsOutput i.spent (lit< tt) h.spent output_is_bytes)
    (all_joined IsProper (map {B = Pairing} (λ p. (2 ∷ p.0, p.1)) i.partial) _ (signatures_proper i.partial h.partial)
    (all_joined IsProper (all_part i.all) _ (all_proper i.all)
    (all_joined IsProper (part 5 as_it_is i.script) _ (part_proper 5 as_it_is IsString i.script (lit< tt) h.script (λ s f. f.bytes))
    (part_proper 8 witness_bytes IsStack i.witness (lit< tt) h.witness witness_is_bytes))))

-- a value is no longer than the map
small_values : (records : List Pairing) (n : ℕ) → length (flat_map pairing_bytes records) < n → AllByRecursion (λ (r : Pairing). length (r.1) < n) records
small_values [] n h = tt
small_values (r ∷ rs) n h =
    let whole : length (flat_map pairing_bytes (r ∷ rs)) ≡ length (pairing_bytes r) + length (flat_map pairing_bytes rs) =
    ap length (flat_map-cons pairing_bytes r rs) ∙ length-append (pairing_bytes r) (flat_map pairing_bytes rs) in
    let one : length (pairing_bytes r) ≡ length (sized (r.0)) + length (sized (r.1)) = length-append (sized (r.0)) (sized (r.1)) in
    let value : length (sized (r.1)) ≡ length (compact (length (r.1))) + length (r.1) = length-append (compact (length (r.1))) (r.1) in
    (omega arith, small_values rs n (omega arith))

are_pairings : (records : List Pairing) → AllByRecursion IsProper records → AllByRecursion (λ (r : Pairing). length (r.1) < 2 ^ 64) records
    → AllByRecursion IsPairing records
are_pairings [] h k = tt
are_pairings (r ∷ rs) h k = (record { some = h.0.some; key = h.0.key; value = record { bytes = h.0.value; size = k.0 } }, are_pairings rs h.1 k.1)

map_small : (records : List Pairing) → length (map_bytes records) < 2 ^ 64 → length (flat_map pairing_bytes records) < 2 ^ 64
map_small records h = omega (arith, length-append (flat_map pairing_bytes records) (0 ∷ []))

input_map : (i : PsbtInput) → IsKnown i → signs_ascend i ≡ true → length (map_bytes (input_records i)) < 2 ^ 64 → IsMap (input_records i)
input_map i h asc small = record {
  each = are_pairings (input_records i) (records_proper i h) (small_values (input_records i) (2 ^ 64) (map_small (input_records i) small));
  apart = records_apart i asc;
}

-- ---- what the written records say

part_fits : {A : Type 0} (t : ℕ) (spell : A → List ℕ) (Fits : A → Type 0) (o : Option A) → IfSome o Fits
    → ((a : A) → Fits a → input_fits (t ∷ [], spell a) ≡ true) → list_all input_fits (part t spell o) ≡ true
part_fits t spell Fits (Some a) h fits = and_is _ _ (fits a h) refl
part_fits t spell Fits None h fits = refl

all_fits : (all : Bool) → list_all input_fits (all_part all) ≡ true
all_fits true = refl
all_fits false = refl

signatures_fit : (ps : List Pairing) → AllByRecursion IsSignature ps → list_all input_fits (map {B = Pairing} (λ p. (2 ∷ p.0, p.1)) ps) ≡ true
signatures_fit [] h = refl
signatures_fit (p ∷ ps) h = and_is _ _ (eq-eqb (length (2 ∷ p.0)) 34 (omega (arith, h.0.size))) (signatures_fit ps h.1)

both_fit : (xs ys : List Pairing) → list_all input_fits xs ≡ true → list_all input_fits ys ≡ true → list_all input_fits (xs ++ ys) ≡ true
both_fit xs ys h k = list_all-append input_fits xs ys ∙ and_is _ _ h k

output_fits : (o : TxOut) → IsOutput o → input_fits (1 ∷ [], output_bytes o) ≡ true
output_fits o h = rw (output_again o h) refl

witness_fits : (items : List (List ℕ)) → IsStack items → input_fits (8 ∷ [], witness_bytes items) ≡ true
witness_fits items h = rw (witness_again items h) refl

records_fit : (i : PsbtInput) → IsKnown i → list_all input_fits (input_records i) ≡ true
records_fit i h =
    both_fit (part 1 output_bytes i.spent) _ (part_fits 1 output_bytes IsOutput i.spent h.spent output_fits)
    (both_fit (map {B = Pairing} (λ p. (2 ∷ p.0, p.1)) i.partial) _ (signatures_fit i.partial h.partial)
    (both_fit (all_part i.all) _ (all_fits i.all)
    (both_fit (part 5 as_it_is i.script) _ (part_fits 5 as_it_is IsString i.script h.script (λ s f. refl))
    (part_fits 8 witness_bytes IsStack i.witness h.witness witness_fits))))

said_again : {A : Type 0} (spell : A → List ℕ) (read : List ℕ → Option A) (Fits : A → Type 0) (o : Option A) → IfSome o Fits
    → ((a : A) → Fits a → read (spell a) ≡ some a) → (option_map spell o >>= read) ≡ o
said_again spell read Fits (Some a) h again = again a h
said_again spell read Fits None h again = refl

all_said : (all : Bool) → is_some (if all then Some all_type else None) ≡ all
all_said true = refl
all_said false = refl

input_again : (i : PsbtInput) → IsKnown i → signs_ascend i ≡ true → input_of (input_records i) ≡ some i
input_again i h asc =
    let records = input_records i in
    let s = signed records (records_apart i asc) in
    let spent : (look_up (1 ∷ []) records >>= output_of) ≡ i.spent =
    ap (λ (o : Option (List ℕ)). o >>= output_of) (found_spent i) ∙ said_again output_bytes output_of IsOutput i.spent h.spent output_again in
    let partial : signatures_of records ≡ i.partial =
    same_signatures (signatures_of records) i.partial s.ascend asc (λ key. s.found key ∙ found_signature key i) in
    let all : is_some (look_up (3 ∷ []) records) ≡ i.all = ap is_some (found_all i) ∙ all_said i.all in
    let script : look_up (5 ∷ []) records ≡ i.script = found_script i in
    let witness : (look_up (8 ∷ []) records >>= witness_of) ≡ i.witness =
    ap (λ (o : Option (List ℕ)). o >>= witness_of) (found_witness i) ∙ said_again witness_bytes witness_of IsStack i.witness h.witness witness_again in
    let same : input_said records ≡ i = λ k. record { spent = spent k; partial = partial k; all = all k; script = script k; witness = witness k } in
    rw (records_fit i h) (ap (λ (x : PsbtInput). some x) same)

-- ---- all inputs

-- the maps of the inputs, and what they say
record Inputs_written (inputs : List PsbtInput) : Type 0 where
  maps : AllByRecursion IsMap (map input_records inputs)
  said : inputs_of (map input_records inputs) ≡ some inputs

abbrev written_input : PsbtInput → List ℕ
written_input input = map_bytes (input_records input)

inputs_written : (inputs : List PsbtInput) → AllByRecursion IsKnown inputs → list_all signs_ascend inputs ≡ true
    → length (flat_map written_input inputs) < 2 ^ 64 → Inputs_written inputs
inputs_written [] h asc small = record { maps = tt; said = refl }
inputs_written (i ∷ is) h asc small =
    let whole : length (flat_map written_input (i ∷ is)) ≡ length (written_input i) + length (flat_map written_input is) =
    ap length (flat_map-cons written_input i is) ∙ length-append (written_input i) (flat_map written_input is) in
    let here = and_left (signs_ascend i) (list_all signs_ascend is) asc in
    let later = inputs_written is h.1 (and_right (signs_ascend i) _ asc) (omega arith) in
    record { maps = (input_map i h.0 here (omega arith), later.maps); said = rw (input_again i h.0 here, later.said) refl }

-- ---- all outputs

abbrev none : List Pairing
none = []

empty_maps : (n : ℕ) → AllByRecursion IsMap (replicate n none)
empty_maps zero = tt
empty_maps (suc n) = (record { each = tt; apart = refl }, empty_maps n)

empty_bytes : (n : ℕ) → replicate n 0 ≡ flat_map map_bytes (replicate n none)
empty_bytes zero = refl
empty_bytes (suc n) = ap (λ (l : List ℕ). 0 ∷ l) (empty_bytes n) ∙ sym (flat_map-cons map_bytes none (replicate n none))

many_empty : (n : ℕ) → length (replicate n none) ≡ n
many_empty zero = refl
many_empty (suc n) = ap suc (many_empty n)

-- ---- the whole

abbrev global_map : Psbt → List Pairing
global_map p = (0 ∷ [], stripped p.tx) ∷ []

-- what each of the parts has of the whole
record Sizes (p : Psbt) : Type 0 where
  global : length (map_bytes (global_map p)) < 2 ^ 64
  inputs : length (flat_map written_input p.inputs) < 2 ^ 64

sizes : (p : Psbt) → length (psbt_bytes p) < 2 ^ 64 → Sizes p
unfolding psbt_bytes
sizes p h =
    let last : List ℕ = replicate (length p.tx.outputs) 0 in
    let inner : List ℕ = flat_map written_input p.inputs ++ last in
    let prefix : length (psbt_bytes p) ≡ length magic + length (map_bytes (global_map p) ++ inner) = length-append magic (map_bytes (global_map p) ++ inner) in
    let middle : length (map_bytes (global_map p) ++ inner) ≡ length (map_bytes (global_map p)) + length inner =
    length-append (map_bytes (global_map p)) inner in
    let back : length inner ≡ length (flat_map written_input p.inputs) + length last = length-append (flat_map written_input p.inputs) last in
    record { global = omega arith; inputs = omega arith }

parts : (p : Psbt) → psbt_bytes p ≡ magic
    ++ (map_bytes (global_map p) ++ (flat_map map_bytes (map input_records p.inputs) ++ flat_map map_bytes (replicate (length p.tx.outputs) none)))
unfolding psbt_bytes
parts p = rw (flat_map-map map_bytes input_records p.inputs, ← empty_bytes (length p.tx.outputs)) refl

same_length : (inputs : List PsbtInput) → length (map input_records inputs) ≡ length inputs
same_length [] = refl
same_length (i ∷ is) = ap suc (same_length is)

pub written_is_spelled : (p : Psbt) → IsFitting p → length (psbt_bytes p) < 2 ^ 64 → Spells (psbt_bytes p) p
written_is_spelled p h small =
    let size = sizes p small in
    let prefix = and_left (is_unsigned p.tx && eqb (length p.inputs) (length p.tx.inputs)) _ h.is in
    let unsigned = and_left (is_unsigned p.tx) _ prefix in
    let counted = eqb-true (length p.inputs) (length p.tx.inputs) (and_right (is_unsigned p.tx) _ prefix) in
    let asc : list_all signs_ascend p.inputs ≡ true = and_right (is_unsigned p.tx && eqb (length p.inputs) (length p.tx.inputs)) _ h.is in
    let inputs = inputs_written p.inputs h.inputs asc size.inputs in
    let global : IsMap (global_map p) = record {
      each = are_pairings (global_map p) (record { some = refl; key = single_key 0 (lit< tt); value = stripped_is_bytes p.tx h.tx }, tt)
          (small_values (global_map p) (2 ^ 64) (map_small (global_map p) size.global));
      apart = refl;
    } in
    record {
      global = global_map p;
      inputs = map input_records p.inputs;
      outputs = replicate (length p.tx.outputs) none;
      same = parts p;
      maps = (global, all_joined IsMap (map input_records p.inputs) (replicate (length p.tx.outputs) none) inputs.maps (empty_maps (length p.tx.outputs)));
      tx = unsigned_again p.tx h.tx unsigned;
      each_input = same_length p.inputs ∙ counted;
      said = inputs.said;
      each_output = many_empty (length p.tx.outputs);
    }

pub written_is_read : (p : Psbt) → IsFitting p → length (psbt_bytes p) < 2 ^ 64 → psbt_of (psbt_bytes p) ≡ some p
written_is_read p h small = reading.spelled_is_read (psbt_bytes p) p (written_is_spelled p h small)
