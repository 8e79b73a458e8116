-- What is read of bytes can be written again: its numbers are within their widths.
use Rattle.std.proofs.Common.{◌≡◌, ℕ, suc, List, [], ◌∷◌, ◌++◌, length, Bool, true, false, eqb, Option, Some, None, Result, Ok, Err}
use Rattle.std.proofs.Common.{refl, sym, subst, arith}
use Rattle.std.specs.Prelude.{if◌then◌else◌, IfSome}
use Rattle.std.specs.List.{list_all, AllByRecursion}
use Rattle.std.specs.Str.{bytes_eq}
use Rattle.std.proofs.lemmas.Bool.{eqb-true}
use Rattle.spec_data.specs.Lists.{look_up}
use Rattle.spec_bitcoin.specs.declared.tx.Tx.{Tx}
use Rattle.spec_bitcoin.specs.Spelling.{witness_bytes, output_bytes, IsBytes, IsString, IsOutput, IsTransaction}
use Rattle.spec_bitcoin.specs.Reading.{any, output_at, witness_at, transaction_of}
use Rattle.spec_text.specs.Words.{◌>>=◌, given}
use Rattle.spec_tool.specs.declared.psbt.PsbtInput.{PsbtInput}
use Rattle.spec_tool.specs.Psbt.{Psbt, Pairing, is_before, is_unsigned, IsPairing, IsMap, type_of, whole, unsigned_of, output_of}
use Rattle.spec_tool.specs.Psbt.{witness_of, global_fits, global_of, input_fits, insert_signature, key_behind_type, signatures_of}
use Rattle.spec_tool.specs.Psbt.{input_said, input_of, inputs_of, Spells}
use Rattle.spec_tool.specs.PsbtBytes.{psbt_of}
use Rattle.theory_bitcoin.proofs.Exact.{Exact}
use Rattle.theory_bitcoin.proofs.Parts.{Is, an_output}
use Rattle.theory_bitcoin.proofs.Top as top
use Rattle.theory_text.proofs.ListFacts.{and_left, and_right}
use Rattle.theory_text.proofs.Options.{some, some_is, none_some, came, onto_is, given_is}
use Rattle.theory_psbt.specs.Fitting.{IsSignature, IsStack, IsKnown, IsFitting}
use Rattle.theory_psbt.proofs.Kept.{spelled_is_psbt}
use Rattle.theory_psbt.proofs.PartBytes.{the_stack}
use Rattle.theory_psbt.proofs.Reading.{read_is_spelled}

-- ---- values of records

-- a value that is found is a string
found_string : (key : List ℕ) (records : List Pairing) (value : List ℕ) → AllByRecursion IsPairing records
    → look_up key records ≡ some value → IsString value
found_string key [] value h e = absurd (none_some value e)
found_string key (r ∷ rs) value h e = by_key (bytes_eq (r.0) key) e (found_string key rs value h.1)
  where
    by_key : (t : Bool) → (if t then Some (r.1) else look_up key rs) ≡ some value → (look_up key rs ≡ some value → IsString value)
        → IsString value
    by_key true f later = subst IsString (some_is (r.1) value f) h.0.value
    by_key false f later = later f

-- what is all of some bytes has its spelling
whole_fits : {A : Type 0} (f : A → List ℕ) (Fits : A → Type 0) (read : List ℕ → Result (A × List ℕ) ℕ) → Exact (Is f Fits) read
    → (bytes : List ℕ) (a : A) → IsBytes bytes → whole (read bytes) ≡ some a → Fits a
whole_fits f Fits read exact bytes a are e = by_answer (read bytes) refl e
  where
    by_answer : (r : Result (_ × List ℕ) ℕ) → read bytes ≡ r → whole r ≡ some a → Fits a
    by_answer (Err left) is h = absurd (none_some a h)
    by_answer (Ok p) is h =
        let g = given_is (eqb (length (p.1)) 0) (p.0) a h in
        subst Fits g.same (exact.takes bytes (p.0) (p.1) are is).spelled.fits

unsigned_fits : (bytes : List ℕ) (tx : Tx) → IsBytes bytes → unsigned_of bytes ≡ some tx → IsTransaction tx
unsigned_fits bytes tx are e = by_answer (transaction_of bytes) refl e
  where
    by_answer : (r : Result Tx ℕ) → transaction_of bytes ≡ r → elim r [ Ok t ↦ given (is_unsigned t) t | Err place ↦ None ] ≡ some tx
        → IsTransaction tx
    by_answer (Err place) is h = absurd (none_some tx h)
    by_answer (Ok t) is h =
        let g = given_is (is_unsigned t) t tx h in
        subst IsTransaction g.same (top.read_is_spelled bytes t are is).fits

global_fit : (records : List Pairing) (tx : Tx) → IsMap records → global_of records ≡ some tx → IsTransaction tx
global_fit records tx map e =
    let k = came (given (list_all global_fits records) records) (λ known. look_up (0 ∷ []) known >>= unsigned_of) tx e in
    let g = given_is (list_all global_fits records) records k.first k.is in
    let b = came (look_up (0 ∷ []) k.first) unsigned_of tx k.then' in
    let here = subst (AllByRecursion IsPairing) g.same map.each in
    unsigned_fits b.first tx (found_string (0 ∷ []) k.first b.first here b.is).bytes b.then'

-- ---- an input

-- a part that the value of a record spells
part_fits : {A : Type 0} (Fits : A → Type 0) (read : List ℕ → Option A) → ((bytes : List ℕ) (a : A) → IsBytes bytes
    → read bytes ≡ some a → Fits a)
    → (key : List ℕ) (records : List Pairing) → AllByRecursion IsPairing records → IfSome (look_up key records >>= read) Fits
part_fits Fits read f key records each = by_value (look_up key records) refl
  where
    by_value : (o : Option (List ℕ)) → look_up key records ≡ o → IfSome (o >>= read) Fits
    by_value None is = tt
    by_value (Some bytes) is = by_read (read bytes) refl
      where
        by_read : (q : Option _) → read bytes ≡ q → IfSome q Fits
        by_read None h = tt
        by_read (Some a) h = f bytes a (found_string key records bytes each is).bytes h

script_fits : (key : List ℕ) (records : List Pairing) → AllByRecursion IsPairing records → IfSome (look_up key records) IsString
script_fits key records each = by_value (look_up key records) refl
  where
    by_value : (o : Option (List ℕ)) → look_up key records ≡ o → IfSome o IsString
    by_value None is = tt
    by_value (Some bytes) is = found_string key records bytes each is

pub put_fits : (r : Pairing) (ss : List Pairing) → IsSignature r → AllByRecursion IsSignature ss
    → AllByRecursion IsSignature (insert_signature r ss)
put_fits r [] h k = (h, tt)
put_fits r (s ∷ ss) h k = by_place (is_before (r.0) (s.0)) (put_fits r ss h k.1)
  where
    by_place : (t : Bool) → AllByRecursion IsSignature (insert_signature r ss)
        → AllByRecursion IsSignature (if t then r ∷ (s ∷ ss) else s ∷ insert_signature r ss)
    by_place true later = (h, k)
    by_place false later = (k.0, later)

-- a signature's record has a key of its length
signature_fits : (key value : List ℕ) → IsPairing (key, value) → type_of (key, value) ≡ 2 → input_fits (key, value) ≡ true
    → IsSignature (key_behind_type key, value)
signature_fits [] value p two h = cc
signature_fits (t ∷ key) value p two h =
    let long : eqb (length (t ∷ key)) 34 ≡ true = subst (λ x. input_fits (x ∷ key, value) ≡ true) two h in
    let size = eqb-true (length (t ∷ key)) 34 long in
    record { key = λ i. p.key.bytes (suc i); size = omega (arith, size); value = p.value }

signatures_fit : (records : List Pairing) → AllByRecursion IsPairing records → list_all input_fits records ≡ true
    → AllByRecursion IsSignature (signatures_of records)
signatures_fit [] each h = tt
signatures_fit (r ∷ rs) each h = by_type (eqb (type_of r) 2) refl (signatures_fit rs each.1 (and_right (input_fits r) _ h))
  where
    by_type : (t : Bool) → eqb (type_of r) 2 ≡ t → AllByRecursion IsSignature (signatures_of rs)
        → AllByRecursion IsSignature (if t then insert_signature (key_behind_type (r.0), r.1) (signatures_of rs) else signatures_of rs)
    by_type true e later =
        put_fits (key_behind_type (r.0), r.1) (signatures_of rs)
        (signature_fits (r.0) (r.1) each.0 (eqb-true (type_of r) 2 e) (and_left _ _ h)) later
    by_type false e later = later

said_known : (records : List Pairing) → AllByRecursion IsPairing records → list_all input_fits records ≡ true → IsKnown (input_said records)
said_known records each fits = record {
  spent = part_fits IsOutput output_of (whole_fits output_bytes IsOutput output_at an_output) (1 ∷ []) records each;
  partial = signatures_fit records each fits;
  script = script_fits (5 ∷ []) records each;
  witness = part_fits IsStack witness_of (whole_fits witness_bytes IsStack (witness_at any) the_stack) (8 ∷ []) records each;
}

inputs_known : (maps : List (List Pairing)) (inputs : List PsbtInput) → AllByRecursion IsMap maps → inputs_of maps ≡ some inputs
    → AllByRecursion IsKnown inputs
inputs_known [] inputs h e = subst (AllByRecursion IsKnown) (some_is [] inputs e) tt
inputs_known (m ∷ maps) inputs h e =
    let o = onto_is (input_of m) (inputs_of maps) inputs e in
    let g = given_is (list_all input_fits m) (input_said m) o.first o.is in
    subst (AllByRecursion IsKnown) (sym o.all)
    (subst IsKnown g.same (said_known m h.0.each g.holds), inputs_known maps o.others h.1 o.are)

-- ---- the whole

all_prefix : (P : List Pairing → Type 0) (xs ys : List (List Pairing)) → AllByRecursion P (xs ++ ys) → AllByRecursion P xs
all_prefix P [] ys h = tt
all_prefix P (x ∷ xs) ys h = (h.0, all_prefix P xs ys h.1)

pub spelled_fits : (bytes : List ℕ) (p : Psbt) → Spells bytes p → IsFitting p
spelled_fits bytes p s = record {
  is = spelled_is_psbt bytes p s;
  tx = global_fit s.global p.tx s.maps.0 s.tx;
  inputs = inputs_known s.inputs p.inputs (all_prefix IsMap s.inputs s.outputs s.maps.1) s.said;
}

pub read_fits : (bytes : List ℕ) (p : Psbt) → IsBytes bytes → psbt_of bytes ≡ some p → IsFitting p
read_fits bytes p are e = spelled_fits bytes p (read_is_spelled bytes p are e)
