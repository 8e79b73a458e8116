-- The parts of a transaction are written as bytes, and a written part is read as it.
use Rattle.std.proofs.Common.{◌≡◌, lit<, ℕ, zero, suc, ◌<◌, List, [], ◌∷◌, ◌++◌, length, true, false, None, Result, Ok, Err, refl, sym, ap, subst, ◌∙◌, arith}
use Rattle.std.specs.Int.{w16, w32, w64, byte_at, bytes_low_first, to_le_bytes}
use Rattle.std.specs.List.{flat_map, list_all, AllByRecursion}
use Rattle.std.proofs.lemmas.List.{append-nil}
use Rattle.std.proofs.lemmas.List.Concat.{flat_map-cons}
use Rattle.spec_data.proofs.ByteLemmas.{IsBytes-append}
use Rattle.spec_bitcoin.specs.declared.tx.TxIn.{TxIn}
use Rattle.spec_bitcoin.specs.declared.tx.TxOut.{TxOut}
use Rattle.spec_bitcoin.specs.declared.tx.Tx.{Tx}
use Rattle.spec_bitcoin.specs.Spelling.{compact, sized, word, long_word, place_bytes, input_bytes, output_bytes, witness_bytes, inputs_bytes, outputs_bytes, stripped, is_filled, is_marked, IsBytes, IsString, IsInput, IsOutput, IsTransaction}
use Rattle.spec_bitcoin.specs.Reading.{any, many, compact_at, string_at, output_at, witness_at, transaction_of}
use Rattle.spec_text.specs.Words.{given}
use Rattle.spec_tool.specs.Psbt.{is_bare_input, is_unsigned, output_of, witness_of, unsigned_of}
use Rattle.theory_bitcoin.proofs.Exact.{Exact, bind, transfer, bytes_none, bytes_cons}
use Rattle.theory_bitcoin.proofs.Formats.{Form, single, two, four, eight, form_of, Count, count}
use Rattle.theory_bitcoin.proofs.Languages.{Seq}
use Rattle.theory_bitcoin.proofs.Parts.{Is, Are, the_many, the_string, an_output}
use Rattle.theory_bitcoin.proofs.Top as top
use Rattle.theory_text.proofs.ListFacts.{and_left, and_right, or_no, not_yes}
use Rattle.theory_text.proofs.Options.{some}
use Rattle.theory_psbt.specs.Fitting.{IsStack}

-- ---- they are bytes

byte_small : (i n : ℕ) → byte_at i n < 256
byte_small zero n = omega arith
byte_small (suc i) n = omega arith

low_first_bytes : (i k n : ℕ) → IsBytes (bytes_low_first i k n)
low_first_bytes i zero n = bytes_none
low_first_bytes i (suc k) n = bytes_cons (byte_at i n) (bytes_low_first (suc i) k n) (byte_small i n) (low_first_bytes (suc i) k n)

word_bytes : (n : ℕ) → IsBytes (word n)
word_bytes n = low_first_bytes 0 4 n

long_word_bytes : (n : ℕ) → IsBytes (long_word n)
long_word_bytes n = low_first_bytes 0 8 n

compact_bytes : (n : ℕ) → IsBytes (compact n)
compact_bytes n = by_form (form_of n)
  where
    by_form : Form n → IsBytes (compact n)
    by_form (single lt e) = subst IsBytes (sym e) (bytes_cons n [] (omega arith) bytes_none)
    by_form (two ge lt e) = subst IsBytes (sym e) (bytes_cons 253 (to_le_bytes w16 n) (lit< tt) (low_first_bytes 0 2 n))
    by_form (four ge lt e) = subst IsBytes (sym e) (bytes_cons 254 (to_le_bytes w32 n) (lit< tt) (low_first_bytes 0 4 n))
    by_form (eight ge e) = subst IsBytes (sym e) (bytes_cons 255 (to_le_bytes w64 n) (lit< tt) (low_first_bytes 0 8 n))

sized_bytes : (text : List ℕ) → IsString text → IsBytes (sized text)
sized_bytes text h = IsBytes-append (compact (length text)) text (compact_bytes (length text)) h.bytes

all_bytes : {A : Type 0} (f : A → List ℕ) (Fits : A → Type 0) (xs : List A) → ((x : A) → Fits x → IsBytes (f x)) → AllByRecursion Fits xs
    → IsBytes (flat_map f xs)
all_bytes f Fits [] each h = bytes_none
all_bytes f Fits (x ∷ xs) each h = subst IsBytes (sym (flat_map-cons f x xs)) (IsBytes-append (f x) (flat_map f xs) (each x h.0) (all_bytes f Fits xs each h.1))

pub output_is_bytes : (o : TxOut) → IsOutput o → IsBytes (output_bytes o)
output_is_bytes o h = IsBytes-append (long_word o.value) (sized o.script) (long_word_bytes o.value) (sized_bytes o.script h.script)

pub witness_is_bytes : (items : List (List ℕ)) → IsStack items → IsBytes (witness_bytes items)
witness_is_bytes items h =
    IsBytes-append (compact (length items)) (flat_map sized items) (compact_bytes (length items)) (all_bytes sized IsString items sized_bytes h.each)

input_is_bytes : (i : TxIn) → IsInput i → IsBytes (input_bytes i)
input_is_bytes i h =
    IsBytes-append (place_bytes i.prev ++ sized i.script_sig) (word i.sequence)
    (IsBytes-append (place_bytes i.prev) (sized i.script_sig)
    (IsBytes-append i.prev.txid (word i.prev.vout) h.prev.txid (word_bytes i.prev.vout)) (sized_bytes i.script_sig h.script_sig))
    (word_bytes i.sequence)

pub stripped_is_bytes : (tx : Tx) → IsTransaction tx → IsBytes (stripped tx)
unfolding stripped
stripped_is_bytes tx h =
    IsBytes-append (word tx.version ++ inputs_bytes tx.inputs ++ outputs_bytes tx.outputs) (word tx.lock)
    (IsBytes-append (word tx.version ++ inputs_bytes tx.inputs) (outputs_bytes tx.outputs)
    (IsBytes-append (word tx.version) (inputs_bytes tx.inputs) (word_bytes tx.version)
    (IsBytes-append (compact (length tx.inputs)) (flat_map input_bytes tx.inputs) (compact_bytes (length tx.inputs))
    (all_bytes input_bytes IsInput tx.inputs input_is_bytes h.inputs)))
    (IsBytes-append (compact (length tx.outputs)) (flat_map output_bytes tx.outputs) (compact_bytes (length tx.outputs))
    (all_bytes output_bytes IsOutput tx.outputs output_is_bytes h.outputs)))
    (word_bytes tx.lock)

-- ---- they are read again

pub output_again : (o : TxOut) → IsOutput o → output_of (output_bytes o) ≡ some o
output_again o h =
    let e : output_at (output_bytes o) ≡ Ok (o, []) =
    ap output_at (sym (append-nil (output_bytes o))) ∙ an_output.again (output_bytes o) [] o (record { same = refl; fits = h }) in
    rw e refl

stack_to : (text : List ℕ) (items : List (List ℕ)) → Seq (Count any) (Are sized IsString) text items → Is witness_bytes IsStack text items
stack_to text items s = record {
  same = s.parts ∙ rw (s.prefix.bytes, s.back.same, s.back.len) refl;
  fits = record { few = omega (arith, s.back.len, s.prefix.most); each = s.back.each };
}

stack_from : (text : List ℕ) (items : List (List ℕ)) → Is witness_bytes IsStack text items → Seq (Count any) (Are sized IsString) text items
stack_from text items h = record {
  first = compact (length items);
  second = flat_map sized items;
  value = length items;
  parts = h.same;
  prefix = record { bytes = refl; most = h.fits.few; head = λ b rest e. refl };
  back = record { same = refl; len = refl; each = h.fits.each };
}

pub the_stack : Exact (Is witness_bytes IsStack) (witness_at any)
unfolding witness_at
the_stack = transfer (Seq (Count any) (Are sized IsString)) (Is witness_bytes IsStack) (witness_at any) stack_to stack_from
    (bind (Count any) (Are sized IsString) (compact_at any) (many string_at) (count any 0 refl (lit< tt))
    (λ n t l. the_many sized IsString string_at the_string n))

pub witness_again : (items : List (List ℕ)) → IsStack items → witness_of (witness_bytes items) ≡ some items
witness_again items h =
    let e : witness_at any (witness_bytes items) ≡ Ok (items, []) =
    ap (witness_at any) (sym (append-nil (witness_bytes items))) ∙ the_stack.again (witness_bytes items) [] items (record {
      same = refl;
      fits = h;
    }) in
    rw e refl

unmarked : (inputs : List TxIn) → list_all is_bare_input inputs ≡ true → is_marked inputs ≡ false
unmarked [] h = refl
unmarked (i ∷ is) h =
    let here = not_yes (is_filled i.witness) (and_right _ _ (and_left _ _ h)) in
    or_no _ _ here (unmarked is (and_right (is_bare_input i) _ h))

pub unsigned_again : (tx : Tx) → IsTransaction tx → is_unsigned tx ≡ true → unsigned_of (stripped tx) ≡ some tx
unsigned_again tx h u =
    let plain : is_marked tx.inputs ≡ false = unmarked tx.inputs (and_right _ _ u) in
    let e : transaction_of (stripped tx) ≡ Ok tx = top.spelled_is_read (stripped tx) tx (record { same = rw plain refl; fits = h }) in
    subst (λ (r : Result Tx ℕ). elim r [ Ok t ↦ given (is_unsigned t) t | Err place ↦ None ] ≡ some tx) (sym e) (rw u refl)
