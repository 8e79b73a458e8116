-- A finished transaction can be spelled, so it is read again from its text, and its bytes spell no other.
use Rattle.std.proofs.Common.{◌≡◌, ℕ, suc, ◌<◌, List, [], ◌∷◌, ◌++◌, length, map, Bool, true, false, Some, refl, sym, ap, ◌∙◌}
use Rattle.std.proofs.Common.{subst, arith, append-nil, append_assoc, lit<, length-append}
use Rattle.std.specs.Prelude.{if◌then◌else◌}
use Rattle.std.specs.List.{AllByRecursion}
use Rattle.std.proofs.Math.Seq.{take-append_seam}
use Rattle.std.proofs.lemmas.List.Concat.{flat_map-cons}
use Rattle.spec_data.specs.Digits.{hex_text, read_hex}
use Rattle.spec_data.specs.Hashes.{HashesBytes}
use Rattle.spec_data.proofs.ByteLemmas.{IsBytes-append}
use Rattle.spec_bitcoin.specs.declared.tx.TxIn.{TxIn}
use Rattle.spec_bitcoin.specs.declared.tx.Tx.{Tx}
use Rattle.spec_bitcoin.specs.Reading.{transaction_of}
use Rattle.spec_bitcoin.specs.Spelling.{IsBytes, IsInput, IsTransaction, Spells, word, inputs_bytes, outputs_bytes, witness_bytes, witnesses_bytes}
use Rattle.spec_bitcoin.specs.Spelling.{is_marked, stripped, marked, spelling}
use Rattle.spec_compiler.specs.declared.unsigned.Spent.{Spent}
use Rattle.spec_compiler.specs.declared.unsigned.Unsigned.{Unsigned}
use Rattle.spec_compiler.specs.Keyed.Keys.{Keys}
use Rattle.spec_compiler.specs.Keyed.Instance.{Instance}
use Rattle.spec_compiler.specs.Keyed.Transactions.{input_of, tx_of}
use Rattle.spec_run.specs.Firing.{witnessed, with_witnesses}
use Rattle.spec_text.specs.Lines.{lines_of}
use Rattle.spec_text.specs.RunText.{newline}
use Rattle.spec_text.specs.Words.{◌>>=◌}
use Rattle.spec_deal.specs.Finished.{witnesses}
use Rattle.spec_deal.specs.Setting.{deal_keys, deal_instance}
use Rattle.theory_bitcoin.proofs.Exact.{IsBytes-back, IsBytes-take, bytes_none, bytes_cons}
use Rattle.theory_bitcoin.proofs.Formats.{wide32}
use Rattle.theory_bitcoin.proofs.Top.{spelled_is_read, one_transaction}
use Rattle.theory_psbt.specs.Fitting.{IsStack}
use Rattle.theory_psbt.proofs.PartBytes.{witness_is_bytes, stripped_is_bytes}
use Rattle.theory_text.proofs.Lines.HexBack.{hex_back}
use Rattle.theory_text.proofs.Lines.LineBytes.{lines_again, hex_line}
use Rattle.theory_deal.specs.Printed.{only_line, if_read, transaction_in, ReadAgainTheorem}
use Rattle.theory_deal.proofs.Ledger.Funded.{funded_at}
use Rattle.theory_deal.proofs.ReadDeals.{deals_are_sized}
use Rattle.theory_deal.proofs.ReadSignatures.{signatures_are_shaped}
use Rattle.theory_deal.proofs.Ledger.Verdicts.{IsFunded}
use Rattle.theory_deal.proofs.Whole.{strings_fit}
use Rattle.theory_deal.proofs.WholeDeals.{deals_give_all}
use Rattle.theory_deal.proofs.Widths.DealBytes.{deal_widths}
use Rattle.theory_deal.proofs.Widths.Outputs.{IsSmall, small_at}
use Rattle.theory_deal.proofs.Widths.Places.{IsSpendable, spendable_at}
use Rattle.theory_deal.proofs.Widths.SecretBytes.{secret_bytes}
use Rattle.theory_deal.proofs.Widths.SignatureBytes.{signature_bytes}
use Rattle.theory_deal.proofs.Widths.Witnesses.{stacks_at}

-- ---- it can be spelled

inputs_fit : (xs : List Spent) (ws : List (List (List ℕ))) → AllByRecursion IsSpendable xs → AllByRecursion IsStack ws
    → AllByRecursion IsInput (witnessed (map input_of xs) ws)
inputs_fit [] ws h k = tt
inputs_fit (x ∷ xs) [] h k = (
  record {
    prev = h.0.place;
    script_sig = record { bytes = bytes_none; size = lit< tt };
    sequence = lit< tt;
    items = lit< tt;
    witness = tt;
  },
  bare xs h.1,
)
  where
    bare : (ys : List Spent) → AllByRecursion IsSpendable ys → AllByRecursion IsInput (map input_of ys)
    bare [] f = tt
    bare (y ∷ ys) f = (
      record {
        prev = f.0.place;
        script_sig = record { bytes = bytes_none; size = lit< tt };
        sequence = lit< tt;
        items = lit< tt;
        witness = tt;
      },
      bare ys f.1,
    )
inputs_fit (x ∷ xs) (w ∷ ws) h k = (
  record {
    prev = h.0.place;
    script_sig = record { bytes = bytes_none; size = lit< tt };
    sequence = lit< tt;
    items = k.0.few;
    witness = k.0.each;
  },
  inputs_fit xs ws h.1 k.1,
)

many : (xs : List Spent) (ws : List (List (List ℕ))) → length (witnessed (map input_of xs) ws) ≡ length xs
many [] ws = refl
many (x ∷ xs) [] = ap suc (all xs)
  where
    all : (ys : List Spent) → length (map input_of ys) ≡ length ys
    all [] = refl
    all (y ∷ ys) = ap suc (all ys)
many (x ∷ xs) (w ∷ ws) = ap suc (many xs ws)

pub fits : (hash : List ℕ → List ℕ) (keys : Keys) (s : Instance) (bytes : HashesBytes hash) (d : Unsigned) (ws : List (List (List ℕ))) → IsFunded d
    → IsSmall hash bytes keys s d → AllByRecursion IsSpendable d.spends → AllByRecursion IsStack ws
    → IsTransaction (with_witnesses (tx_of d) ws)
fits hash keys s bytes d ws funded small spends stacks =
    let n = many d.spends ws in
    let a = funded.some in
    let b = small.inputs in
    let c = small.outputs in
    let e = funded.height in
    record {
      version = lit< tt;
      some = omega (arith, n, a);
      few_inputs = omega (arith, n, b);
      inputs = inputs_fit d.spends ws spends stacks;
      few_outputs = omega (arith, c);
      outputs = small.fit funded.money;
      lock = omega (arith, e);
    }

-- ---- its bytes

prefix_bytes : (a b : List ℕ) → IsBytes (a ++ b) → IsBytes a
prefix_bytes a b h = subst IsBytes (take-append_seam a b) (IsBytes-take (length a) (a ++ b) h)

witnesses_are_bytes : (is : List TxIn) → AllByRecursion IsInput is → IsBytes (witnesses_bytes is)
witnesses_are_bytes [] h = bytes_none
witnesses_are_bytes (i ∷ is) h =
    subst IsBytes (sym (flat_map-cons (λ (x : TxIn). witness_bytes x.witness) i is))
    (IsBytes-append (witness_bytes i.witness) (witnesses_bytes is)
    (witness_is_bytes i.witness (record { few = h.0.items; each = h.0.witness })) (witnesses_are_bytes is h.1))

-- some bytes
record AreBytes (bytes : List ℕ) : Type 0 where
  some : 0 < length bytes
  each : IsBytes bytes

begins : (n : ℕ) (rest : List ℕ) → 0 < length (word n ++ rest)
begins n rest =
    let a = length-append (word n) rest in
    let b = wide32.len n in
    omega (arith, a, b)

module _ (tx : Tx) (is : IsTransaction tx) where
  stripped_bytes : AreBytes (stripped tx)
  unfolding stripped
  stripped_bytes = record {
    some = subst (λ (n : List ℕ). 0 < length n)
        (append_assoc (word tx.version) (inputs_bytes tx.inputs ++ outputs_bytes tx.outputs) (word tx.lock)
        ∙ ap (λ (n : List ℕ). n ++ word tx.lock) (append_assoc (word tx.version) (inputs_bytes tx.inputs) (outputs_bytes tx.outputs)))
        (begins tx.version ((inputs_bytes tx.inputs ++ outputs_bytes tx.outputs) ++ word tx.lock));
    each = stripped_is_bytes tx is;
  }

  marked_bytes : AreBytes (marked tx)
  unfolding stripped marked
  marked_bytes =
      let version = word tx.version in
      let inputs = inputs_bytes tx.inputs in
      let outputs = outputs_bytes tx.outputs in
      let lock = word tx.lock in
      let all = stripped_is_bytes tx is in
      let three = prefix_bytes (version ++ inputs ++ outputs) lock all in
      let two = prefix_bytes (version ++ inputs) outputs three in
      let rest = inputs ++ outputs ++ witnesses_bytes tx.inputs ++ lock in
      let rest_bytes : IsBytes rest =
      IsBytes-append (inputs ++ outputs ++ witnesses_bytes tx.inputs) lock
      (IsBytes-append (inputs ++ outputs) (witnesses_bytes tx.inputs)
      (IsBytes-append inputs outputs (IsBytes-back version inputs two) (IsBytes-back (version ++ inputs) outputs three))
      (witnesses_are_bytes tx.inputs is.inputs))
      (IsBytes-back (version ++ inputs ++ outputs) lock all) in
      record {
        some = begins tx.version (0 ∷ (1 ∷ rest));
        each = IsBytes-append version (0 ∷ (1 ∷ rest)) (prefix_bytes version inputs two)
            (bytes_cons 0 (1 ∷ rest) (lit< tt) (bytes_cons 1 rest (lit< tt) rest_bytes));
      }

  spelling_bytes : AreBytes (spelling tx)
  spelling_bytes = by_test (is_marked tx.inputs)
    where
      by_test : (b : Bool) → AreBytes (if b then marked tx else stripped tx)
      by_test true = marked_bytes
      by_test false = stripped_bytes

-- ---- it is read again

hex_read : (bytes : List ℕ) → AreBytes bytes → read_hex (hex_text bytes) ≡ Some bytes
hex_read [] h = absurd (let l = h.some in omega (arith, l))
hex_read (b ∷ bytes) h = hex_back (b ∷ bytes) h.each

one_line : (bytes : List ℕ) → AreBytes bytes → lines_of (hex_text bytes ++ newline) ≡ hex_text bytes ∷ []
one_line bytes h =
    ap lines_of (sym (append-nil (hex_text bytes ++ newline)))
    ∙ lines_again (hex_text bytes ∷ []) ((hex_line bytes h.each (hex_read bytes h)).ends, tt)

text_read : (bytes : List ℕ) (tx : Tx) → AreBytes bytes → Spells bytes tx → transaction_in (hex_text bytes ++ newline) ≡ Some tx
text_read bytes tx h spells =
    ap (λ lines. only_line lines >>= λ line. read_hex line >>= λ b. if_read (transaction_of b)) (one_line bytes h)
    ∙ ap (λ o. o >>= λ b. if_read (transaction_of b)) (hex_read bytes h)
    ∙ ap if_read (spelled_is_read bytes tx spells)

pub finished_is_read_again : ReadAgainTheorem
finished_is_read_again v hash advert deal_text deal file given strings which l bytes checked deal_read given_read strings_read there refusal =
    let keys = deal_keys deal in
    let s : Instance = deal_instance advert deal in
    let sized = deals_are_sized v hash advert deal_text deal deal_read in
    let applied = sized.applied checked in
    let widths = deal_widths v hash advert deal_text deal deal_read in
    let spends =
    spendable_at hash bytes keys s applied (deals_give_all v advert deal_text deal deal_read).deposits widths.places sized.are_keys widths.wallets
    widths.keys widths.hashes which l there in
    let stacks =
    stacks_at hash keys s given strings (signature_bytes v hash keys s file given given_read) (secret_bytes hash keys s strings strings_read)
    (signatures_are_shaped v hash keys s file given given_read).short (strings_fit hash keys s strings strings_read) checked which l there
    spends in
    let ws = witnesses hash keys s given strings l l.which in
    let tx : Tx = with_witnesses (tx_of l.pending) ws in
    let is = fits hash keys s bytes l.pending ws (funded_at hash keys s checked which l there) (small_at hash bytes keys s widths.payees checked which l there)
    spends stacks in
    let spells : Spells (spelling tx) tx = record { same = refl; fits = is } in
    record {
      read = text_read (spelling tx) tx (spelling_bytes tx is) spells;
      spells = spells;
      only = λ other k. one_transaction (spelling tx) other tx k spells;
    }
