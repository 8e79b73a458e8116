-- How many inputs and outputs a transaction has that some bytes spell.
use Rattle.std.proofs.Common.{◌≡◌, ℕ, ◌≤◌, List, [], ◌∷◌, ◌++◌, length, Bool, true, false, Ok, ap, ◌∙◌, arith, length-append}
use Rattle.std.specs.Prelude.{if◌then◌else◌}
use Rattle.std.specs.List.{flat_map}
use Rattle.std.proofs.lemmas.List.Concat.{flat_map-cons}
use Rattle.spec_bitcoin.specs.declared.tx.TxIn.{TxIn}
use Rattle.spec_bitcoin.specs.declared.tx.Tx.{Tx}
use Rattle.spec_bitcoin.specs.Spelling.{word, compact, place_bytes, sized, input_bytes, output_bytes}
use Rattle.spec_bitcoin.specs.Spelling.{inputs_bytes, outputs_bytes, witnesses_bytes, is_marked, stripped, marked, spelling}
use Rattle.spec_bitcoin.specs.Reading.{transaction_of}
use Rattle.spec_run.specs.Conditions.{IsPiece}
use Rattle.theory_bitcoin.proofs.Formats.{wide32}
use Rattle.theory_bitcoin.proofs.Top.{read_is_spelled}
use Rattle.theory_world.proofs.Ledger.Preimages.{few_outputs}

long_tail : (x y : List ℕ) → length y ≤ length (x ++ y)
long_tail x y = let a = length-append x y in omega (arith, a)

long_prefix : (x y : List ℕ) → length x ≤ length (x ++ y)
long_prefix x y = let a = length-append x y in omega (arith, a)

-- there are no more inputs than bytes of inputs
pub few_inputs : (is : List TxIn) → length is ≤ length (flat_map input_bytes is)
few_inputs [] = omega arith
few_inputs (i ∷ is) =
    let a = ap length (flat_map-cons input_bytes i is) ∙ length-append (input_bytes i) (flat_map input_bytes is) in
    let c = long_tail (place_bytes i.prev ++ sized i.script_sig) (word i.sequence) in
    let d = wide32.len i.sequence in
    let r = few_inputs is in
    omega (arith, a, c, d, r)

-- what a transaction's inputs and outputs have at most
pub record IsShort (tx : Tx) (bytes : List ℕ) : Type 0 where
  pub inputs : length (flat_map input_bytes tx.inputs) ≤ length bytes
  pub outputs : length (flat_map output_bytes tx.outputs) ≤ length bytes

short : (tx : Tx) → IsShort tx (spelling tx)
unfolding stripped marked
short tx = by_mark (is_marked tx.inputs)
  where
    by_mark : (b : Bool) → IsShort tx (if b then marked tx else stripped tx)
    by_mark true =
        let places = inputs_bytes tx.inputs ++ outputs_bytes tx.outputs in
        let rest = places ++ witnesses_bytes tx.inputs ++ word tx.lock in
        let a = long_tail (word tx.version) (0 ∷ 1 ∷ rest) in
        let b = long_prefix (places ++ witnesses_bytes tx.inputs) (word tx.lock) in
        let c = long_prefix places (witnesses_bytes tx.inputs) in
        let d = long_tail (inputs_bytes tx.inputs) (outputs_bytes tx.outputs) in
        let e = long_tail (compact (length tx.outputs)) (flat_map output_bytes tx.outputs) in
        let f = long_prefix (inputs_bytes tx.inputs) (outputs_bytes tx.outputs) in
        let h = long_tail (compact (length tx.inputs)) (flat_map input_bytes tx.inputs) in
        record { inputs = omega (arith, a, b, c, f, h); outputs = omega (arith, a, b, c, d, e) }
    by_mark false =
        let b = long_prefix (word tx.version ++ inputs_bytes tx.inputs ++ outputs_bytes tx.outputs) (word tx.lock) in
        let c = long_tail (word tx.version ++ inputs_bytes tx.inputs) (outputs_bytes tx.outputs) in
        let e = long_tail (compact (length tx.outputs)) (flat_map output_bytes tx.outputs) in
        let f = long_prefix (word tx.version ++ inputs_bytes tx.inputs) (outputs_bytes tx.outputs) in
        let h = long_tail (word tx.version) (inputs_bytes tx.inputs) in
        let i = long_tail (compact (length tx.inputs)) (flat_map input_bytes tx.inputs) in
        record { inputs = omega (arith, b, f, h, i); outputs = omega (arith, b, c, e) }

-- outputs have no more bytes than their transaction, nor have inputs
pub outputs_short : (tx : Tx) → length (flat_map output_bytes tx.outputs) ≤ length (spelling tx)
outputs_short tx = let s = short tx in s.outputs

pub inputs_short : (tx : Tx) → length (flat_map input_bytes tx.inputs) ≤ length (spelling tx)
inputs_short tx = let s = short tx in s.inputs

-- a transaction that a piece spells has few of both
pub piece_bounds : (bytes : List ℕ) → IsPiece bytes → (tx : Tx) → transaction_of bytes ≡ Ok tx
    → (length tx.inputs ≤ 524288) × (length tx.outputs ≤ 524288)
piece_bounds bytes piece tx h =
    let sp = read_is_spelled bytes tx piece.bytes h in
    let a = inputs_short tx in
    let b = outputs_short tx in
    let i = few_inputs tx.inputs in
    let o = few_outputs tx.outputs in
    let n = ap length sp.same in
    let c = piece.size in
    (omega (arith, a, i, n, c), omega (arith, b, o, n, c))
