-- What a transaction weighs with witnesses depends on their counts and lengths alone.
use Rattle.std.proofs.Common.{◌≡◌, ℕ, ◌+◌, ◌*◌, List, ◌++◌, length, Bool, true, false, ap, arith, length-append}
use Rattle.std.specs.Prelude.{if◌then◌else◌}
use Rattle.spec_bitcoin.specs.declared.tx.Tx.{Tx}
use Rattle.spec_bitcoin.specs.Spelling.{word, inputs_bytes, outputs_bytes, witnesses_bytes, is_marked, stripped, marked}
use Rattle.spec_run.specs.Firing.{witnessed, with_witnesses}
use Rattle.spec_tool.specs.Weights.{weight_of}
use Rattle.theory_weights.specs.Sizes.{marked_weight}
use Rattle.theory_weights.proofs.Weighing.{stripped_same, marked_size}

stripped_size : (tx : Tx) → length (stripped tx)
    ≡ length (word tx.version) + length (inputs_bytes tx.inputs) + length (outputs_bytes tx.outputs) + length (word tx.lock)
unfolding stripped
stripped_size tx =
    let a = length-append (word tx.version ++ inputs_bytes tx.inputs ++ outputs_bytes tx.outputs) (word tx.lock) in
    let b = length-append (word tx.version ++ inputs_bytes tx.inputs) (outputs_bytes tx.outputs) in
    let c = length-append (word tx.version) (inputs_bytes tx.inputs) in
    omega (arith, a, b, c)

pub weighs : (tx : Tx) (ws : List (List (List ℕ))) → weight_of (with_witnesses tx ws)
    ≡ (if is_marked (witnessed tx.inputs ws)
    then marked_weight (length (stripped tx)) (length (witnesses_bytes (witnessed tx.inputs ws)))
    else 4 * length (stripped tx))
weighs tx ws = by_mark (is_marked (witnessed tx.inputs ws))
  where
    by_mark : (b : Bool)
        → 3 * length (stripped (with_witnesses tx ws)) + length (if b then marked (with_witnesses tx ws) else stripped (with_witnesses tx ws))
        ≡ (if b then marked_weight (length (stripped tx)) (length (witnesses_bytes (witnessed tx.inputs ws))) else 4 * length (stripped tx))
    by_mark true =
        let b = marked_size tx ws in
        let c = ap length (stripped_same tx ws) in
        let d = stripped_size tx in
        omega (arith, b, c, d)
    by_mark false = let c = ap length (stripped_same tx ws) in omega (arith, c)
