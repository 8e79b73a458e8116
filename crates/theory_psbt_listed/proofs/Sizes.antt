-- How many bytes are written of a listed transaction.
use Rattle.std.proofs.Common.{◌≡◌, ℕ, ◌+◌, ◌*◌, ◌≤◌, List, [], ◌∷◌, ◌++◌, length, map, replicate, Bool, true, false, ap, ◌∙◌, arith}
use Rattle.std.proofs.Common.{length-append}
use Rattle.std.specs.Prelude.{if◌then◌else◌}
use Rattle.std.specs.List.{flat_map, AllByRecursion}
use Rattle.std.proofs.lemmas.List.{length-replicate}
use Rattle.std.proofs.lemmas.List.Concat.{flat_map-cons}
use Rattle.spec_data.specs.Hashes.{HashesBytes}
use Rattle.spec_bitcoin.specs.declared.label.Label.{Label}
use Rattle.spec_bitcoin.specs.Digests.{preimage}
use Rattle.spec_bitcoin.specs.Keys.{Pair, key_of, label_text, signature_of, has_signed}
use Rattle.spec_bitcoin.specs.Spelling.{word, compact, sized, place_bytes, input_bytes, inputs_bytes, outputs_bytes, output_bytes, stripped}
use Rattle.spec_bitcoin.specs.Spelling.{IsInput}
use Rattle.spec_compiler.specs.declared.unsigned.Spent.{Spent}
use Rattle.spec_compiler.specs.declared.unsigned.Unsigned.{Unsigned}
use Rattle.spec_compiler.specs.Transactions.{input_of, tx_of, digest_of_spent, pays}
use Rattle.spec_tool.specs.declared.psbt.PsbtInput.{PsbtInput}
use Rattle.spec_tool.specs.Listed.{Listed}
use Rattle.spec_tool.specs.Psbt.{Pairing, pairing_bytes, map_bytes, magic, all_type, insert_signature, is_before}
use Rattle.spec_tool.specs.PsbtBytes.{input_records, psbt_bytes}
use Rattle.spec_tool.specs.PsbtText.{signatures_there, signed_input, signed_inputs, listed_psbt}
use Rattle.theory_bitcoin.proofs.Formats.{wide32}
use Rattle.theory_world.proofs.Ledger.Counts.{count_size}
use Rattle.theory_run.proofs.Widths.Fitting.{pays_size, AllShort, short_bytes}

-- few inputs with few signers each, short scripts, and few outputs that are short
pub record IsSmall (l : Listed) : Type 0 where
  pub few_spends : length l.pending.spends ≤ 33
  pub scripts : AllByRecursion (λ (x : Spent). length x.script ≤ 10000) l.pending.spends
  pub signers : AllByRecursion (λ (ls : List Label). length ls ≤ 16) l.signers
  pub few_outputs : length l.pending.outputs ≤ 64
  pub outputs : AllShort l.pending.outputs
  pub inputs : AllByRecursion IsInput (map input_of l.pending.spends)

-- ---- records

sized_small : (text : List ℕ) → length (sized text) ≤ 9 + length text
sized_small text =
    let a = length-append (compact (length text)) text in
    let b = count_size (length text) in
    omega (arith, a, b)

pairing_small : (r : Pairing) → length (pairing_bytes r) ≤ 18 + length (r.0) + length (r.1)
pairing_small r =
    let a = length-append (sized (r.0)) (sized (r.1)) in
    let b = sized_small (r.0) in
    let c = sized_small (r.1) in
    omega (arith, a, b, c)

-- the bytes of records
abbrev all_of : List Pairing → ℕ
all_of rs = length (flat_map pairing_bytes rs)

of_cons : (r : Pairing) (rs : List Pairing) → all_of (r ∷ rs) ≡ length (pairing_bytes r) + all_of rs
of_cons r rs = ap length (flat_map-cons pairing_bytes r rs) ∙ length-append (pairing_bytes r) (flat_map pairing_bytes rs)

of_joined : (rs ss : List Pairing) → all_of (rs ++ ss) ≡ all_of rs + all_of ss
of_joined [] ss = omega arith
of_joined (r ∷ rs) ss =
    let a = of_cons r (rs ++ ss) in
    let b = of_cons r rs in
    let c = of_joined rs ss in
    omega (arith, a, b, c)

of_one : (r : Pairing) → all_of (r ∷ []) ≤ 18 + length (r.0) + length (r.1)
of_one r =
    let a = of_cons r [] in
    let b = pairing_small r in
    omega (arith, a, b)

-- ---- signatures

abbrev record_of : Pairing → Pairing
record_of p = (2 ∷ p.0, p.1)

abbrev signed_of : List Pairing → ℕ
signed_of ss = all_of (map {B = Pairing} record_of ss)

put_of : (r : Pairing) (ss : List Pairing) → signed_of (insert_signature r ss) ≡ length (pairing_bytes (record_of r)) + signed_of ss
put_of r [] = of_cons (record_of r) []
put_of r (s ∷ ss) = by_before (is_before (r.0) (s.0)) (put_of r ss)
  where
    by_before : (b : Bool) → signed_of (insert_signature r ss) ≡ length (pairing_bytes (record_of r)) + signed_of ss
        → signed_of (if b then r ∷ (s ∷ ss) else s ∷ insert_signature r ss) ≡ length (pairing_bytes (record_of r)) + signed_of (s ∷ ss)
    by_before true ih = of_cons (record_of r) (map record_of (s ∷ ss))
    by_before false ih =
        let a = of_cons (record_of s) (map record_of (insert_signature r ss)) in
        let b = of_cons (record_of s) (map record_of ss) in
        omega (arith, a, b, ih)

module _ (hash : List ℕ → List ℕ) (size : HashesBytes hash) (book : List Pair) where
  one_signature : (label : Label) (message : List ℕ)
      → length (pairing_bytes (record_of (key_of hash label, signature_of (key_of hash label) (hash message)))) ≤ 118
  one_signature label message =
      let key = key_of hash label in
      let digest = hash message in
      let a = pairing_small (record_of (key, signature_of key digest)) in
      let b = length-append (key ++ digest) (1 ∷ []) in
      let c = length-append key digest in
      let d = size.size (label_text label) in
      let e = size.size message in
      omega (arith, a, b, c, d, e)

  there_small : (labels : List Label) (message : List ℕ) → signed_of (signatures_there hash book labels (hash message)) ≤ 118 * length labels
  there_small [] message = omega arith
  there_small (label ∷ rest) message = by_signed (has_signed book (key_of hash label) (hash message)) (there_small rest message)
    where
      by_signed : (t : Bool) → signed_of (signatures_there hash book rest (hash message)) ≤ 118 * length rest
          → signed_of (if t
          then insert_signature (key_of hash label, signature_of (key_of hash label) (hash message)) (signatures_there hash book rest
          (hash message))
          else signatures_there hash book rest (hash message)) ≤ 118 * length (label ∷ rest)
      by_signed true ih =
          let r : Pairing = (key_of hash label, signature_of (key_of hash label) (hash message)) in
          let a = put_of r (signatures_there hash book rest (hash message)) in
          let b = one_signature label message in
          omega (arith, a, b, ih)
      by_signed false ih = omega (arith, ih)

  -- ---- inputs

  module _ (pending : Unsigned) where
    abbrev written : PsbtInput → List ℕ
    written input = map_bytes (input_records input)

    input_small : (spent : Spent) (labels : List Label) → length spent.script ≤ 10000 → length labels ≤ 16
        → length (written (signed_input hash book pending spent labels)) ≤ 12001
    input_small spent labels short few =
        let output = output_bytes (pays hash spent.script spent.value) in
        let signatures = signatures_there hash book labels (digest_of_spent hash (tx_of pending) spent) in
        let first : Pairing = (1 ∷ [], output) in
        let signed = map {B = Pairing} record_of signatures in
        let all : Pairing = (3 ∷ [], all_type) in
        let last : Pairing = (5 ∷ [], spent.script) in
        let back : List Pairing = signed ++ (all ∷ (last ∷ [])) in
        let a = length-append (flat_map pairing_bytes (first ∷ back)) (0 ∷ []) in
        let b = of_cons first back in
        let c = of_joined signed (all ∷ (last ∷ [])) in
        let d = of_cons all (last ∷ []) in
        let e = of_one last in
        let f = pairing_small first in
        let g = pairing_small all in
        let h = pays_size hash size spent.script spent.value in
        let i = there_small labels (hash (preimage hash (tx_of pending) (input_of spent) spent.script spent.value)) in
        omega (arith, a, b, c, d, e, f, g, h, i, short, few)

    inputs_small : (spends : List Spent) (signers : List (List Label)) → AllByRecursion (λ (x : Spent). length x.script ≤ 10000) spends
        → AllByRecursion (λ (ls : List Label). length ls ≤ 16) signers
        → length (flat_map written (signed_inputs hash book pending spends signers)) ≤ 12001 * length spends
    inputs_small [] signers h k = omega arith
    inputs_small (x ∷ spends) [] h k = omega arith
    inputs_small (x ∷ spends) (ls ∷ signers) h k =
        let first = signed_input hash book pending x ls in
        let others = signed_inputs hash book pending spends signers in
        let a = ap length (flat_map-cons written first others) ∙ length-append (written first) (flat_map written others) in
        let b = input_small x ls h.0 k.0 in
        let c = inputs_small spends signers h.1 k.1 in
        omega (arith, a, b, c)

-- ---- the transaction

spends_small : (spends : List Spent) → AllByRecursion IsInput (map input_of spends)
    → length (flat_map input_bytes (map input_of spends)) ≤ 49 * length spends
spends_small [] h = omega arith
spends_small (x ∷ spends) h =
    let i = input_of x in
    let others = map input_of spends in
    let a = ap length (flat_map-cons input_bytes i others) ∙ length-append (input_bytes i) (flat_map input_bytes others) in
    let b = length-append (place_bytes i.prev ++ sized i.script_sig) (word i.sequence) in
    let c = length-append (place_bytes i.prev) (sized i.script_sig) in
    let d = length-append i.prev.txid (word i.prev.vout) in
    let e = h.0.prev.size in
    let f = wide32.len i.prev.vout in
    let g = wide32.len i.sequence in
    let j = sized_small [] in
    let k = spends_small spends h.1 in
    omega (arith, a, b, c, d, e, f, g, j, k)

tx_small : (l : Listed) → IsSmall l → length (stripped (tx_of l.pending)) ≤ 4907
unfolding stripped
tx_small l h =
    let tx = tx_of l.pending in
    let a = length-append (word tx.version ++ inputs_bytes tx.inputs ++ outputs_bytes tx.outputs) (word tx.lock) in
    let b = length-append (word tx.version ++ inputs_bytes tx.inputs) (outputs_bytes tx.outputs) in
    let c = length-append (word tx.version) (inputs_bytes tx.inputs) in
    let d = length-append (compact (length tx.inputs)) (flat_map input_bytes tx.inputs) in
    let e = length-append (compact (length tx.outputs)) (flat_map output_bytes tx.outputs) in
    let f = wide32.len tx.version in
    let g = wide32.len tx.lock in
    let i = count_size (length tx.inputs) in
    let j = count_size (length tx.outputs) in
    let k = spends_small l.pending.spends h.inputs in
    let m = short_bytes l.pending.outputs h.outputs in
    omega (arith, a, b, c, d, e, f, g, i, j, k, m, h.few_spends, h.few_outputs)

-- ---- the whole

pub psbt_small : (hash : List ℕ → List ℕ) → HashesBytes hash → (book : List Pair) (l : Listed) → IsSmall l
    → length (psbt_bytes (listed_psbt hash book l)) ≤ 500000
unfolding psbt_bytes
psbt_small hash size book l h =
    let p = listed_psbt hash book l in
    let wrote : PsbtInput → List ℕ = λ input. map_bytes (input_records input) in
    let global : Pairing = (0 ∷ [], stripped p.tx) in
    let last : List ℕ = replicate (length p.tx.outputs) 0 in
    let inner : List ℕ = flat_map wrote p.inputs ++ last in
    let a = length-append magic (map_bytes (global ∷ []) ++ inner) in
    let b = length-append (map_bytes (global ∷ [])) inner in
    let c = length-append (flat_map wrote p.inputs) last in
    let d = length-append (flat_map pairing_bytes (global ∷ [])) (0 ∷ []) in
    let e = of_one global in
    let f = tx_small l h in
    let g = inputs_small hash size book l.pending l.pending.spends l.signers h.scripts h.signers in
    let i = length-replicate {A = ℕ} (length p.tx.outputs) 0 in
    omega (arith, a, b, c, d, e, f, g, i, h.few_spends, h.few_outputs)
