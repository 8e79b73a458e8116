-- How many bytes the parts of a finished transaction have.
use Rattle.std.proofs.Common.{◌≡◌, ℕ, zero, suc, ◌+◌, ◌*◌, ◌<◌, ◌≤◌, ◌^◌, List, [], ◌∷◌, ◌++◌, length, map, Bool, true, false}
use Rattle.std.proofs.Common.{refl, ap, ◌∙◌, arith, length-append}
use Rattle.std.specs.Prelude.{nat_lt, reverse, replicate, if◌then◌else◌}
use Rattle.std.specs.List.{flat_map, AllByRecursion}
use Rattle.std.proofs.lemmas.Bool.Decides.{nat_tests}
use Rattle.std.proofs.lemmas.List.{length-reverse}
use Rattle.std.proofs.lemmas.List.Concat.{flat_map-cons}
use Rattle.spec_bitcoin.specs.declared.tx.TxIn.{TxIn}
use Rattle.spec_bitcoin.specs.declared.tx.TxOut.{TxOut}
use Rattle.spec_bitcoin.specs.declared.tx.Tx.{Tx}
use Rattle.spec_bitcoin.specs.Spelling.{word, long_word, compact, sized, place_bytes, input_bytes, output_bytes, inputs_bytes, outputs_bytes}
use Rattle.spec_bitcoin.specs.Spelling.{witness_bytes, witnesses_bytes, is_marked, stripped, marked}
use Rattle.spec_compiler.specs.declared.unsigned.Spent.{Spent}
use Rattle.spec_compiler.specs.Keyed.Transactions.{input_of}
use Rattle.spec_compiler.specs.Witness.{selectors, witness_of}
use Rattle.spec_run.specs.Firing.{witnessed, with_witnesses}
use Rattle.spec_tool.specs.Weights.{weight_of}
use Rattle.theory_bitcoin.proofs.Formats.{wide32, wide64}
use Rattle.theory_weights.proofs.Sized.{all_bytes, bytes_append, bytes_reversed}
use Rattle.theory_weights.proofs.Weighing.{count_is, stripped_same, marked_size}
use Rattle.theory_deal.proofs.Ledger.Verdicts.{as_they_are}
use Rattle.theory_deal.proofs.Widths.Places.{IsSpendable}

-- ---- items

pub compact_one : (n : ℕ) → n < 253 → length (compact n) ≡ 1
compact_one n h =
    let e : nat_lt n 253 ≡ true = grind (arith, nat_tests, h) in
    count_is n ∙ ap (λ (b : Bool). if b then 1 else (if nat_lt n (2 ^ 16) then 3 else (if nat_lt n (2 ^ 32) then 5 else 9))) e

pub compact_few : (n : ℕ) → n < 65536 → length (compact n) ≤ 3
compact_few n h = let c = count_is n in let t = by_test (nat_lt n 253) (nat_lt n (2 ^ 16)) second in omega (arith, c, t)
  where
    second : nat_lt n (2 ^ 16) ≡ true
    second = grind (arith, nat_tests, h)

    by_test : (b c : Bool) → c ≡ true → (if b then 1 else (if c then 3 else (if nat_lt n (2 ^ 32) then 5 else 9))) ≤ 3
    by_test true c e = omega arith
    by_test false true e = omega arith
    by_test false false e = cc

pub sized_short : (x : List ℕ) → length x ≤ 252 → length (sized x) ≡ 1 + length x
sized_short x h = let a = length-append (compact (length x)) x in let b = compact_one (length x) (omega (arith, h)) in omega (arith, a, b)

pub sized_few : (x : List ℕ) → length x ≤ 65535 → length (sized x) ≤ 3 + length x
sized_few x h = let a = length-append (compact (length x)) x in let b = compact_few (length x) (omega (arith, h)) in omega (arith, a, b)

-- the bytes of items, each with its length
pub bytes_cons : (x : List ℕ) (xs : List (List ℕ)) → all_bytes (x ∷ xs) ≡ length (sized x) + all_bytes xs
bytes_cons x xs = ap length (flat_map-cons sized x xs) ∙ length-append (sized x) (flat_map sized xs)

-- items of which none has more
next_of : (n k : ℕ) → suc n * k ≡ k + n * k
next_of n k = omega arith

pub bytes_within : (c : ℕ) (xs : List (List ℕ)) → AllByRecursion (λ (x : List ℕ). length (sized x) ≤ c) xs → all_bytes xs ≤ length xs * c
bytes_within c [] h = omega arith
bytes_within c (x ∷ xs) h =
    let a = bytes_cons x xs in
    let b = bytes_within c xs h.1 in
    let d = h.0 in
    let e = next_of (length xs) c in
    omega (arith, a, b, d, e)

-- ---- the witness of a branch

empty_item : length (sized []) ≤ 2
empty_item = let a = sized_short [] (omega arith) in omega (arith, a)

one_item : length (sized (1 ∷ [])) ≤ 2
one_item = let a = sized_short (1 ∷ []) (omega arith) in omega (arith, a)

empties : (i : ℕ) (rest : List (List ℕ)) → AllByRecursion (λ (x : List ℕ). length (sized x) ≤ 2) rest
    → AllByRecursion (λ (x : List ℕ). length (sized x) ≤ 2) (replicate i [] ++ rest)
empties zero rest h = h
empties (suc i) rest h = (empty_item, empties i rest h)

no_rest : (i : ℕ) → AllByRecursion (λ (x : List ℕ). length (sized x) ≤ 2) (replicate i [])
no_rest zero = tt
no_rest (suc i) = (empty_item, no_rest i)

selectors_short : (i n : ℕ) → AllByRecursion (λ (x : List ℕ). length (sized x) ≤ 2) (selectors i n)
selectors_short i n = by_last (nat_lt (i + 1) n)
  where
    by_last : (b : Bool)
        → AllByRecursion (λ (x : List ℕ). length (sized x) ≤ 2) (if b then replicate i [] ++ (1 ∷ []) ∷ [] else replicate i [])
    by_last true = empties i ((1 ∷ []) ∷ []) (one_item, tt)
    by_last false = no_rest i

-- how many items and bytes there are
pub record IsSmallBranch (signatures texts : List (List ℕ)) (i n : ℕ) (script : List ℕ) : Type 0 where
  pub people : length signatures ≤ 16
  pub secrets : length texts ≤ 32
  pub choices : length (selectors i n) ≤ 33
  pub script_bytes : length script ≤ 10000
  pub signature_bytes : AllByRecursion (λ (x : List ℕ). length (sized x) ≤ 74) signatures
  pub text_bytes : AllByRecursion (λ (x : List ℕ). length (sized x) ≤ 523) texts

pub branch_within : (signatures texts : List (List ℕ)) (i n : ℕ) (script : List ℕ) → IsSmallBranch signatures texts i n script
    → length (witness_bytes (witness_of signatures texts i n script)) ≤ 27992
branch_within signatures texts i n script h =
    let zs = selectors i n in
    let inner = reverse texts ++ reverse zs in
    let stack = reverse signatures ++ inner in
    let all = stack ++ script ∷ [] in
    let a = length-append (compact (length all)) (flat_map sized all) in
    let b = bytes_append stack (script ∷ []) in
    let c = bytes_append (reverse signatures) inner in
    let d = bytes_append (reverse texts) (reverse zs) in
    let e = bytes_reversed signatures in
    let f = bytes_reversed texts in
    let g = bytes_reversed zs in
    let k = bytes_cons script [] in
    let l = sized_few script (let s = h.script_bytes in omega (arith, s)) in
    let m = bytes_within 74 signatures h.signature_bytes in
    let o = bytes_within 523 texts h.text_bytes in
    let p = bytes_within 2 zs (selectors_short i n) in
    let q = length-append stack (script ∷ []) in
    let r = length-append (reverse signatures) inner in
    let s = length-append (reverse texts) (reverse zs) in
    let t = length-reverse signatures in
    let u = length-reverse texts in
    let v = length-reverse zs in
    let people = h.people in
    let secrets = h.secrets in
    let choices = h.choices in
    let bytes = h.script_bytes in
    let count : length all < 65536 = omega (arith, q, r, s, t, u, v, people, secrets, choices) in
    let first = compact_few (length all) count in
    omega (arith, a, b, c, d, e, f, g, k, l, m, o, p, first, people, secrets, choices, bytes)

-- ---- witnesses

-- the bytes of the witnesses of these inputs
abbrev pub shown_bytes : List Spent → List (List (List ℕ)) → ℕ
shown_bytes xs ws = length (witnesses_bytes (witnessed (map input_of xs) ws))

abbrev pub IsWithin : ℕ → List (List ℕ) → Type 0
IsWithin c w = length (witness_bytes w) ≤ c

pub none_shown : length (witness_bytes []) ≡ 1
none_shown = let a = compact_one 0 (omega arith) in let b = length-append (compact 0) [] in omega (arith, a, b)

pub shown_cons : (x : Spent) (xs : List Spent) (w : List (List ℕ)) (ws : List (List (List ℕ)))
    → shown_bytes (x ∷ xs) (w ∷ ws) ≡ length (witness_bytes w) + shown_bytes xs ws
shown_cons x xs w ws =
    let f : TxIn → List ℕ = λ i. witness_bytes i.witness in
    let rest = witnessed (map input_of xs) ws in
    ap length (flat_map-cons f (record (input_of x) { witness = w }) rest) ∙ length-append (witness_bytes w) (flat_map f rest)

bare_cons : (x : Spent) (xs : List Spent) → shown_bytes (x ∷ xs) [] ≡ 1 + shown_bytes xs []
bare_cons x xs =
    let f : TxIn → List ℕ = λ i. witness_bytes i.witness in
    let a = ap length (flat_map-cons f (input_of x) (map input_of xs)) ∙ length-append (witness_bytes []) (flat_map f (map input_of xs)) in
    let b = none_shown in
    let c = ap (λ (is : List TxIn). length (witnesses_bytes is)) (as_they_are (map input_of xs)) in
    omega (arith, a, b, c)

pub shown_within : (c : ℕ) → 1 ≤ c → (xs : List Spent) (ws : List (List (List ℕ))) → AllByRecursion (IsWithin c) ws
    → shown_bytes xs ws ≤ length xs * c
shown_within c one [] ws h = omega arith
shown_within c one (x ∷ xs) [] h =
    let a = bare_cons x xs in
    let b = shown_within c one xs [] tt in
    let e = next_of (length xs) c in
    omega (arith, a, b, e, one)
shown_within c one (x ∷ xs) (w ∷ ws) h =
    let a = shown_cons x xs w ws in
    let b = shown_within c one xs ws h.1 in
    let d = h.0 in
    let e = next_of (length xs) c in
    omega (arith, a, b, d, e)

-- ---- the rest

input_bytes_are : (x : Spent) → IsSpendable x → length (input_bytes (input_of x)) ≡ 41
input_bytes_are x h =
    let a = length-append (place_bytes x.outpoint ++ sized []) (word 4294967294) in
    let b = length-append (place_bytes x.outpoint) (sized []) in
    let c = length-append x.outpoint.txid (word x.outpoint.vout) in
    let d = h.place.size in
    let e = wide32.len x.outpoint.vout in
    let f = wide32.len 4294967294 in
    let g = sized_short [] (omega arith) in
    omega (arith, a, b, c, d, e, f, g)

inputs_within : (xs : List Spent) → AllByRecursion IsSpendable xs → length (flat_map input_bytes (map input_of xs)) ≡ length xs * 41
inputs_within [] h = omega arith
inputs_within (x ∷ xs) h =
    let a = ap length (flat_map-cons input_bytes (input_of x) (map input_of xs))
    ∙ length-append (input_bytes (input_of x)) (flat_map input_bytes (map input_of xs)) in
    let b = input_bytes_are x h.0 in
    let c = inputs_within xs h.1 in
    omega (arith, a, b, c)

-- outputs to scripts that aren't long
abbrev pub IsLow : TxOut → Type 0
IsLow o = length o.script ≤ 34

output_within : (o : TxOut) → IsLow o → length (output_bytes o) ≤ 43
output_within o h =
    let a = length-append (long_word o.value) (sized o.script) in
    let b = wide64.len o.value in
    let c = sized_short o.script (omega (arith, h)) in
    omega (arith, a, b, c, h)

outputs_within : (os : List TxOut) → AllByRecursion IsLow os → length (flat_map output_bytes os) ≤ length os * 43
outputs_within [] h = omega arith
outputs_within (o ∷ os) h =
    let a = ap length (flat_map-cons output_bytes o os) ∙ length-append (output_bytes o) (flat_map output_bytes os) in
    let b = output_within o h.0 in
    let c = outputs_within os h.1 in
    omega (arith, a, b, c)

stripped_size : (tx : Tx) → length (stripped tx)
    ≡ length (word tx.version) + length (inputs_bytes tx.inputs) + length (outputs_bytes tx.outputs) + length (word tx.lock)
unfolding stripped
stripped_size tx =
    let a = length-append (word tx.version ++ inputs_bytes tx.inputs ++ outputs_bytes tx.outputs) (word tx.lock) in
    let b = length-append (word tx.version ++ inputs_bytes tx.inputs) (outputs_bytes tx.outputs) in
    let c = length-append (word tx.version) (inputs_bytes tx.inputs) in
    omega (arith, a, b, c)

as_many : (xs : List Spent) → length (map input_of xs) ≡ length xs
as_many [] = refl
as_many (x ∷ xs) = ap suc (as_many xs)

pub stripped_within : (tx : Tx) (xs : List Spent) → tx.inputs ≡ map input_of xs → AllByRecursion IsSpendable xs → length xs ≤ 33
    → AllByRecursion IsLow tx.outputs → length tx.outputs ≤ 64 → length (stripped tx) ≤ 4115
stripped_within tx xs same places few low outputs =
    let a = stripped_size tx in
    let b = wide32.len tx.version in
    let c = wide32.len tx.lock in
    let d = ap (λ (is : List TxIn). length (inputs_bytes is)) same in
    let e = length-append (compact (length (map input_of xs))) (flat_map input_bytes (map input_of xs)) in
    let f = as_many xs in
    let g = compact_one (length (map input_of xs)) (omega (arith, f, few)) in
    let h = inputs_within xs places in
    let i = length-append (compact (length tx.outputs)) (flat_map output_bytes tx.outputs) in
    let j = compact_one (length tx.outputs) (omega (arith, outputs)) in
    let k = outputs_within tx.outputs low in
    omega (arith, a, b, c, d, e, g, h, i, j, k, few, outputs)

-- what a transaction weighs with these witnesses
pub weight_within : (tx : Tx) (ws : List (List (List ℕ))) (bare shown : ℕ) → length (stripped tx) ≤ bare
    → length (witnesses_bytes (witnessed tx.inputs ws)) ≤ shown → weight_of (with_witnesses tx ws) ≤ 4 * bare + 2 + shown
weight_within tx ws bare shown b s = by_mark (is_marked (witnessed tx.inputs ws)) refl
  where
    by_mark : (t : Bool) → is_marked (witnessed tx.inputs ws) ≡ t → weight_of (with_witnesses tx ws) ≤ 4 * bare + 2 + shown
    by_mark true e =
        let a = ap (λ (m : Bool). 3 * length (stripped (with_witnesses tx ws)) + length (if m then marked (with_witnesses tx ws) else stripped (with_witnesses tx ws))) e in
        let c = marked_size tx ws in
        let d = ap (λ (bytes : List ℕ). length bytes) (stripped_same tx ws) in
        let f = stripped_size tx in
        omega (arith, a, b, c, d, f, s)
    by_mark false e =
        let a = ap (λ (m : Bool). 3 * length (stripped (with_witnesses tx ws)) + length (if m then marked (with_witnesses tx ws) else stripped (with_witnesses tx ws))) e in
        let d = ap (λ (bytes : List ℕ). length bytes) (stripped_same tx ws) in
        omega (arith, a, b, d, s)
