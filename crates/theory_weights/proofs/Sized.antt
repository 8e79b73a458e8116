-- How many bytes full witnesses have, and what a transaction weighs with them.
use Rattle.std.proofs.Common.{◌≡◌, ℕ, zero, suc, ◌+◌, ◌*◌, ◌≤◌, List, [], ◌∷◌, ◌++◌, length, map, reverse, replicate, Bool, true, false, refl, ap, ◌∙◌, arith, length-append}
use Rattle.std.specs.Prelude.{if◌then◌else◌, nat_lt}
use Rattle.std.specs.List.{flat_map}
use Rattle.std.proofs.lemmas.List.{reverse-append, length-reverse, length-replicate}
use Rattle.std.proofs.lemmas.List.Concat.{flat_map-cons}
use Rattle.spec_bitcoin.specs.declared.tx.TxIn.{TxIn}
use Rattle.spec_bitcoin.specs.declared.tx.Tx.{Tx}
use Rattle.spec_bitcoin.specs.Spelling.{word, compact, sized, inputs_bytes, outputs_bytes, witness_bytes, witnesses_bytes, is_marked, stripped, marked}
use Rattle.spec_compiler.specs.Witness.{selectors, witness_of}
use Rattle.spec_compiler.specs.declared.unsigned.Spent.{Spent}
use Rattle.spec_compiler.specs.Transactions.{input_of}
use Rattle.spec_run.specs.Firing.{witnessed, with_witnesses}
use Rattle.spec_tool.specs.Weights.{weight_of, any_signature, any_signatures, deposits_full, deposit_full}
use Rattle.theory_weights.specs.Sizes.{count_size, item_size, signature_bytes, deposit_bytes, selector_count, selector_bytes, branch_bytes, marked_weight}
use Rattle.theory_weights.proofs.Weighing.{stripped_same, marked_size}
use Rattle.theory_weights.proofs.Full.{blank}

-- ---- items

-- the bytes of items, each with its length
abbrev pub all_bytes : List (List ℕ) → ℕ
all_bytes xs = length (flat_map sized xs)

sized_is : (x : List ℕ) → length (sized x) ≡ item_size (length x)
sized_is x = length-append (compact (length x)) x

pub bytes_cons : (x : List ℕ) (xs : List (List ℕ)) → all_bytes (x ∷ xs) ≡ item_size (length x) + all_bytes xs
bytes_cons x xs =
    let a = ap length (flat_map-cons sized x xs) in
    let b = length-append (sized x) (flat_map sized xs) in
    let c = sized_is x in
    omega (arith, a, b, c)

pub bytes_append : (xs ys : List (List ℕ)) → all_bytes (xs ++ ys) ≡ all_bytes xs + all_bytes ys
bytes_append [] ys = omega arith
bytes_append (x ∷ xs) ys =
    let a = bytes_cons x (xs ++ ys) in
    let b = bytes_cons x xs in
    let c = bytes_append xs ys in
    omega (arith, a, b, c)

pub bytes_reversed : (xs : List (List ℕ)) → all_bytes (reverse xs) ≡ all_bytes xs
bytes_reversed [] = refl
bytes_reversed (x ∷ xs) =
    let a = ap all_bytes (reverse-append (x ∷ []) xs) in
    let b = bytes_append (reverse xs) (x ∷ []) in
    let c = bytes_reversed xs in
    let d = bytes_cons x [] in
    let e = bytes_cons x xs in
    omega (arith, a, b, c, d, e)

pub bytes_replicated : (n : ℕ) (x : List ℕ) → all_bytes (replicate n x) ≡ n * item_size (length x)
bytes_replicated zero x = omega arith
bytes_replicated (suc n) x =
    let a = bytes_cons x (replicate n x) in
    let b = bytes_replicated n x in
    let c = next_of n (item_size (length x)) in
    omega (arith, a, b, c)
  where
    next_of : (n k : ℕ) → suc n * k ≡ k + n * k
    next_of n k = omega arith

-- ---- selectors

empty_size : item_size 0 ≡ 1
unfolding compact
empty_size = refl

one_size : item_size 1 ≡ 2
unfolding compact
one_size = refl

signature_size_is : item_size 66 ≡ signature_bytes
unfolding compact
signature_size_is = refl

pub selectors_counted : (i n : ℕ) → length (selectors i n) ≡ selector_count i n
selectors_counted i n = by_test (nat_lt (i + 1) n)
  where
    by_test : (b : Bool) → length (if b then replicate {A = List ℕ} i [] ++ (1 ∷ []) ∷ [] else replicate i []) ≡ (if b then i + 1 else i)
    by_test true =
        let a = length-append (replicate {A = List ℕ} i []) ((1 ∷ []) ∷ []) in
        let b = length-replicate {A = List ℕ} i [] in
        omega (arith, a, b)
    by_test false = length-replicate {A = List ℕ} i []

pub selectors_sized : (i n : ℕ) → all_bytes (selectors i n) ≡ selector_bytes i n
selectors_sized i n = by_test (nat_lt (i + 1) n)
  where
    empties : all_bytes (replicate i []) ≡ i
    empties = bytes_replicated i [] ∙ ap (λ k. i * k) empty_size ∙ omega arith

    by_test : (b : Bool) → all_bytes (if b then replicate i [] ++ (1 ∷ []) ∷ [] else replicate i []) ≡ (if b then i + 2 else i)
    by_test true =
        let a = bytes_append (replicate i []) ((1 ∷ []) ∷ []) in
        let b = bytes_cons (1 ∷ []) [] in
        let c = one_size in
        let d = empties in
        omega (arith, a, b, c, d)
    by_test false = empties

-- ---- a branch's witness

signatures_sized : (n : ℕ) → all_bytes (any_signatures n) ≡ n * signature_bytes
signatures_sized n = bytes_replicated n any_signature ∙ ap (λ k. n * k) signature_size_is

secrets_sized : (n size : ℕ) → all_bytes (replicate n (blank size)) ≡ n * item_size size
secrets_sized n size = bytes_replicated n (blank size) ∙ ap (λ k. n * item_size k) (length-replicate {A = ℕ} size 0)

pub witness_sized : (people secrets size i n : ℕ) (script : List ℕ)
    → length (witness_bytes (witness_of (any_signatures people) (replicate secrets (blank size)) i n script))
    ≡ branch_bytes people secrets size i n (length script)
witness_sized people secrets size i n script =
    let xs = any_signatures people in
    let ys = replicate secrets (blank size) in
    let zs = selectors i n in
    let inner = reverse ys ++ reverse zs in
    let stack = reverse xs ++ inner in
    let all = stack ++ script ∷ [] in
    let a = length-append (compact (length all)) (flat_map sized all) in
    let b = bytes_append stack (script ∷ []) in
    let c = bytes_append (reverse xs) inner in
    let d = bytes_append (reverse ys) (reverse zs) in
    let e = bytes_reversed xs ∙ signatures_sized people in
    let f = bytes_reversed ys ∙ secrets_sized secrets size in
    let g = bytes_reversed zs ∙ selectors_sized i n in
    let h = bytes_cons script [] in
    let k : length all ≡ people + secrets + selector_count i n + 1 =
    (let l = length-append stack (script ∷ []) in
    let m = length-append (reverse xs) inner in
    let o = length-append (reverse ys) (reverse zs) in
    let p = length-reverse xs ∙ length-replicate people any_signature in
    let q = length-reverse ys ∙ length-replicate secrets (blank size) in
    let r = length-reverse zs ∙ selectors_counted i n in
    omega (arith, l, m, o, p, q, r)) in
    let s = ap count_size k in
    omega (arith, a, b, c, d, e, f, g, h, s)

-- ---- deposits

deposit_sized : (spent : Spent) → length spent.script ≡ 35 → length (witness_bytes (deposit_full any_signature spent)) ≡ deposit_bytes
unfolding compact
deposit_sized spent h =
    let a = bytes_cons any_signature (spent.script ∷ []) in
    let b = bytes_cons spent.script [] in
    let c = ap item_size h in
    omega (arith, a, b, c)

-- each of these has a script of a deposit
abbrev pub AreDeposits : List Spent → Type 0
AreDeposits [] = Unit {0}
AreDeposits (x ∷ xs) = (length x.script ≡ 35) × AreDeposits xs

pub deposits_sized : (n : ℕ) (spends : List Spent) → length spends ≤ n → AreDeposits spends
    → length (witnesses_bytes (witnessed (map input_of spends) (deposits_full (any_signatures n) spends))) ≡ length spends * deposit_bytes
deposits_sized n [] h d = omega arith
deposits_sized zero (x ∷ xs) h d = let bad : ⊥ = omega (arith, h) in absurd bad
deposits_sized (suc n) (x ∷ xs) h d =
    let f : TxIn → List ℕ = λ i. witness_bytes i.witness in
    let rest = witnessed (map input_of xs) (deposits_full (any_signatures n) xs) in
    let first = deposit_full any_signature x in
    let a = ap length (flat_map-cons f (record (input_of x) { witness = first }) rest) in
    let b = length-append (witness_bytes first) (flat_map f rest) in
    let c = deposit_sized x d.0 in
    let e = deposits_sized n xs (omega (arith, h)) d.1 in
    omega (arith, a, b, c, e)

-- ---- the whole

stripped_size : (tx : Tx) → length (stripped tx)
    ≡ length (word tx.version) + length (inputs_bytes tx.inputs) + length (outputs_bytes tx.outputs) + length (word tx.lock)
unfolding stripped
stripped_size tx =
    let a = length-append (word tx.version ++ inputs_bytes tx.inputs ++ outputs_bytes tx.outputs) (word tx.lock) in
    let b = length-append (word tx.version ++ inputs_bytes tx.inputs) (outputs_bytes tx.outputs) in
    let c = length-append (word tx.version) (inputs_bytes tx.inputs) in
    omega (arith, a, b, c)

-- a transaction with a witness
pub marked_weighs : (tx : Tx) (ws : List (List (List ℕ))) → is_marked (witnessed tx.inputs ws) ≡ true
    → weight_of (with_witnesses tx ws) ≡ marked_weight (length (stripped tx)) (length (witnesses_bytes (witnessed tx.inputs ws)))
marked_weighs tx ws m =
    let a = ap (λ b. 3 * length (stripped (with_witnesses tx ws)) + length (if b then marked (with_witnesses tx ws) else stripped (with_witnesses tx ws))) m in
    let b = marked_size tx ws in
    let c = ap length (stripped_same tx ws) in
    let d = stripped_size tx in
    omega (arith, a, b, c, d)

-- one without
pub bare_weighs : (tx : Tx) (ws : List (List (List ℕ))) → is_marked (witnessed tx.inputs ws) ≡ false
    → weight_of (with_witnesses tx ws) ≡ 4 * length (stripped tx)
bare_weighs tx ws m =
    let a = ap (λ b. 3 * length (stripped (with_witnesses tx ws)) + length (if b then marked (with_witnesses tx ws) else stripped (with_witnesses tx ws))) m in
    let c = ap length (stripped_same tx ws) in
    omega (arith, a, c)
