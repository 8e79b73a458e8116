-- A transaction weighs no more with witnesses that are no longer.
use Rattle.std.proofs.Common.{◌≡◌, ℕ, suc, ◌+◌, ◌*◌, ◌≤◌, ◌^◌, List, [], ◌∷◌, ◌++◌, length, Bool, true, false, refl, sym, ap, ◌∙◌, arith, length-append}
use Rattle.std.specs.Prelude.{if◌then◌else◌, ◌||◌, nat_lt}
use Rattle.std.specs.List.{flat_map}
use Rattle.std.specs.Int.{w16, w32, w64, to_le_bytes}
use Rattle.std.proofs.lemmas.Bool.Decides.{nat_tests}
use Rattle.std.proofs.lemmas.List.Concat.{flat_map-cons}
use Rattle.spec_bitcoin.specs.declared.tx.TxIn.{TxIn}
use Rattle.spec_bitcoin.specs.declared.tx.Tx.{Tx}
use Rattle.spec_bitcoin.specs.Spelling.{word, compact, sized, input_bytes, inputs_bytes, outputs_bytes, witness_bytes, witnesses_bytes}
use Rattle.spec_bitcoin.specs.Spelling.{is_filled, is_marked, stripped, marked}
use Rattle.spec_run.specs.Firing.{witnessed, with_witnesses}
use Rattle.spec_tool.specs.Weights.{weight_of}
use Rattle.theory_bitcoin.proofs.Apart.{stripped_bare}
use Rattle.theory_world.proofs.Ledger.Acceptable.{with-bare}
use Rattle.theory_weights.proofs.NoLonger.{NoLonger, AllNoLonger, no_longer_count}

-- ---- counts and items

-- how many bytes a count has
abbrev pub count_bytes : ℕ → ℕ
count_bytes n = if nat_lt n 253 then 1 else (if nat_lt n (2 ^ 16) then 3 else (if nat_lt n (2 ^ 32) then 5 else 9))

pub count_is : (n : ℕ) → length (compact n) ≡ count_bytes n
unfolding compact
count_is n = by_tests (nat_lt n 253) (nat_lt n (2 ^ 16)) (nat_lt n (2 ^ 32))
  where
    by_tests : (a b c : Bool) → length (if a then n
        ∷ [] else (if b then 253 ∷ to_le_bytes w16 n else (if c then 254 ∷ to_le_bytes w32 n else 255 ∷ to_le_bytes w64 n)))
        ≡ (if a then 1 else (if b then 3 else (if c then 5 else 9)))
    by_tests true b c = refl
    by_tests false true c = refl
    by_tests false false true = refl
    by_tests false false false = refl

-- a test that a smaller number fails is failed by a greater one
fails_too : (m n bound : ℕ) → m ≤ n → nat_lt m bound ≡ false → nat_lt n bound ≡ false
fails_too m n bound h f = grind (arith, nat_tests, h, f)

count_grows : (m n : ℕ) → m ≤ n → count_bytes m ≤ count_bytes n
count_grows m n h = by_tests (nat_lt m 253) (nat_lt m (2 ^ 16)) (nat_lt m (2 ^ 32)) (nat_lt n 253) (nat_lt n (2 ^ 16)) (nat_lt n (2 ^ 32))
    (fails_too m n 253 h) (fails_too m n (2 ^ 16) h) (fails_too m n (2 ^ 32) h)
  where
    by_tests : (a b c d e f : Bool) → (a ≡ false → d ≡ false) → (b ≡ false → e ≡ false) → (c ≡ false → f ≡ false)
        → (if a then 1 else (if b then 3 else (if c then 5 else 9))) ≤ (if d then 1 else (if e then 3 else (if f then 5 else 9)))
    by_tests true b c true e f x y z = omega arith
    by_tests true b c false true f x y z = omega arith
    by_tests true b c false false true x y z = omega arith
    by_tests true b c false false false x y z = omega arith
    by_tests false b c true e f x y z = let k = x refl in cc
    by_tests false true c false true f x y z = omega arith
    by_tests false true c false false true x y z = omega arith
    by_tests false true c false false false x y z = omega arith
    by_tests false false c false true f x y z = let k = y refl in cc
    by_tests false false true false false true x y z = omega arith
    by_tests false false true false false false x y z = omega arith
    by_tests false false false false false true x y z = let k = z refl in cc
    by_tests false false false false false false x y z = omega arith

compact_grows : (m n : ℕ) → m ≤ n → length (compact m) ≤ length (compact n)
compact_grows m n h = let a = count_is m in let b = count_is n in let c = count_grows m n h in omega (arith, a, b, c)

item_grows : (x y : List ℕ) → length x ≤ length y → length (sized x) ≤ length (sized y)
item_grows x y h =
    let a = length-append (compact (length x)) x in
    let b = length-append (compact (length y)) y in
    let c = compact_grows (length x) (length y) h in
    omega (arith, a, b, c, h)

items_grow : (xs ys : List (List ℕ)) → NoLonger xs ys → length (flat_map sized xs) ≤ length (flat_map sized ys)
items_grow [] [] h = omega arith
items_grow [] (y ∷ ys) h = absurd h
items_grow (x ∷ xs) [] h = absurd h
items_grow (x ∷ xs) (y ∷ ys) h =
    let a = ap length (flat_map-cons sized x xs) ∙ length-append (sized x) (flat_map sized xs) in
    let b = ap length (flat_map-cons sized y ys) ∙ length-append (sized y) (flat_map sized ys) in
    let c = item_grows x y h.0 in
    let d = items_grow xs ys h.1 in
    omega (arith, a, b, c, d)

witness_grows : (xs ys : List (List ℕ)) → NoLonger xs ys → length (witness_bytes xs) ≤ length (witness_bytes ys)
witness_grows xs ys h =
    let a = length-append (compact (length xs)) (flat_map sized xs) in
    let b = length-append (compact (length ys)) (flat_map sized ys) in
    let c = ap (λ n. length (compact n)) (no_longer_count xs ys h) in
    let d = items_grow xs ys h in
    omega (arith, a, b, c, d)

filled_same : (xs ys : List (List ℕ)) → NoLonger xs ys → is_filled xs ≡ is_filled ys
filled_same [] [] h = refl
filled_same [] (y ∷ ys) h = absurd h
filled_same (x ∷ xs) [] h = absurd h
filled_same (x ∷ xs) (y ∷ ys) h = refl

-- ---- inputs

witnesses_grow : (is : List TxIn) (ws vs : List (List (List ℕ))) → AllNoLonger ws vs
    → length (witnesses_bytes (witnessed is ws)) ≤ length (witnesses_bytes (witnessed is vs))
witnesses_grow [] ws vs h = omega arith
witnesses_grow (i ∷ is) [] [] h = omega arith
witnesses_grow (i ∷ is) [] (v ∷ vs) h = absurd h
witnesses_grow (i ∷ is) (w ∷ ws) [] h = absurd h
witnesses_grow (i ∷ is) (w ∷ ws) (v ∷ vs) h =
    let f : TxIn → List ℕ = λ x. witness_bytes x.witness in
    let a = ap length (flat_map-cons f (record i { witness = w }) (witnessed is ws)) ∙ length-append (witness_bytes w) (flat_map f (witnessed is ws)) in
    let b = ap length (flat_map-cons f (record i { witness = v }) (witnessed is vs)) ∙ length-append (witness_bytes v) (flat_map f (witnessed is vs)) in
    let c = witness_grows w v h.0 in
    let d = witnesses_grow is ws vs h.1 in
    omega (arith, a, b, c, d)

marked_same : (is : List TxIn) (ws vs : List (List (List ℕ))) → AllNoLonger ws vs → is_marked (witnessed is ws) ≡ is_marked (witnessed is vs)
marked_same [] ws vs h = refl
marked_same (i ∷ is) [] [] h = refl
marked_same (i ∷ is) [] (v ∷ vs) h = absurd h
marked_same (i ∷ is) (w ∷ ws) [] h = absurd h
marked_same (i ∷ is) (w ∷ ws) (v ∷ vs) h =
    let a = filled_same w v h.0 in
    let b = marked_same is ws vs h.1 in
    λ j. a j || b j

-- what an input spends has nothing of its witness
spent_same : (is : List TxIn) (ws : List (List (List ℕ))) → flat_map input_bytes (witnessed is ws) ≡ flat_map input_bytes is
spent_same [] ws = refl
spent_same (i ∷ is) [] = refl
spent_same (i ∷ is) (w ∷ ws) =
    flat_map-cons input_bytes (record i { witness = w }) (witnessed is ws) ∙ ap (λ bytes. input_bytes i ++ bytes) (spent_same is ws)
    ∙ sym (flat_map-cons input_bytes i is)

count_same : (is : List TxIn) (ws : List (List (List ℕ))) → length (witnessed is ws) ≡ length is
count_same [] ws = refl
count_same (i ∷ is) [] = refl
count_same (i ∷ is) (w ∷ ws) = ap suc (count_same is ws)

inputs_same : (is : List TxIn) (ws : List (List (List ℕ))) → inputs_bytes (witnessed is ws) ≡ inputs_bytes is
inputs_same is ws =
    let a = count_same is ws in
    let b = spent_same is ws in
    λ j. compact (a j) ++ b j

-- ---- the whole

pub stripped_same : (tx : Tx) (ws : List (List (List ℕ))) → stripped (with_witnesses tx ws) ≡ stripped tx
stripped_same tx ws = sym (stripped_bare (with_witnesses tx ws)) ∙ ap stripped (with-bare tx ws) ∙ stripped_bare tx

pub marked_size : (tx : Tx) (ws : List (List (List ℕ))) → length (marked (with_witnesses tx ws))
    ≡ length (word tx.version) + 2 + length (inputs_bytes tx.inputs) + length (outputs_bytes tx.outputs) + length
    (witnesses_bytes (witnessed tx.inputs ws)) + length (word tx.lock)
unfolding marked
marked_size tx ws =
    let is = witnessed tx.inputs ws in
    let all = inputs_bytes is ++ outputs_bytes tx.outputs ++ witnesses_bytes is ++ word tx.lock in
    let a = length-append (word tx.version) (0 ∷ 1 ∷ all) in
    let b = length-append (inputs_bytes is ++ outputs_bytes tx.outputs ++ witnesses_bytes is) (word tx.lock) in
    let c = length-append (inputs_bytes is ++ outputs_bytes tx.outputs) (witnesses_bytes is) in
    let d = length-append (inputs_bytes is) (outputs_bytes tx.outputs) in
    let e = ap length (inputs_same tx.inputs ws) in
    omega (arith, a, b, c, d, e)

pub weight_grows : (tx : Tx) (ws vs : List (List (List ℕ))) → AllNoLonger ws vs
    → weight_of (with_witnesses tx ws) ≤ weight_of (with_witnesses tx vs)
weight_grows tx ws vs h = by_mark (is_marked (witnessed tx.inputs ws)) (is_marked (witnessed tx.inputs vs)) (marked_same tx.inputs ws vs h)
  where
    small : List ℕ
    small = stripped (with_witnesses tx ws)

    great : List ℕ
    great = stripped (with_witnesses tx vs)

    same : length (stripped (with_witnesses tx ws)) ≡ length (stripped (with_witnesses tx vs))
    same = ap length (stripped_same tx ws ∙ sym (stripped_same tx vs))

    by_mark : (a b : Bool) → a ≡ b
        → 3 * length (stripped (with_witnesses tx ws)) + length (if a then marked (with_witnesses tx ws) else stripped (with_witnesses tx ws))
        ≤ 3 * length (stripped (with_witnesses tx vs)) + length (if b then marked (with_witnesses tx vs) else stripped (with_witnesses tx vs))
    by_mark true true e =
        let a = marked_size tx ws in
        let b = marked_size tx vs in
        let c = witnesses_grow tx.inputs ws vs h in
        let d = same in
        omega (arith, a, b, c, d)
    by_mark true false e = cc
    by_mark false true e = cc
    by_mark false false e = let d = same in omega (arith, d)
