-- The ledger after a transaction is that of the outputs after it.
use Rattle.std.proofs.Common.{◌≡◌, ℕ, suc, ◌+◌, List, [], ◌∷◌, ◌++◌, length, map, Bool, true, false, Option, Some, None}
use Rattle.std.proofs.Common.{refl, sym, ap, ◌∙◌, arith, cond, length-append}
use Rattle.std.specs.Prelude.{if◌then◌else◌, ◌==◌, ◌||◌, is_some}
use Rattle.std.specs.List.{list_any, list_all}
use Rattle.std.specs.Option.{option_map_or}
use Rattle.std.specs.Map.{remove_entry}
use Rattle.std.proofs.lemmas.Bool.{and_parts, or_parts, eq-eqb, ne_eqb}
use Rattle.spec_data.specs.Lists.{has_number, first_reason}
use Rattle.spec_data.proofs.ListLemmas.{no_reason-none_true, or_else-none}
use Rattle.spec_bitcoin.specs.declared.tx.OutPoint.{OutPoint}
use Rattle.spec_bitcoin.specs.declared.tx.TxIn.{TxIn}
use Rattle.spec_bitcoin.specs.declared.tx.TxOut.{TxOut}
use Rattle.spec_bitcoin.specs.declared.tx.Tx.{Tx}
use Rattle.spec_bitcoin.specs.declared.verdict.Verdict.TheVariants as verdicts
use Rattle.spec_bitcoin.specs.Digests.{txid}
use Rattle.spec_bitcoin.specs.Live.{Entry, same_outpoint, at_place, born, without, after_transaction}
use Rattle.spec_bitcoin.specs.Verdict.{whole_row, inputs_refusal, has_repeat, first_missing, spent_number}
use Rattle.spec_run.specs.Setup.{Setup}
use Rattle.spec_run.specs.World.{ContractPosition, Output, World}
use Rattle.spec_run.specs.Ledger.{tx_out, chain_of, live_from, verdict_in, spend_from, made_from, Kind, new_position, appended}
use Rattle.theory_world.proofs.Same.{place-true}
use Rattle.theory_world.proofs.Ledger.Spend.{spend-none, spend-before}
use Rattle.theory_world.proofs.Ledger.Found.{found, none_missing}
use Rattle.theory_world.proofs.Ledger.Outputs.{length-spend_from, length-made_from}
use Rattle.theory_world.proofs.Ledger.Worth.{accepted_by}

-- the ledger's entry of the output of this number
abbrev entry : ℕ → Output → Entry
entry k o = (o.outpoint, (k, tx_out o))

pub live-append : (k : ℕ) (xs ys : List Output) → live_from k (xs ++ ys) ≡ live_from k xs ++ live_from (k + length xs) ys
live-append k [] ys = let e : k ≡ k + 0 = omega arith in ap (λ j. live_from j ys) e
live-append k (x ∷ xs) ys =
    let e : k + 1 + length xs ≡ k + suc (length xs) = omega arith in
    let ih = live-append (k + 1) xs ys ∙ ap (λ j. live_from (k + 1) xs ++ live_from j ys) e in
    by_live x.live (live_from (k + 1) (xs ++ ys)) (live_from (k + 1) xs) (live_from (k + suc (length xs)) ys) ih
  where
    by_live : (b : Bool) (all prefix end : List Entry) → all ≡ prefix ++ end
        → (if b then entry k x ∷ all else all) ≡ (if b then entry k x ∷ prefix else prefix) ++ end
    by_live true all prefix end ih = ap (λ l. entry k x ∷ l) ih
    by_live false all prefix end ih = ih

pub live-made : (held : ℕ → Option ContractPosition) (id : List ℕ) (births k : ℕ) (os : List TxOut)
    → live_from (births + k) (made_from held id k os) ≡ born births id k os
live-made held id births k [] = refl
live-made held id births k (o ∷ os) =
    let e : births + k + 1 ≡ births + (k + 1) = omega arith in
    ap (λ l. (record { txid = id; vout = k }, (births + k, o)) ∷ l)
    (ap (λ j. live_from j (made_from held id (k + 1) os)) e ∙ live-made held id births (k + 1) os)

-- ---- one output that is spent

abbrev dead : Output → Output
dead o = record o { live = false }

-- one number more is one more step
pub spend_then : (n k : ℕ) (ns : List ℕ) (os : List Output) → spend_from k ns (spend_from k (n ∷ []) os) ≡ spend_from k (n ∷ ns) os
spend_then n k ns [] = refl
spend_then n k ns (o ∷ os) = λ i. by_tests (n == k) (has_number k ns) i ∷ spend_then n (k + 1) ns os i
  where
    by_tests : (a b : Bool)
        → (if b then dead (if a || false then dead o else o) else (if a || false then dead o else o)) ≡ (if a || b then dead o else o)
    by_tests true true = refl
    by_tests true false = refl
    by_tests false true = refl
    by_tests false false = refl

-- the ledger without what lies at a place
abbrev rest : OutPoint → List Entry → List Entry
rest p es = remove_entry (same_outpoint p) es

abbrev TakenAt : ℕ → List Output → OutPoint → ℕ × TxOut → Type 0
TakenAt k os p q = at_place (live_from k os) p ≡ Some q → live_from k (spend_from k (q.0 ∷ []) os) ≡ rest p (live_from k os)

taken : (k : ℕ) (os : List Output) (p : OutPoint) (q : ℕ × TxOut) → TakenAt k os p q
taken k [] p q h = cc
taken k (o ∷ os) p q h = by_live o.live refl h (taken (k + 1) os p q)
  where
    later : at_place (live_from (k + 1) os) p ≡ Some q → has_number k (q.0 ∷ []) ≡ false
    later e =
        let f = found os p (k + 1) q e in
        let c = f.counted in
        let n : (q.0 == k) ≡ false = ne_eqb q.0 k (λ s. omega (arith, s)) in
        rw n refl

    by_place : (b : Bool) → same_outpoint p o.outpoint ≡ b → o.live ≡ true
        → cond b (Some (k, tx_out o)) (at_place (live_from (k + 1) os) p) ≡ Some q → TakenAt (k + 1) os p q
        → live_from k (spend_from k (q.0 ∷ []) (o ∷ os)) ≡ cond b (live_from (k + 1) os) (entry k o ∷ rest p (live_from (k + 1) os))
    by_place true s l e go =
        let y : (k, tx_out o) ≡ q = cc in
        let z : k ≡ q.0 = ap (λ (r : ℕ × TxOut). r.0) y in
        let t : (q.0 == k) ≡ true = eq-eqb q.0 k (sym z) in
        let same : spend_from (k + 1) (q.0 ∷ []) os ≡ os = spend-before q.0 (k + 1) [] os (omega arith) ∙ spend-none (k + 1) os in
        rw (t, same) refl
    by_place false s l e go =
        let n = later e in
        let ih = go e in
        rw (n, l, ih) refl

    by_live : (b : Bool) → o.live ≡ b → at_place (if b then entry k o ∷ live_from (k + 1) os else live_from (k + 1) os) p ≡ Some q
        → TakenAt (k + 1) os p q
        → live_from k (spend_from k (q.0 ∷ []) (o ∷ os)) ≡ rest p (if b then entry k o ∷ live_from (k + 1) os else live_from (k + 1) os)
    by_live true l e go = by_place (same_outpoint p o.outpoint) refl l e go
    by_live false l e go =
        let n = later e in
        let ih = go e in
        rw (n, l, ih) refl

-- what lies at another place is still there
still_there : (p r : OutPoint) (es : List Entry) → same_outpoint r p ≡ false → at_place (rest p es) r ≡ at_place es r
still_there p r [] h = refl
still_there p r (e ∷ es) h = by_place (same_outpoint p e.0) refl (still_there p r es h)
  where
    by_place : (b : Bool) → same_outpoint p e.0 ≡ b → at_place (rest p es) r ≡ at_place es r
        → at_place (cond b es (e ∷ rest p es)) r ≡ cond (same_outpoint r e.0) (Some e.1) (at_place es r)
    by_place true s ih =
        let n : same_outpoint r e.0 ≡ false = ap (same_outpoint r) (sym (place-true p e.0 s)) ∙ h in
        rw n refl
    by_place false s ih = ap (cond (same_outpoint r e.0) (Some e.1)) ih

-- ---- all that are spent

abbrev is_there : List Output → TxIn → Bool
is_there os i = is_some (at_place (live_from 0 os) i.prev)

abbrev numbers : List Output → List TxIn → List ℕ
numbers os is = map (spent_number (live_from 0 os)) is

abbrev places : List TxIn → List OutPoint
places is = map (λ i. i.prev) is

-- where one output is spent, the others have the numbers that they had
same_numbers : (p : OutPoint) (os os' : List Output) (js : List TxIn) → live_from 0 os' ≡ rest p (live_from 0 os)
    → list_any (λ j. same_outpoint j.prev p) js ≡ false → list_all (is_there os) js ≡ true
    → (numbers os' js ≡ numbers os js) × (list_all (is_there os') js ≡ true)
same_numbers p os os' [] e h a = (refl, refl)
same_numbers p os os' (j ∷ js) e h a =
    let c = or_parts (same_outpoint j.prev p) (list_any (λ x. same_outpoint x.prev p) js) h in
    let b = and_parts (is_there os j) (list_all (is_there os) js) a in
    let same : at_place (live_from 0 os') j.prev ≡ at_place (live_from 0 os) j.prev =
    ap (λ l. at_place l j.prev) e ∙ still_there p j.prev (live_from 0 os) c.0 in
    let ih = same_numbers p os os' js e c.1 b.1 in
    ((λ x. option_map_or (λ y. y.0) (same x) 0 ∷ ih.0 x), rw (same, b.0) ih.1)

abbrev SpentLive : List TxIn → List Output → Type 0
SpentLive is os = list_all (is_there os) is ≡ true → has_repeat is ≡ false
    → live_from 0 (spend_from 0 (numbers os is) os) ≡ without (live_from 0 os) (places is)

spent_live : (is : List TxIn) (os : List Output) → SpentLive is os
spent_live [] os all once = ap (live_from 0) (spend-none 0 os)
spent_live (i ∷ is) os all once =
    let parts = and_parts (is_there os i) (list_all (is_there os) is) all in
    let apart = or_parts (list_any (λ j. same_outpoint j.prev i.prev) is) (has_repeat is) once in
    by_entry (at_place (live_from 0 os) i.prev) refl parts.0 parts.1 apart.0 apart.1 (spent_live is)
  where
    by_entry : (r : Option (ℕ × TxOut)) → at_place (live_from 0 os) i.prev ≡ r → is_there os i ≡ true → list_all (is_there os) is ≡ true
        → list_any (λ j. same_outpoint j.prev i.prev) is ≡ false → has_repeat is ≡ false → ((os' : List Output) → SpentLive is os')
        → live_from 0 (spend_from 0 (numbers os (i ∷ is)) os) ≡ without (rest i.prev (live_from 0 os)) (places is)
    by_entry None e h a b c go = let n = ap is_some (sym e) ∙ h in cc
    by_entry (Some q) e h a b c go =
        let os' = spend_from 0 (q.0 ∷ []) os in
        let one = taken 0 os i.prev q e in
        let k = same_numbers i.prev os os' is one b a in
        ap (λ (r : Option (ℕ × TxOut)). live_from 0 (spend_from 0 (option_map_or (λ p. p.0) r 0 ∷ numbers os is) os)) e
        ∙ ap (live_from 0) (sym (spend_then q.0 0 (numbers os is) os))
        ∙ ap (λ ns. live_from 0 (spend_from 0 ns os')) (sym k.0)
        ∙ go os' k.1 c
        ∙ ap (λ l. without l (places is)) one

none_of : (o : Option ℕ) → is_some o ≡ false → o ≡ None
none_of None h = refl
none_of (Some n) h = cc

-- ---- what is left of the world

-- the world with other outputs
abbrev pub with_outputs : World → List Output → World
with_outputs w os = record w { outputs = os }

-- the numbers of the outputs that a transaction spends
abbrev pub taken_numbers : World → Tx → List ℕ
taken_numbers w tx = map (spent_number (live_from 0 w.outputs)) tx.inputs

-- the ledger of the next outputs is the ledger after the transaction
pub synced : (w : World) (tx : Tx) (id : List ℕ) (held : ℕ → Option ContractPosition) → first_reason (whole_row w.tip (live_from 0 w.outputs) tx) ≡ None
    → chain_of (with_outputs w (spend_from 0 (taken_numbers w tx) w.outputs ++ made_from held id 0 tx.outputs))
    ≡ after_transaction (chain_of w) id tx
synced w tx id held passed =
    let os = w.outputs in
    let none = no_reason-none_true (whole_row w.tip (live_from 0 os) tx) passed in
    let all = none_missing os 0 tx.inputs (none_of (first_missing (live_from 0 os) tx.inputs) none.1.1.1.0) in
    let spent = spend_from 0 (taken_numbers w tx) os in
    let made = made_from held id 0 tx.outputs in
    let before : length spent ≡ length os = length-spend_from 0 (taken_numbers w tx) os in
    let start : 0 + length os ≡ length os + 0 = omega arith in
    let size : length (spent ++ made) ≡ length os + length tx.outputs =
    length-append spent made ∙ (λ j. before j + length-made_from held id 0 tx.outputs j) in
    let left = without (live_from 0 os) (places tx.inputs) in
    let live : live_from 0 (spent ++ made) ≡ left ++ born (length os) id 0 tx.outputs =
    live-append 0 spent made
    ∙ (λ j. spent_live tx.inputs os all none.1.1.0 j ++ live_from (0 + before j) made)
    ∙ ap (λ n. left ++ live_from n made) start
    ∙ ap (λ l. left ++ l) (live-made held id (length os) 0 tx.outputs) in
    λ j. record { tip = w.tip; births = size j; live = live j }

-- so is the ledger of the world after an accepted transaction
pub appended_synced : (s : Setup) (w : World) (tx : Tx) (spent made : List ℕ) (kind : Kind)
    → verdict_in s w tx ≡ verdicts.Accepted spent made
    → chain_of (appended s w tx spent kind) ≡ after_transaction (chain_of w) (txid s.hash tx) tx
appended_synced s w tx spent made kind v =
    let a = accepted_by s w tx spent made v in
    let live = live_from 0 w.outputs in
    let two = or_else-none (first_reason (whole_row w.tip live tx)) (inputs_refusal s.hash w.book live tx 0 tx.inputs) a.none in
    let next = made_from (new_position s kind) (txid s.hash tx) 0 tx.outputs in
    ap (λ ns. chain_of (with_outputs w (spend_from 0 ns w.outputs ++ next))) a.numbers
    ∙ synced w tx (txid s.hash tx) (new_position s kind) two.0
