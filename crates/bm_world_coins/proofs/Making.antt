-- The list of outputs, one output more and one less.
use Rattle.std.proofs.Common.{◌≡◌, ℕ, zero, suc, ◌+◌, ◌<◌, ◌≤◌, List, [], ◌∷◌, ◌++◌, length, take, true, false, Option, refl, sym, ap, ◌∙◌, arith, get_or, set, append_assoc}
use Rattle.std.specs.Prelude.{◌==◌}
use Rattle.std.proofs.lemmas.List.{take_more, length-take-le}
use Rattle.std.proofs.lemmas.Bool.{eq-eqb, ne_eqb}
use Rattle.spec_bitcoin.specs.declared.tx.TxOut.{TxOut}
use Rattle.spec_run.specs.World.{ContractPosition, Output}
use Rattle.spec_run.specs.Ledger.{spend_from, made_from}
use Rattle.theory_world.proofs.Ledger.Spend.{spend-none, spend-before}
use Rattle.theory_world.proofs.Ledger.AfterTransaction.{spend_then}

-- ---- made

made_push : (held : ℕ → Option ContractPosition) (id : List ℕ) (k : ℕ) (os : List TxOut) (o : TxOut)
    → made_from held id k (os ++ o ∷ []) ≡ made_from held id k os
    ++ record { outpoint = record { txid = id; vout = k + length os }; value = o.value; script = o.script; live = true; holds = held (k + length os) } ∷ []
made_push held id k [] o =
    let e : k ≡ k + 0 = omega arith in
    ap {B = List Output} (λ (j : ℕ). record {
      outpoint = record { txid = id; vout = j };
      value = o.value;
      script = o.script;
      live = true;
      holds = held j;
    } ∷ []) e
made_push held id k (x ∷ xs) o =
    let e : k + 1 + length xs ≡ k + suc (length xs) = omega arith in
    ap (λ l. record { outpoint = record { txid = id; vout = k }; value = x.value; script = x.script; live = true; holds = held k } ∷ l)
    (made_push held id (k + 1) xs o ∙ ap (λ (j : ℕ). made_from held id (k + 1) xs
    ++ record { outpoint = record { txid = id; vout = j }; value = o.value; script = o.script; live = true; holds = held j } ∷ []) e)

-- the outputs so far and the next
pub made_more : (held : ℕ → Option ContractPosition) (id : List ℕ) (old now next : List Output) (os : List TxOut) (i : ℕ) (o : TxOut) → now
    ≡ old ++ made_from held id 0 (take i os) → i < length os → o ≡ get_or os i o
    → next ≡ now ++ record { outpoint = record { txid = id; vout = i }; value = o.value; script = o.script; live = true; holds = held i }
    ∷ [] → next ≡ old ++ made_from held id 0 (take (i + 1) os)
made_more held id old now next os i o is lt at e =
    let n = length-take-le i os (omega arith) in
    let start : 0 + length (take i os) ≡ i = omega arith in
    let new : ℕ → List Output = λ j. record { outpoint = record { txid = id; vout = j }; value = o.value; script = o.script; live = true; holds = held j } ∷ [] in
    e ∙ ap (λ l. l ++ new i) is ∙ append_assoc old (made_from held id 0 (take i os)) (new i)
    ∙ ap (λ l. old ++ l) (sym (
    ap (made_from held id 0) (take_more os i o lt ∙ ap (λ x. take i os ++ x ∷ []) (sym at))
    ∙ made_push held id 0 (take i os) o
    ∙ ap (λ (j : ℕ). made_from held id 0 (take i os) ++ new j) start))

-- ---- spent

-- a number that lies before spends nothing
spend_before : (j k : ℕ) (os : List Output) → j < k → spend_from k (j ∷ []) os ≡ os
spend_before j k os h = spend-before j k [] os h ∙ spend-none k os

-- the output of a number that is there
pub spent_there : (k n : ℕ) (os : List Output) (d : Output) → n < length os → spend_from k ((n + k) ∷ []) os
    ≡ set os n (record (get_or os n d) { live = false })
spent_there k n [] d h = absurd (omega arith)
spent_there k zero (o ∷ os) d h =
    let z : 0 + k ≡ k = omega arith in
    let t : (k == k) ≡ true = eq-eqb k k refl in
    let rest : spend_from (k + 1) (k ∷ []) os ≡ os = spend_before k (k + 1) os (omega arith) in
    rw (z, t, rest) refl
spent_there k (suc n) (o ∷ os) d h =
    let z : n + (k + 1) ≡ suc n + k = omega arith in
    let t : (suc n + k == k) ≡ false = ne_eqb (suc n + k) k (λ e. omega (arith, e)) in
    let rest : spend_from (k + 1) ((suc n + k) ∷ []) os ≡ set os n (record (get_or os n d) { live = false }) = rw z at (spent_there (k + 1) n os d (omega arith)) in
    rw (t, rest) refl

-- a number that isn't there
pub spent_past : (k m : ℕ) (os : List Output) → k + length os ≤ m → spend_from k (m ∷ []) os ≡ os
spent_past k m [] h = refl
spent_past k m (o ∷ os) h =
    let t : (m == k) ≡ false = ne_eqb m k (λ e. omega (arith, e)) in
    let rest = spent_past (k + 1) m os (omega arith) in
    rw (t, rest) refl

spend-append : (k : ℕ) (ms ns : List ℕ) (os : List Output) → spend_from k ns (spend_from k ms os) ≡ spend_from k (ms ++ ns) os
spend-append k [] ns os = ap (spend_from k ns) (spend-none k os)
spend-append k (m ∷ ms) ns os =
    ap (spend_from k ns) (sym (spend_then m k ms os)) ∙ spend-append k ms ns (spend_from k (m ∷ []) os) ∙ spend_then m k (ms ++ ns) os

-- the numbers so far and the next
pub spend_more : (old now next : List Output) (ns : List ℕ) (i n : ℕ) → now ≡ spend_from 0 (take i ns) old → i < length ns → n
    ≡ get_or ns i n → next ≡ spend_from 0 (n ∷ []) now → next ≡ spend_from 0 (take (i + 1) ns) old
spend_more old now next ns i n is lt at e =
    e ∙ ap (spend_from 0 (n ∷ [])) is ∙ spend-append 0 (take i ns) (n ∷ []) old
    ∙ ap (λ l. spend_from 0 l old) (sym (take_more ns i n lt ∙ ap (λ x. take i ns ++ x ∷ []) (sym at)))

pub spent_at : (n : ℕ) (os : List Output) (was now : Output) → n < length os → was ≡ get_or os n was → now ≡ record was { live = false }
    → set os n now ≡ spend_from 0 (n ∷ []) os
spent_at n os was now lt at e =
    let z : n + 0 ≡ n = omega arith in
    ap (set os n) (e ∙ ap (λ (o : Output). record o { live = false }) at) ∙ sym (rw z at (spent_there 0 n os was lt))
