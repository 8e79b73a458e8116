-- What the coins are after a transaction.
use Rattle.std.proofs.Common.{◌≡◌, ℕ, zero, suc, ◌+◌, ◌<◌, List, [], ◌∷◌, ◌++◌, length, map, true, false, Option, Some, None, refl, sym, ap, subst, ◌∙◌, arith}
use Rattle.std.specs.Prelude.{if◌then◌else◌, ◌==◌, is_some, slice_get}
use Rattle.std.specs.List.{list_all}
use Rattle.std.specs.Option.{option_map_or}
use Rattle.std.proofs.lemmas.Bool.{and_parts, ne_eqb}
use Rattle.spec_data.specs.Lists.{has_number, first_reason}
use Rattle.spec_data.proofs.ListLemmas.{no_reason-none_true}
use Rattle.spec_bitcoin.specs.declared.tx.TxIn.{TxIn}
use Rattle.spec_bitcoin.specs.declared.tx.TxOut.{TxOut}
use Rattle.spec_bitcoin.specs.declared.tx.Tx.{Tx}
use Rattle.std.specs.Option.{option_map}
use Rattle.spec_bitcoin.specs.declared.tx.OutPoint.{OutPoint}
use Rattle.spec_bitcoin.specs.Live.{Entry, Chain, at_place, born, after_transaction, opening_chain}
use Rattle.spec_bitcoin.specs.Verdict.{whole_row, first_missing, spent_number}
use Rattle.spec_run.specs.World.{ContractPosition, Output, World}
use Rattle.spec_run.specs.Event.{holds_nothing}
use Rattle.spec_run.specs.Ledger.{live_from, spend_from, made_from}
use Rattle.theory_world.proofs.Ledger.Found.{found, none_missing}
use Rattle.theory_world.proofs.Ledger.Outputs.{length-made_from}
use Rattle.theory_world.proofs.Ledger.AfterTransaction.{live-made, synced}
use Rattle.bm_ledger.specs.Ordered.{numbered}
use Rattle.bm_world_coins.specs.Coined.{Coined, chain}

none_of : (o : Option ℕ) → is_some o ≡ false → o ≡ None
none_of None h = refl
none_of (Some n) h = cc

-- a world of these coins
abbrev world_with : Coined → World
world_with c = record { tip = c.tip; outputs = c.outputs; book = []; posted = []; advertised = []; promises = []; begun = []; hashed = [] }

-- ---- the numbers that are spent are of old outputs

spend-append-outputs : (k : ℕ) (ns : List ℕ) (xs ys : List Output) → spend_from k ns (xs ++ ys) ≡ spend_from k ns xs ++ spend_from (k + length xs) ns ys
spend-append-outputs k ns [] ys = let e : k ≡ k + 0 = omega arith in ap (λ j. spend_from j ns ys) e
spend-append-outputs k ns (x ∷ xs) ys =
    let e : k + 1 + length xs ≡ k + suc (length xs) = omega arith in
    ap (λ l. (if has_number k ns then record x { live = false } else x) ∷ l)
    (spend-append-outputs (k + 1) ns xs ys ∙ ap (λ j. spend_from (k + 1) ns xs ++ spend_from j ns ys) e)

abbrev pub AllBelow : ℕ → List ℕ → Type 0
AllBelow k [] = Unit {0}
AllBelow k (n ∷ ns) = (n < k) × AllBelow k ns

none_at : (k : ℕ) (ns : List ℕ) → AllBelow k ns → has_number k ns ≡ false
none_at k [] h = refl
none_at k (n ∷ ns) h = let t : (n == k) ≡ false = ne_eqb n k (λ e. let b = h.0 in omega (arith, b, e)) in rw t (none_at k ns h.1)

below_more : (k : ℕ) (ns : List ℕ) → AllBelow k ns → AllBelow (k + 1) ns
below_more k [] h = tt
below_more k (n ∷ ns) h = (let b = h.0 in omega (arith, b), below_more k ns h.1)

spend_above : (k : ℕ) (ns : List ℕ) (os : List Output) → AllBelow k ns → spend_from k ns os ≡ os
spend_above k ns [] h = refl
spend_above k ns (o ∷ os) h = let t = none_at k ns h in λ i. (if t i then record o { live = false } else o) ∷ spend_above (k + 1) ns os (below_more k ns h) i

within : {X : Type 0} (xs : List X) (n : ℕ) (x : X) → slice_get xs n ≡ Some x → n < length xs
within [] n x h = cc
within (y ∷ ys) zero x h = omega arith
within (y ∷ ys) (suc n) x h = let b = within ys n x h in omega (arith, b)

below_found : (os : List Output) (is : List TxIn) → list_all (λ i. is_some (at_place (live_from 0 os) i.prev)) is ≡ true
    → AllBelow (length os) (map (spent_number (live_from 0 os)) is)
below_found os [] h = tt
below_found os (i ∷ is) h =
    let parts = and_parts (is_some (at_place (live_from 0 os) i.prev)) (list_all (λ j. is_some (at_place (live_from 0 os) j.prev)) is) h in
    (one (at_place (live_from 0 os) i.prev) refl parts.0, below_found os is parts.1)
  where
    one : (r : Option (ℕ × TxOut)) → at_place (live_from 0 os) i.prev ≡ r → is_some r ≡ true → option_map_or (λ p. p.0) r 0 < length os
    one None e k = cc
    one (Some q) e k =
        let f = found os i.prev 0 q e in
        let b = within os f.number f.output f.there in
        let c = f.counted in
        omega (arith, b, c)

-- spending after the new outputs stand at the end
pub spent_then_made : (tip : ℕ) (os new : List Output) (tx : Tx) → first_reason (whole_row tip (live_from 0 os) tx) ≡ None
    → spend_from 0 (map (spent_number (live_from 0 os)) tx.inputs) (os ++ new) ≡ spend_from 0 (map (spent_number (live_from 0 os)) tx.inputs) os ++ new
spent_then_made tip os new tx passed =
    let none = no_reason-none_true (whole_row tip (live_from 0 os) tx) passed in
    let all = none_missing os 0 tx.inputs (none_of (first_missing (live_from 0 os) tx.inputs) none.1.1.1.0) in
    spend-append-outputs 0 (map (spent_number (live_from 0 os)) tx.inputs) os new
    ∙ ap (λ l. spend_from 0 (map (spent_number (live_from 0 os)) tx.inputs) os ++ l) (spend_above (0 + length os) (map (spent_number (live_from 0 os)) tx.inputs) new (let e : length os ≡ 0 + length os = omega arith in subst (λ k. AllBelow k (map (spent_number (live_from 0 os)) tx.inputs)) e (below_found os tx.inputs all)))

-- ---- what `append` leaves

pub record IsAppended (old : Coined) (ledger : Chain) (next : List Output) (spent : List ℕ) (id : List ℕ) (held : ℕ → Option ContractPosition) (tx : Tx) : Type 0 where
  pub outputs : next ≡ spend_from 0 spent old.outputs ++ made_from held id 0 tx.outputs
  pub synced : ledger ≡ chain (record { tip = ledger.tip; outputs = next })
  pub tip : ledger.tip ≡ old.tip

pub append_leaves : (old : Coined) (before ledger : Chain) (mid next : List Output) (spent : List ℕ) (id : List ℕ)
    (held : ℕ → Option ContractPosition) (tx : Tx)
    → before ≡ chain old → first_reason (whole_row old.tip (live_from 0 old.outputs) tx) ≡ None → spent ≡ map (spent_number (live_from 0 old.outputs)) tx.inputs
    → mid ≡ old.outputs ++ made_from held id 0 tx.outputs → ledger ≡ after_transaction before id tx → next ≡ spend_from 0 spent mid
    → IsAppended old ledger next spent id held tx
append_leaves old before ledger mid next spent id held tx was passed numbers made after e =
    let outs : next ≡ spend_from 0 spent old.outputs ++ made_from held id 0 tx.outputs =
    e ∙ ap (spend_from 0 spent) made ∙ subst (λ ns. spend_from 0 ns (old.outputs ++ made_from held id 0 tx.outputs) ≡ spend_from 0 ns old.outputs ++ made_from held id 0 tx.outputs) (sym numbers) (spent_then_made old.tip old.outputs (made_from held id 0 tx.outputs) tx passed) in
    let same : ledger ≡ chain (record { tip = old.tip; outputs = next }) =
    after ∙ ap (λ c. after_transaction c id tx) was ∙ sym (synced (world_with old) tx id held passed)
    ∙ ap (λ ns. chain (record { tip = old.tip; outputs = spend_from 0 ns old.outputs ++ made_from held id 0 tx.outputs })) (sym numbers) ∙ ap (λ l. chain (record { tip = old.tip; outputs = l })) (sym outs) in
    let tip : ledger.tip ≡ old.tip = ap (λ (c : Chain). c.tip) same in
    record { outputs = outs; synced = same ∙ ap (λ t. chain (record { tip = t; outputs = next })) (sym tip); tip = tip }

-- ---- the opening

-- the ledger of the opening transaction is that of its outputs
pub opening_synced : (id : List ℕ) (os : List TxOut) → opening_chain id os ≡ chain (record { tip = 0; outputs = made_from holds_nothing id 0 os })
opening_synced id os =
    let live = sym (live-made holds_nothing id 0 0 os) in
    let size = sym (length-made_from holds_nothing id 0 os) in
    λ j. record { tip = 0; births = size j; live = live j }

pub opening_chained : (ledger : Chain) (made : List Output) (id : List ℕ) (os : List TxOut) → ledger ≡ opening_chain id os → made
    ≡ made_from holds_nothing id 0 os
    → ledger ≡ chain (record { tip = ledger.tip; outputs = made })
opening_chained ledger made id os opened same =
    let tip : ledger.tip ≡ 0 = ap (λ (c : Chain). c.tip) opened in
    opened ∙ opening_synced id os ∙ (λ i. chain (record { tip = sym tip i; outputs = sym same i }))

-- the first output of an opening has the opening's txid
pub first_id : (live : List Entry) (id found : List ℕ) (vout : ℕ) (os : List TxOut) → live ≡ born 0 id 0 os
    → option_map (λ (e : Entry). e.0) (numbered live 0) ≡ Some (record { txid = found; vout = vout }) → made_from holds_nothing found 0 os
    ≡ made_from holds_nothing id 0 os
first_id live id found vout [] same is = refl
first_id live id found vout (o ∷ os) same is =
    let first : Some (let p : OutPoint = record { txid = id; vout = 0 } in p) ≡ Some (record { txid = found; vout = vout }) =
    sym (ap (λ es. option_map (λ (e : Entry). e.0) (numbered es 0)) same) ∙ is in
    let place : record { txid = id; vout = 0 } ≡ (let p : OutPoint = record { txid = found; vout = vout } in p) = cc in
    ap (λ (p : OutPoint). made_from holds_nothing p.txid 0 (o ∷ os)) (sym place)

pub no_first : (live : List Entry) (id other : List ℕ) (os : List TxOut) → live ≡ born 0 id 0 os
    → option_map (λ (e : Entry). e.0) (numbered live 0) ≡ None → made_from holds_nothing other 0 os ≡ made_from holds_nothing id 0 os
no_first live id other [] same is = refl
no_first live id other (o ∷ os) same is =
    let first : Some (let p : OutPoint = record { txid = id; vout = 0 } in p) ≡ None = sym (ap (λ es. option_map (λ (e : Entry). e.0) (numbered es 0)) same) ∙ is in
    cc
