-- The spent outputs are among the old ones, so the new ones stay.
use Rattle.std.proofs.Common.{◌≡◌, ℕ, ◌+◌, List, [], ◌∷◌, ◌++◌, map, Bool, true, false, not, ◌&&◌, ◌||◌, cond, Some, None, refl, sym, ap, ◌∙◌, arith, length}
use Rattle.std.specs.Prelude.{is_some, ◌==◌}
use Rattle.std.specs.List.{list_any, position_from}
use Rattle.std.specs.Map.{remove_entry}
use Rattle.std.specs.Str.{bytes_eq}
use Rattle.std.proofs.lemmas.Slice.Eq.{bytes_eq-Decides}
use Rattle.spec_bitcoin.specs.declared.tx.OutPoint.{OutPoint}
use Rattle.spec_bitcoin.specs.declared.tx.TxIn.{TxIn}
use Rattle.spec_bitcoin.specs.Live.{Entry, Chain, after_transaction, same_outpoint, at_place, without, born}
use Rattle.spec_bitcoin.specs.Verdict.{has_repeat, first_missing}
use Rattle.spec_bitcoin.specs.declared.tx.Tx.{Tx}

both : (a b : Bool) → a && b ≡ true → (a ≡ true) × (b ≡ true)
both true b h = (refl, h)
both false b h = cc

neither : (a b : Bool) → a || b ≡ false → (a ≡ false) × (b ≡ false)
neither true b h = cc
neither false b h = (refl, h)

same_numbers : (a b : ℕ) → a == b ≡ true → a ≡ b
same_numbers a b h = grind arith

-- places that the test takes for the same are the same
pub same_outpoint-is : (a b : OutPoint) → same_outpoint a b ≡ true → a ≡ b
same_outpoint-is a b h =
    let p = both (bytes_eq a.txid b.txid) (a.vout == b.vout) h in
    ap (λ t. record a { txid = t }) ((bytes_eq-Decides a.txid b.txid).0 p.0) ∙ ap (λ (v : ℕ). record b { vout = v }) (same_numbers a.vout b.vout p.1)

-- removing one place leaves what stands at another
pub at_place-remove_entry : (es : List Entry) (p q : OutPoint) → same_outpoint q p ≡ false → at_place (remove_entry (same_outpoint p) es) q ≡ at_place es q
at_place-remove_entry [] p q h = refl
at_place-remove_entry (e ∷ es) p q h =
    elim (same_outpoint p e.0) as (λ b. same_outpoint p e.0 ≡ b
    → at_place (cond b es (e ∷ remove_entry (same_outpoint p) es)) q ≡ cond (same_outpoint q e.0) (Some e.1) (at_place es q)) [
      | true ↦ λ t. let other : same_outpoint q e.0 ≡ false = ap (same_outpoint q) (sym (same_outpoint-is p e.0 t)) ∙ h in rw other refl
      | false ↦ λ t. ap (cond (same_outpoint q e.0) (Some e.1)) (at_place-remove_entry es p q h)
    ] refl

-- a place that is live in front is removed there
pub remove_entry-append : (es bs : List Entry) (p : OutPoint) → is_some (at_place es p) ≡ true → remove_entry (same_outpoint p) (es ++ bs)
    ≡ remove_entry (same_outpoint p) es ++ bs
remove_entry-append [] bs p h = cc
remove_entry-append (e ∷ es) bs p h =
    elim (same_outpoint p e.0) as (λ b. is_some (cond b (Some e.1) (at_place es p)) ≡ true
    → cond b (es ++ bs) (e ∷ remove_entry (same_outpoint p) (es ++ bs)) ≡ cond b es (e ∷ remove_entry (same_outpoint p) es) ++ bs) [
      | true ↦ λ s. refl
      | false ↦ λ s. ap (λ l. e ∷ l) (remove_entry-append es bs p s)
    ] h

abbrev pub AllLive : List Entry → List TxIn → Type 0
AllLive es [] = Unit {0}
AllLive es (i ∷ is) = (is_some (at_place es i.prev) ≡ true) × AllLive es is

pub all_live : (es : List Entry) (k : ℕ) (is : List TxIn) → position_from (λ i. not (is_some (at_place es i.prev))) k is ≡ None → AllLive es is
all_live es k [] h = tt
all_live es k (i ∷ is) h =
    elim (is_some (at_place es i.prev)) as (λ b. is_some (at_place es i.prev) ≡ b
    → cond (not b) (Some k) (position_from (λ i. not (is_some (at_place es i.prev))) (k + 1) is) ≡ None → AllLive es (i ∷ is)) [
      | true ↦ λ t s. (t, all_live es (k + 1) is s)
      | false ↦ λ t s. cc
    ] refl h

stay_live : (es : List Entry) (p : OutPoint) (is : List TxIn) → list_any (λ j. same_outpoint j.prev p) is ≡ false → AllLive es is
    → AllLive (remove_entry (same_outpoint p) es) is
stay_live es p [] h l = tt
stay_live es p (i ∷ is) h l =
    let n = neither (same_outpoint i.prev p) (list_any (λ j. same_outpoint j.prev p) is) h in
    (ap is_some (at_place-remove_entry es p i.prev n.0) ∙ l.0, stay_live es p is n.1 l.1)

without_append : (es bs : List Entry) (is : List TxIn) → AllLive es is → has_repeat is ≡ false → without (es ++ bs) (map (λ i. i.prev) is)
    ≡ without es (map (λ i. i.prev) is) ++ bs
without_append es bs [] l h = refl
without_append es bs (i ∷ is) l h =
    let n = neither (list_any (λ j. same_outpoint j.prev i.prev) is) (has_repeat is) h in
    ap (λ x. without x (map (λ i. i.prev) is)) (remove_entry-append es bs i.prev l.0)
    ∙ without_append (remove_entry (same_outpoint i.prev) es) bs is (stay_live es i.prev is n.0 l.1) n.1

pub without-append : (es bs : List Entry) (is : List TxIn) → first_missing es is ≡ None → has_repeat is ≡ false
    → without (es ++ bs) (map (λ i. i.prev) is) ≡ without es (map (λ i. i.prev) is) ++ bs
without-append es bs is m h = without_append es bs is (all_live es 0 is m) h

-- the ledger after an accepted transaction
pub appended : (chain : Chain) (tx : Tx) (txid : List ℕ) (births : ℕ) (next : List Entry) → first_missing chain.live tx.inputs ≡ None
    → has_repeat tx.inputs ≡ false → next ≡ without (chain.live ++ born chain.births txid 0 tx.outputs) (map (λ i. i.prev) tx.inputs)
    → births ≡ chain.births + length tx.outputs → ◌≡◌ {A = Chain} (record { tip = chain.tip; births = births; live = next }) (after_transaction chain txid tx)
appended chain tx txid births next missing repeat shrunk count =
    rw (count, shrunk, without-append chain.live (born chain.births txid 0 tx.outputs) tx.inputs missing repeat) refl
