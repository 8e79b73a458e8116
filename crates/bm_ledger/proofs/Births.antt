-- Outputs that are born are new, and stand in order.
use Rattle.std.proofs.Common.{◌≡◌, ℕ, suc, ◌+◌, ◌<◌, ◌≤◌, List, [], ◌∷◌, ◌++◌, length, take, Bool, true, false, ◌&&◌, cond, Some, None, refl, sym, ap, ◌∙◌, arith, get_or, append_assoc}
use Rattle.std.specs.Prelude.{◌==◌, ◌||◌, not, IsTrue, ◌↔◌}
use Rattle.std.specs.List.{list_any}
use Rattle.std.specs.Map.{keys_of, lookup}
use Rattle.std.specs.Str.{bytes_eq}
use Rattle.std.proofs.lemmas.List.{take_more, length-take, length-take-le}
use Rattle.spec_bitcoin.specs.declared.tx.OutPoint.{OutPoint}
use Rattle.spec_bitcoin.specs.declared.tx.TxOut.{TxOut}
use Rattle.spec_bitcoin.specs.Live.{Entry, same_outpoint, at_place, born, IsNewTxid}

none_in_both : (p : OutPoint) (xs ys : List Entry) → at_place xs p ≡ None → at_place ys p ≡ None → at_place (xs ++ ys) p ≡ None
none_in_both p [] ys h g = g
none_in_both p (x ∷ xs) ys h g =
    elim (same_outpoint p x.0) as (λ b. cond b (Some x.1) (at_place xs p) ≡ None → cond b (Some x.1) (at_place (xs ++ ys) p) ≡ None) [
      | true ↦ λ s. cc
      | false ↦ λ s. none_in_both p xs ys s g
    ] h

and_false : (b : Bool) → b && false ≡ false
and_false true = refl
and_false false = refl

other_vout : (txid : List ℕ) (j k : ℕ) → k < j → bytes_eq txid txid && j == k ≡ false
other_vout txid j k h =
    let apart : j == k ≡ false = grind arith in
    rw apart (and_false (bytes_eq txid txid))

unborn : (births : ℕ) (txid : List ℕ) (k j : ℕ) (os : List TxOut) → k + length os ≤ j
    → at_place (born births txid k os) (record { txid = txid; vout = j }) ≡ None
unborn births txid k j [] h = refl
unborn births txid k j (o ∷ os) h = rw (other_vout txid j k (omega arith)) (unborn births txid (k + 1) j os (omega arith))

-- the next output's place is new
pub next_is_new : (births : ℕ) (txid : List ℕ) (old now : List Entry) (os : List TxOut) (i : ℕ) → IsNewTxid old txid → now ≡ old
    ++ born births txid 0 (take i os) → i < length os → at_place now (record { txid = txid; vout = i }) ≡ None
next_is_new births txid old now os i fresh is lt =
    rw is (none_in_both _ old (born births txid 0 (take i os)) (fresh i) (unborn births txid 0 i (take i os) (let short = length-take i os in omega arith)))

born_push : (births : ℕ) (txid : List ℕ) (k : ℕ) (os : List TxOut) (o : TxOut) → born births txid k (os ++ o ∷ []) ≡ born births txid k os
    ++ (record { txid = txid; vout = k + length os }, (births + (k + length os), o)) ∷ []
born_push births txid k [] o = let e : k ≡ k + 0 = omega arith in ap (λ (j : ℕ). (record { txid = txid; vout = j }, (births + j, o)) ∷ []) e
born_push births txid k (x ∷ xs) o =
    let e : k + 1 + length xs ≡ k + suc (length xs) = omega arith in
    ap (λ l. (record { txid = txid; vout = k }, (births + k, x)) ∷ l)
    (born_push births txid (k + 1) xs o ∙ ap (λ (j : ℕ). born births txid (k + 1) xs ++ (record { txid = txid; vout = j }, (births + j, o)) ∷ []) e)

-- the outputs so far and the next
pub born_more : (births : ℕ) (txid : List ℕ) (old now next : List Entry) (os : List TxOut) (i : ℕ) (o : TxOut) → now ≡ old
    ++ born births txid 0 (take i os) → i < length os → o ≡ get_or os i o → next ≡ now
    ++ (record { txid = txid; vout = i }, (births + i, o)) ∷ [] → next ≡ old ++ born births txid 0 (take (i + 1) os)
born_more births txid old now next os i o is lt at e =
    let n = length-take-le i os (omega arith) in
    let start : 0 + length (take i os) ≡ i = omega arith in
    e ∙ ap (λ l. l ++ (record { txid = txid; vout = i }, (births + i, o)) ∷ []) is
    ∙ append_assoc old (born births txid 0 (take i os)) ((record { txid = txid; vout = i }, (births + i, o)) ∷ [])
    ∙ ap (λ l. old ++ l) (sym (
    ap (born births txid 0) (take_more os i o lt ∙ ap (λ x. take i os ++ x ∷ []) (sym at))
    ∙ born_push births txid 0 (take i os) o
    ∙ ap (λ (j : ℕ). born births txid 0 (take i os) ++ (record { txid = txid; vout = j }, (births + j, o)) ∷ []) start))

-- ---- outputs of a new txid

-- whether an output at this place was made by the transaction of this txid
abbrev pub is_of : List ℕ → OutPoint → Bool
is_of txid place = bytes_eq txid place.txid

same_numbers : (n : ℕ) → n == n ≡ true
same_numbers n = grind arith

module _ {X : Type 0} where
  none_new : (es : List (OutPoint × X)) (txid : List ℕ) → list_any (is_of txid) (keys_of es) ≡ false → (k : ℕ)
      → lookup (same_outpoint (record { txid = txid; vout = k })) es ≡ None
  none_new [] txid h k = refl
  none_new (e ∷ es) txid h k =
      elim (bytes_eq txid e.0.txid) as (λ b. b || list_any (is_of txid) (keys_of es) ≡ false
      → cond (b && k == e.0.vout) (Some e.1) (lookup (same_outpoint (record { txid = txid; vout = k })) es) ≡ None) [
        | true ↦ λ s. cc
        | false ↦ λ s. none_new es txid s k
      ] h

  new_none : (es : List (OutPoint × X)) (txid : List ℕ) → ((k : ℕ) → lookup (same_outpoint (record { txid = txid; vout = k })) es ≡ None)
      → list_any (is_of txid) (keys_of es) ≡ false
  new_none [] txid h = refl
  new_none (e ∷ es) txid h =
      elim (bytes_eq txid e.0.txid) as
      (λ b. ((k : ℕ) → cond (b && k == e.0.vout) (Some e.1) (lookup (same_outpoint (record { txid = txid; vout = k })) es) ≡ None)
      → b || list_any (is_of txid) (keys_of es) ≡ false) [
        | true ↦ λ s.
            let here = s e.0.vout in
            let same = same_numbers e.0.vout in
            (let none : cond true (Some e.1) (lookup (same_outpoint (record { txid = txid; vout = e.0.vout })) es) ≡ None = rw same at here in cc)
        | false ↦ λ s. new_none es txid s
      ] h

  -- no key of a map is a place of this txid
  pub is_new_txid : (es : List (OutPoint × X)) (txid : List ℕ) (b : Bool) → b ≡ list_any (is_of txid) (keys_of es)
      → IsTrue (not b) ↔ ((k : ℕ) → lookup (same_outpoint (record { txid = txid; vout = k })) es ≡ None)
  is_new_txid es txid true is = ((λ t. cc), (λ new. let none = new_none es txid new in cc))
  is_new_txid es txid false is = ((λ t. none_new es txid (sym is)), (λ new. refl))
