-- Live outputs that are in order and apart, and what becomes of them.
use Rattle.std.proofs.Common.{◌≡◌, ℕ, zero, suc, ◌+◌, ◌<◌, ◌≤◌, List, [], ◌∷◌, ◌++◌, Bool, true, false, cond, Option, Some, None, refl, sym, ap, subst, ◌∙◌, arith, slice_get, length}
use Rattle.std.specs.Prelude.{◌==◌, ◌↔◌, IsTrue, is_some, remove, ◌^◌}
use Rattle.std.specs.Map.{remove_entry}
use Rattle.std.specs.Option.{option_map, option_and_then}
use Rattle.std.proofs.lemmas.Option.{slice_get_within}
use Rattle.std.proofs.lemmas.Slice.Eq.{bytes_eq-Decides}
use Rattle.spec_bitcoin.specs.declared.tx.OutPoint.{OutPoint}
use Rattle.spec_bitcoin.specs.declared.tx.TxOut.{TxOut}
use Rattle.spec_bitcoin.specs.Live.{Entry, same_outpoint, at_place, IsNewTxid}
use Rattle.bm_ledger.specs.Ordered.{numbered, if_numbered, number_at, AreInOrder, AreApart, AreIndexed}
use Rattle.bm_ledger.proofs.Numbering.{other_number, in_order-append, in_order-remove_entry}
use Rattle.bm_ledger.proofs.Spending.{same_outpoint-is, at_place-remove_entry}

-- ---- places

same_numbers : (n : ℕ) → n == n ≡ true
same_numbers n = grind arith

pub same-itself : (a : OutPoint) → same_outpoint a a ≡ true
same-itself a = rw ((bytes_eq-Decides a.txid a.txid).1 refl) (same_numbers a.vout)

pub other-place : (a b : OutPoint) → same_outpoint a b ≡ false → same_outpoint b a ≡ false
other-place a b h =
    elim (same_outpoint b a) as (λ r. same_outpoint b a ≡ r → r ≡ false) [
      | true ↦ λ t. let same : same_outpoint a b ≡ true = ap (same_outpoint a) (same_outpoint-is b a t) ∙ same-itself a in cc
      | false ↦ λ t. refl
    ] refl

-- ---- the number at a place

none_numbered : (o : Option (ℕ × TxOut)) → option_map (λ p. p.0) o ≡ None → o ≡ None
none_numbered None h = refl
none_numbered (Some q) h = cc

-- where there is no number there is no output
pub none_there : (es : List Entry) (p : OutPoint) → number_at es p ≡ None → at_place es p ≡ None
none_there es p h = none_numbered (at_place es p) h

number-least : (low high : ℕ) (es : List Entry) (p : OutPoint) (n : ℕ) → AreInOrder low high es → number_at es p ≡ Some n → low ≤ n
number-least low high [] p n h at = cc
number-least low high (e ∷ es) p n h at =
    elim (same_outpoint p e.0) as (λ b. option_map (λ q. q.0) (cond b (Some e.1) (at_place es p)) ≡ Some n → low ≤ n) [
      | true ↦ λ s. let same : e.1.0 ≡ n = cc in let a = h.0 in omega arith
      | false ↦ λ s. let r = number-least (e.1.0 + 1) high es p n h.2 s in let a = h.0 in omega arith
    ] at

-- the output at a place is found by its number
pub numbered-at_place : (low high : ℕ) (es : List Entry) (p : OutPoint) (n : ℕ) → AreInOrder low high es → number_at es p ≡ Some n
    → numbered es n ≡ option_map (λ q. (p, q)) (at_place es p)
numbered-at_place low high [] p n h at = cc
numbered-at_place low high (e ∷ es) p n h at =
    elim (same_outpoint p e.0) as (λ b. same_outpoint p e.0 ≡ b → option_map (λ q. q.0) (cond b (Some e.1) (at_place es p)) ≡ Some n
    → cond (e.1.0 == n) (Some e) (numbered es n) ≡ option_map (λ q. (p, q)) (cond b (Some e.1) (at_place es p))) [
      | true ↦ λ t s.
          let is : e.1.0 ≡ n = cc in
          let here : e.1.0 == n ≡ true = rw is (same_numbers n) in
          rw (here, same_outpoint-is p e.0 t) refl
      | false ↦ λ t s.
          let r = number-least (e.1.0 + 1) high es p n h.2 s in
          let apart : e.1.0 == n ≡ false = other_number e.1.0 n (λ same. omega arith) in
          rw apart (numbered-at_place (e.1.0 + 1) high es p n h.2 s)
    ] refl at

found_here : (n : ℕ) (o : Option Entry) (e : Entry) → option_and_then (if_numbered n) o ≡ Some e → o ≡ Some e
found_here n None e h = cc
found_here n (Some x) e h =
    elim (x.1.0 == n) as (λ b. cond b (Some x) None ≡ Some e → Some x ≡ Some e) [
      | true ↦ λ s. s
      | false ↦ λ s. cc
    ] h

-- ---- where an output stands

absent_before : (es : List Entry) (p : OutPoint) (i : ℕ) (e : Entry) → at_place es p ≡ None → slice_get es i ≡ Some e → same_outpoint p e.0 ≡ false
absent_before [] p i e h at = cc
absent_before (x ∷ xs) p zero e h at =
    let is : x ≡ e = cc in
    elim (same_outpoint p x.0) as (λ b. same_outpoint p x.0 ≡ b → cond b (Some x.1) (at_place xs p) ≡ None → same_outpoint p e.0 ≡ false) [
      | true ↦ λ t s. cc
      | false ↦ λ t s. subst (λ y. same_outpoint p y.0 ≡ false) is t
    ] refl h
absent_before (x ∷ xs) p (suc i) e h at =
    elim (same_outpoint p x.0) as (λ b. cond b (Some x.1) (at_place xs p) ≡ None → same_outpoint p e.0 ≡ false) [
      | true ↦ λ s. cc
      | false ↦ λ s. absent_before xs p i e s at
    ] h

-- the output at a place is removed where it stands
pub remove-at : (es : List Entry) (i : ℕ) (e : Entry) → AreApart es → slice_get es i ≡ Some e → remove_entry (same_outpoint e.0) es ≡ remove es i
remove-at [] i e h at = cc
remove-at (x ∷ xs) zero e h at =
    let is : x ≡ e = cc in
    let here : same_outpoint e.0 x.0 ≡ true = subst (λ y. same_outpoint e.0 y.0 ≡ true) (sym is) (same-itself e.0) in
    rw here refl
remove-at (x ∷ xs) (suc i) e h at =
    let apart : same_outpoint e.0 x.0 ≡ false = other-place x.0 e.0 (absent_before xs x.0 i e h.0 at) in
    rw apart (ap (λ l. x ∷ l) (remove-at xs i e h.1 at))

-- nothing is removed where nothing stands
pub remove-absent : (es : List Entry) (p : OutPoint) → at_place es p ≡ None → remove_entry (same_outpoint p) es ≡ es
remove-absent [] p h = refl
remove-absent (e ∷ es) p h =
    elim (same_outpoint p e.0) as (λ b. cond b (Some e.1) (at_place es p) ≡ None → cond b es (e ∷ remove_entry (same_outpoint p) es) ≡ e ∷ es) [
      | true ↦ λ s. cc
      | false ↦ λ s. ap (λ l. e ∷ l) (remove-absent es p s)
    ] h

still_absent : (es : List Entry) (p q : OutPoint) → at_place es q ≡ None → at_place (remove_entry (same_outpoint p) es) q ≡ None
still_absent [] p q h = refl
still_absent (e ∷ es) p q h =
    elim (same_outpoint q e.0) as (λ c. same_outpoint q e.0 ≡ c
    → cond c (Some e.1) (at_place es q) ≡ None → at_place (cond (same_outpoint p e.0) es (e ∷ remove_entry (same_outpoint p) es)) q ≡ None) [
      | true ↦ λ t s. cc
      | false ↦ λ t s. elim (same_outpoint p e.0) as (λ b. at_place (cond b es (e ∷ remove_entry (same_outpoint p) es)) q ≡ None) [
        | true ↦ s
        | false ↦ rw t (still_absent es p q s)
      ]
    ] refl h

apart-removed : (es : List Entry) (p : OutPoint) → AreApart es → AreApart (remove_entry (same_outpoint p) es)
apart-removed [] p h = tt
apart-removed (e ∷ es) p h =
    elim (same_outpoint p e.0) as (λ b. AreApart (cond b es (e ∷ remove_entry (same_outpoint p) es))) [
      | true ↦ h.1
      | false ↦ (still_absent es p e.0 h.0, apart-removed es p h.1)
    ]

-- what is removed is gone
gone : (es : List Entry) (p : OutPoint) → AreApart es → at_place (remove_entry (same_outpoint p) es) p ≡ None
gone [] p h = refl
gone (e ∷ es) p h =
    elim (same_outpoint p e.0) as (λ b. same_outpoint p e.0 ≡ b → at_place (cond b es (e ∷ remove_entry (same_outpoint p) es)) p ≡ None) [
      | true ↦ λ t. subst (λ q. at_place es q ≡ None) (sym (same_outpoint-is p e.0 t)) h.0
      | false ↦ λ t. rw t (gone es p h.1)
    ] refl

last_other : (xs : List Entry) (e : Entry) (p : OutPoint) → at_place (xs ++ e ∷ []) p ≡ None → same_outpoint p e.0 ≡ false
last_other [] e p h =
    elim (same_outpoint p e.0) as (λ b. cond b (Some e.1) None ≡ None → b ≡ false) [
      | true ↦ λ s. cc
      | false ↦ λ s. refl
    ] h
last_other (x ∷ xs) e p h =
    elim (same_outpoint p x.0) as (λ b. cond b (Some x.1) (at_place (xs ++ e ∷ []) p) ≡ None → same_outpoint p e.0 ≡ false) [
      | true ↦ λ s. cc
      | false ↦ λ s. last_other xs e p s
    ] h

remove-last : (es : List Entry) (e : Entry) → AreApart (es ++ e ∷ []) → remove_entry (same_outpoint e.0) (es ++ e ∷ []) ≡ es
remove-last [] e h = rw (same-itself e.0) refl
remove-last (x ∷ xs) e h =
    let apart : same_outpoint e.0 x.0 ≡ false = other-place x.0 e.0 (last_other xs e x.0 h.0) in
    rw apart (ap (λ l. x ∷ l) (remove-last xs e h.1))

-- ---- one output more

same-flip : (a b : OutPoint) → same_outpoint a b ≡ same_outpoint b a
same-flip a b =
    elim (same_outpoint a b) as (λ r. same_outpoint a b ≡ r → r ≡ same_outpoint b a) [
      | true ↦ λ t. let is = same_outpoint-is a b t in sym (ap (same_outpoint b) is ∙ same-itself b)
      | false ↦ λ t. sym (other-place a b t)
    ] refl

not_first : (p : OutPoint) (x : Entry) (xs : List Entry) → at_place (x ∷ xs) p ≡ None → (same_outpoint p x.0 ≡ false) × (at_place xs p ≡ None)
not_first p x xs h =
    elim (same_outpoint p x.0) as (λ b. cond b (Some x.1) (at_place xs p) ≡ None → (b ≡ false) × (at_place xs p ≡ None)) [
      | true ↦ λ s. cc
      | false ↦ λ s. (refl, s)
    ] h

at_place-push : (es : List Entry) (e : Entry) (q : OutPoint) → at_place es e.0 ≡ None → at_place (es ++ e ∷ []) q
    ≡ cond (same_outpoint e.0 q) (Some e.1) (at_place es q)
at_place-push [] e q h = ap (λ b. cond {A = Option (ℕ × TxOut)} b (Some e.1) None) (same-flip q e.0)
at_place-push (x ∷ xs) e q h =
    let n = not_first e.0 x xs h in
    ap (cond (same_outpoint q x.0) (Some x.1)) (at_place-push xs e q n.1)
    ∙ elim (same_outpoint e.0 q) as (λ b. same_outpoint e.0 q ≡ b → cond (same_outpoint q x.0) (Some x.1) (cond b (Some e.1) (at_place xs q))
    ≡ cond b (Some e.1) (cond (same_outpoint q x.0) (Some x.1) (at_place xs q))) [
      | true ↦ λ t.
          let apart : same_outpoint q x.0 ≡ false = ap (λ p. same_outpoint p x.0) (sym (same_outpoint-is e.0 q t)) ∙ n.0 in
          ap (λ b. cond {A = Option (ℕ × TxOut)} b (Some x.1) (Some e.1)) apart
      | false ↦ λ t. refl
    ] refl

apart-push : (es : List Entry) (e : Entry) → AreApart es → at_place es e.0 ≡ None → AreApart (es ++ e ∷ [])
apart-push [] e h new = (refl, tt)
apart-push (x ∷ xs) e h new =
    let n = not_first e.0 x xs new in
    (at_place-push xs e x.0 n.1 ∙ ap (λ b. cond b (Some e.1) (at_place xs x.0)) n.0 ∙ h.0, apart-push xs e h.1 n.1)

-- ---- what keeps the outputs indexed

-- an output more, of a new place and a higher number
pub added : (f g : OutPoint → Option ℕ) (es : List Entry) (p : OutPoint) (n : ℕ) (o : TxOut) → AreIndexed f es → AreInOrder 0 n es
    → n < 2 ^ 32 → at_place es p ≡ None → ((q : OutPoint) → g q ≡ cond (same_outpoint p q) (Some n) (f q)) → AreIndexed g (es ++ (p, (n, o)) ∷ [])
added f g es p n o was order fits new now = record {
  in_order = in_order-append 0 n (2 ^ 32) es ((p, (n, o)) ∷ []) (omega arith) (omega arith) order ((omega arith), fits, tt);
  apart = apart-push es (p, (n, o)) was.apart new;
  numbers = λ q.
      now q
      ∙ elim (same_outpoint p q) as (λ b. cond b (Some n) (f q) ≡ option_map (λ (r : ℕ × TxOut). r.0) (cond b (Some (n, o)) (at_place es q))) [
        | true ↦ refl
        | false ↦ was.numbers q
      ]
      ∙ sym (ap (option_map (λ (r : ℕ × TxOut). r.0)) (at_place-push es (p, (n, o)) q new));
}

-- one removed
pub removed : (f g : OutPoint → Option ℕ) (es : List Entry) (p : OutPoint) → AreIndexed f es
    → ((q : OutPoint) → g q ≡ cond (same_outpoint p q) None (f q)) → AreIndexed g (remove_entry (same_outpoint p) es)
removed f g es p was now = record {
  in_order = in_order-remove_entry 0 (2 ^ 32) p es was.in_order;
  apart = apart-removed es p was.apart;
  numbers = λ q.
      now q
      ∙ elim (same_outpoint p q) as (λ b. same_outpoint p q ≡ b → cond b None (f q) ≡ number_at (remove_entry (same_outpoint p) es) q) [
        | true ↦ λ t. subst (λ r. None ≡ number_at (remove_entry (same_outpoint p) es) r) (same_outpoint-is p q t)
            (sym (ap (option_map (λ (r : ℕ × TxOut). r.0)) (gone es p was.apart)))
        | false ↦ λ t. was.numbers q ∙ sym (ap (option_map (λ (r : ℕ × TxOut). r.0)) (at_place-remove_entry es p q (other-place p q t)))
      ] refl;
}

-- the last one removed
pub popped : (f g : OutPoint → Option ℕ) (es all : List Entry) (e : Entry) → all ≡ es ++ e ∷ [] → AreIndexed f all
    → ((q : OutPoint) → g q ≡ cond (same_outpoint e.0 q) None (f q)) → AreIndexed g es
popped f g es all e is was now =
    let cut = subst (AreIndexed f) is was in
    subst (AreIndexed g) (remove-last es e cut.apart) (removed f g (es ++ e ∷ []) e.0 cut now)

-- ---- what is found

second_of : (p : OutPoint) (o : Option (ℕ × TxOut)) → option_map (λ (e : Entry). e.1) (option_map (λ q. (p, q)) o) ≡ o
second_of p None = refl
second_of p (Some q) = refl

-- the output of a place's number
pub found : (f : OutPoint → Option ℕ) (es : List Entry) (p : OutPoint) (n : ℕ) → AreIndexed f es → f p ≡ Some n
    → option_map (λ e. e.1) (numbered es n) ≡ at_place es p
found f es p n is at =
    ap (option_map (λ (e : Entry). e.1)) (numbered-at_place 0 (2 ^ 32) es p n is.in_order (sym (is.numbers p) ∙ at)) ∙ second_of p (at_place es p)

is_numbered : (o : Option (ℕ × TxOut)) → is_some (option_map (λ p. p.0) o) ≡ is_some o
is_numbered None = refl
is_numbered (Some q) = refl

-- there is an output where there is a number
pub contained : (f : OutPoint → Option ℕ) (es : List Entry) (p : OutPoint) → AreIndexed f es → is_some (f p) ≡ is_some (at_place es p)
contained f es p is = ap is_some (is.numbers p) ∙ is_numbered (at_place es p)

-- the output of a place's number stands where it is removed
pub taken : (f : OutPoint → Option ℕ) (es : List Entry) (p : OutPoint) (n i : ℕ) → AreIndexed f es → f p ≡ Some n → numbered es n
    ≡ option_and_then (if_numbered n) (slice_get es i) → (i < length es) × (remove es i ≡ remove_entry (same_outpoint p) es)
taken f es p n i is at stands =
    elim (at_place es p) as (λ o. option_map (λ (q : ℕ × TxOut). q.0) o ≡ Some n
    → numbered es n ≡ option_map (λ q. (p, q)) o → (i < length es) × (remove es i ≡ remove_entry (same_outpoint p) es)) [
      | None ↦ λ s t. cc
      | Some q ↦ λ s t.
          let here : slice_get es i ≡ Some (p, q) = found_here n (slice_get es i) (p, q) (sym stands ∙ t) in
          (slice_get_within es i (p, q) here, sym (remove-at es i (p, q) is.apart here))
    ] number (numbered-at_place 0 (2 ^ 32) es p n is.in_order number)
  where
    number : number_at es p ≡ Some n
    number = sym (is.numbers p) ∙ at

-- nothing is removed where there is no number
pub untaken : (f : OutPoint → Option ℕ) (es : List Entry) (p : OutPoint) → AreIndexed f es → f p ≡ None → es ≡ remove_entry (same_outpoint p) es
untaken f es p is at = sym (remove-absent es p (none_there es p (sym (is.numbers p) ∙ at)))

-- a txid is new where it has no number
pub new_by_number : (f : OutPoint → Option ℕ) (es : List Entry) (txid : List ℕ) (b : Bool) → AreIndexed f es
    → IsTrue b ↔ ((k : ℕ) → f (record { txid = txid; vout = k }) ≡ None) → IsTrue b ↔ IsNewTxid es txid
new_by_number f es txid b is h = (
  (λ t k. none_there es (record { txid = txid; vout = k }) (sym (is.numbers (record { txid = txid; vout = k })) ∙ h.0 t k)),
  (λ new. h.1 (λ k. is.numbers (record { txid = txid; vout = k }) ∙ ap (option_map (λ (r : ℕ × TxOut). r.0)) (new k))),
)
