-- The world's outputs, seen as deposits and as active contracts.
use Rattle.std.proofs.Common.{◌≡◌, ℕ, zero, suc, ◌+◌, ◌<◌, List, [], ◌∷◌, ◌++◌, length, map, Bool, true, false, not, Option, Some, None, refl, sym, ap, ◌∙◌, arith, add-zero}
use Rattle.std.specs.Prelude.{if◌then◌else◌, ◌==◌, ◌&&◌, slice_get}
use Rattle.std.specs.List.{filter, find, cons_option}
use Rattle.std.specs.Option.{is_none, option_and_then}
use Rattle.std.proofs.lemmas.Bool.{eq-eqb, ne_eqb}
use Rattle.std.proofs.lemmas.Bool.Decides.{nat_tests}
use Rattle.spec_data.specs.Lists.{has_number}
use Rattle.spec_bitcoin.specs.declared.tx.TxOut.{TxOut}
use Rattle.spec_calculus.specs.declared.parts.Deposit.{Deposit}
use Rattle.spec_calculus.specs.declared.parts.ActiveContract.{ActiveContract}
use Rattle.spec_calculus.specs.Moves.{deposit_at, kept, made}
use Rattle.spec_calculus.specs.Branches.{active_at}
use Rattle.spec_run.specs.Setup.{Setup}
use Rattle.spec_run.specs.World.{ContractPosition, Output}
use Rattle.spec_run.specs.Owners.{owner_by}
use Rattle.spec_run.specs.Ledger.{spend_from, made_from}
use Rattle.spec_run.specs.Steps.{moved_output}
use Rattle.spec_run.specs.Agreement.{deposit_in, active_by, active_in, seen_from, deposits_from, actives_from}

pub length-spend_from : (k : ℕ) (ns : List ℕ) (os : List Output) → length (spend_from k ns os) ≡ length os
length-spend_from k ns [] = refl
length-spend_from k ns (o ∷ os) = ap suc (length-spend_from (k + 1) ns os)

pub length-made_from : (held : ℕ → Option ContractPosition) (id : List ℕ) (k : ℕ) (os : List TxOut) → length (made_from held id k os) ≡ length os
length-made_from held id k [] = refl
length-made_from held id k (o ∷ os) = ap suc (length-made_from held id (k + 1) os)

-- ---- what is seen of the outputs

cons-append : {X : Type 0} (o : Option X) (xs ys : List X) → cons_option o (xs ++ ys) ≡ cons_option o xs ++ ys
cons-append None xs ys = refl
cons-append (Some x) xs ys = refl

module _ {X : Type 0} (f : ℕ → Output → Option X) where
  pub seen-append : (k : ℕ) (xs ys : List Output) → seen_from f k (xs ++ ys) ≡ seen_from f k xs ++ seen_from f (k + length xs) ys
  seen-append k [] ys = rw add-zero
  seen-append k (x ∷ xs) ys =
      let e : k + 1 + length xs ≡ k + suc (length xs) = omega arith in
      let ih = rw e at (seen-append (k + 1) xs ys) in
      ap (cons_option (f k x)) ih ∙ cons-append (f k x) (seen_from f (k + 1) xs) (seen_from f (k + suc (length xs)) ys)

  -- each is seen under its number, and nothing of what is spent
  module _ (name : X → ℕ) (named : (k : ℕ) (o : Output) (x : X) → f k o ≡ Some x → name x ≡ k)
      (dead : (k : ℕ) (o : Output) → f k (record o { live = false }) ≡ None) where
    pub seen-spent : (k : ℕ) (ns : List ℕ) (os : List Output) → seen_from f k (spend_from k ns os)
        ≡ filter (λ x. not (has_number (name x) ns)) (seen_from f k os)
    seen-spent k ns [] = refl
    seen-spent k ns (o ∷ os) =
        let d = dead k o in
        by_seen (f k o) refl (seen-spent (k + 1) ns os)
      where
        by_seen : (s : Option X) → f k o ≡ s → seen_from f (k + 1) (spend_from (k + 1) ns os)
            ≡ filter (λ x. not (has_number (name x) ns)) (seen_from f (k + 1) os)
            → cons_option (f k (if has_number k ns then record o { live = false } else o)) (seen_from f (k + 1) (spend_from (k + 1) ns os))
            ≡ filter (λ x. not (has_number (name x) ns)) (cons_option s (seen_from f (k + 1) os))
        by_seen None e ih = let d = dead k o in grind (arith, e, d, ih)
        by_seen (Some x) e ih = let d = dead k o in let n = named k o x e in grind (arith, e, d, n, ih)

    seen-below : (k n : ℕ) (os : List Output) → n < k → find (λ x. name x == n) (seen_from f k os) ≡ None
    seen-below k n [] h = refl
    seen-below k n (o ∷ os) h = by_seen (f k o) refl (seen-below (k + 1) n os (omega arith))
      where
        by_seen : (s : Option X) → f k o ≡ s → find (λ x. name x == n) (seen_from f (k + 1) os) ≡ None
            → find (λ x. name x == n) (cons_option s (seen_from f (k + 1) os)) ≡ None
        by_seen None e ih = ih
        by_seen (Some x) e ih = let m = named k o x e in grind (arith, nat_tests, m, ih)

    pub seen-at : (k n : ℕ) (os : List Output) → find (λ x. name x == n + k) (seen_from f k os) ≡ option_and_then (f (n + k)) (slice_get os n)
    seen-at k n [] = refl
    seen-at k zero (o ∷ os) = by_seen (f k o) refl (seen-below (k + 1) (0 + k) os (omega arith))
      where
        by_seen : (s : Option X) → f k o ≡ s → find (λ x. name x == 0 + k) (seen_from f (k + 1) os) ≡ None
            → find (λ x. name x == 0 + k) (cons_option s (seen_from f (k + 1) os)) ≡ f (0 + k) o
        by_seen None e ih = let z : 0 + k ≡ k = omega arith in rw z (rw z at ih ∙ sym e)
        by_seen (Some x) e ih = let m = named k o x e in let z : 0 + k ≡ k = omega arith in rw (z, m, eq-eqb k k refl) (sym e)
    seen-at k (suc n) (o ∷ os) =
        let z : n + (k + 1) ≡ suc n + k = omega arith in
        let ih = rw z at (seen-at (k + 1) n os) in
        by_seen (f k o) refl ih
      where
        by_seen : (s : Option X) → f k o ≡ s → find (λ x. name x == suc n + k) (seen_from f (k + 1) os)
            ≡ option_and_then (f (suc n + k)) (slice_get os n) → find (λ x. name x == suc n + k) (cons_option s (seen_from f (k + 1) os))
            ≡ option_and_then (f (suc n + k)) (slice_get os n)
        by_seen None e ih = ih
        by_seen (Some x) e ih = let m = named k o x e in let t : (name x == suc n + k) ≡ false = rw m (ne_eqb k (suc n + k) (λ q. omega arith)) in rw t ih

-- ---- deposits and active contracts

pub deposit-named : (s : Setup) (k : ℕ) (o : Output) (d : Deposit) → deposit_in s k o ≡ Some d → d.number ≡ k
deposit-named s k o d h = by_test (o.live && is_none o.holds) h
  where
    by_test : (b : Bool) → (if b then Some record { number = k; owner = owner_by s o.script; value = o.value } else None) ≡ Some d → d.number ≡ k
    by_test true e = let q : record { number = k; owner = owner_by s o.script; value = o.value } ≡ d = cc in ap (λ (x : Deposit). x.number) (sym q)
    by_test false e = cc

pub active-named : (k : ℕ) (o : Output) (x : ActiveContract) → active_in k o ≡ Some x → x.number ≡ k
active-named k o x h = by_case o.live o.holds h
  where
    by_case : (b : Bool) (p : Option ContractPosition) → active_by k o.value (if b then p else None) ≡ Some x → x.number ≡ k
    by_case true None e = cc
    by_case true (Some p) e =
        let q : record { number = k; contract = p.contract; position = p.position; balance = o.value } ≡ x = cc in
        ap (λ (y : ActiveContract). y.number) (sym q)
    by_case false p e = cc

pub deposits-append : (s : Setup) (k : ℕ) (xs ys : List Output) → deposits_from s k (xs ++ ys) ≡ deposits_from s k xs ++ deposits_from s (k + length xs) ys
deposits-append s k xs ys = seen-append (deposit_in s) k xs ys

pub actives-append : (k : ℕ) (xs ys : List Output) → actives_from k (xs ++ ys) ≡ actives_from k xs ++ actives_from (k + length xs) ys
actives-append k xs ys = seen-append active_in k xs ys

pub deposits-spent : (s : Setup) (k : ℕ) (ns : List ℕ) (os : List Output) → deposits_from s k (spend_from k ns os) ≡ kept (deposits_from s k os) ns
deposits-spent s k ns os = seen-spent (deposit_in s) (λ d. d.number) (deposit-named s) (λ j o. refl) k ns os

pub actives-spent : (k : ℕ) (ns : List ℕ) (os : List Output) → actives_from k (spend_from k ns os)
    ≡ filter (λ x. not (has_number x.number ns)) (actives_from k os)
actives-spent k ns os = seen-spent active_in (λ x. x.number) active-named (λ j o. refl) k ns os

abbrev pub nothing_held : ℕ → Option ContractPosition
nothing_held k = None

pub deposits-new : (s : Setup) (k j : ℕ) (id : List ℕ) (os : List TxOut) → deposits_from s k (made_from nothing_held id j os) ≡ made k (map (moved_output s) os)
deposits-new s k j id [] = refl
deposits-new s k j id (o ∷ os) = ap (λ ds. record { number = k; owner = owner_by s o.script; value = o.value } ∷ ds) (deposits-new s (k + 1) (j + 1) id os)

pub actives-new : (k j : ℕ) (id : List ℕ) (os : List TxOut) → actives_from k (made_from nothing_held id j os) ≡ []
actives-new k j id [] = refl
actives-new k j id (o ∷ os) = actives-new (k + 1) (j + 1) id os

-- a live output as the deposit of that number
abbrev pub deposit_of : Setup → ℕ → Option Output → Option Deposit
deposit_of s n o = option_and_then (deposit_in s n) o

pub deposit-at : (s : Setup) (n : ℕ) (os : List Output) → deposit_at (deposits_from s 0 os) n ≡ deposit_of s n (slice_get os n)
deposit-at s n os = let e : n + 0 ≡ n = omega arith in rw e at (seen-at (deposit_in s) (λ d. d.number) (deposit-named s) (λ j o. refl) 0 n os)

pub active-at : (n : ℕ) (os : List Output) → active_at (actives_from 0 os) n ≡ option_and_then (active_in n) (slice_get os n)
active-at n os = let e : n + 0 ≡ n = omega arith in rw e at (seen-at active_in (λ x. x.number) active-named (λ j o. refl) 0 n os)
