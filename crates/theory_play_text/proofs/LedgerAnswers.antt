-- What the ledger answers may be printed.
use Rattle.std.proofs.Common.{◌≡◌, ℕ, suc, ◌+◌, ◌<◌, ◌≤◌, ◌^◌, List, [], ◌∷◌, map, length, Bool, true, false, Option, Some, None}
use Rattle.std.proofs.Common.{refl, subst, arith, cond}
use Rattle.std.specs.Prelude.{if◌then◌else◌, is_some, nat_lt, not}
use Rattle.std.specs.List.{AllByRecursion, position_from}
use Rattle.std.specs.Option.{option_and_then, option_map_or}
use Rattle.std.proofs.lemmas.Bool.Decides.{nat_tests}
use Rattle.std.proofs.lemmas.List.Sums.{sum_by-cons}
use Rattle.spec_data.specs.Lists.{first_reason, or_else}
use Rattle.spec_data.specs.Ranges.{max_money}
use Rattle.spec_data.proofs.ListLemmas.{no_reason-none_true, or_else-none}
use Rattle.spec_bitcoin.specs.declared.tx.TxIn.{TxIn}
use Rattle.spec_bitcoin.specs.declared.tx.TxOut.{TxOut}
use Rattle.spec_bitcoin.specs.declared.tx.Tx.{Tx}
use Rattle.spec_bitcoin.specs.declared.verdict.Refusal.{Refusal}
use Rattle.spec_bitcoin.specs.Keys.{Pair}
use Rattle.spec_bitcoin.specs.Live.{Entry, at_place}
use Rattle.spec_bitcoin.specs.Verdict.{first_missing, number_or_zero, total_of, whole_row, input_row, input_refusal, inputs_refusal}
use Rattle.spec_bitcoin.specs.Verdict.{refusal_of, spent_number, verdict_for}
use Rattle.spec_run.specs.declared.outcome.Reason.TheVariants as reason
use Rattle.spec_run.specs.Setup.{Setup}
use Rattle.spec_run.specs.World.{World}
use Rattle.spec_run.specs.Ledger.{live_from, chain_of, made_with_values, judged, reaches}
use Rattle.theory_calculus.proofs.Members.{get_below}
use Rattle.theory_world.proofs.Ledger.Found.{found}
use Rattle.theory_play_text.specs.Printable.{IsWide, IsReason, IsOutcome}

-- ---- rows

-- what each answer of a row has, the first that holds has
pub first_has : {R : Type 0} (P : R → Type 0) (row : List (Bool × R)) → AllByRecursion (λ p. p.0 ≡ true → P (p.1)) row
    → (r : R) → first_reason row ≡ Some r → P r
first_has P [] h r e = cc
first_has P (p ∷ ps) h r e = by_test (p.0) refl e (first_has P ps h.1 r)
  where
    by_test : (t : Bool) → p.0 ≡ t → (if t then Some (p.1) else first_reason ps) ≡ Some r → (first_reason ps ≡ Some r → P r) → P r
    by_test true q j ih = let same : p.1 ≡ r = cc in subst P same (h.0 q)
    by_test false q j ih = ih j

pub number_some : (P : ℕ → Type 0) (o : Option ℕ) → ((n : ℕ) → o ≡ Some n → P n) → is_some o ≡ true → P (number_or_zero o)
number_some P None f h = cc
number_some P (Some n) f h = f n refl

-- ---- refusals

placed : {A : Type 0} (p : A → Bool) (k : ℕ) (xs : List A) (n : ℕ) → position_from p k xs ≡ Some n → n ≤ k + length xs
placed p k [] n e = cc
placed p k (x ∷ xs) n e = by_test (p x) e (placed p (k + 1) xs n)
  where
    by_test : (t : Bool) → cond t (Some k) (position_from p (k + 1) xs) ≡ Some n
        → (position_from p (k + 1) xs ≡ Some n → n ≤ (k + 1) + length xs) → n ≤ k + suc (length xs)
    by_test true q ih = let same : k ≡ n = cc in omega (arith, same)
    by_test false q ih = let r = ih q in omega (arith, r)

abbrev IsRefusal : Refusal → Type 0
IsRefusal r = IsReason (reason.Ledger r)

-- a transaction with numbers that may be shown
pub record IsHanded (tx : Tx) : Type 0 where
  pub inputs : length tx.inputs ≤ 2 ^ 40
  pub outputs : length tx.outputs ≤ 2 ^ 40
  pub lock : tx.lock < 2 ^ 40

module _ (hash : List ℕ → List ℕ) (book : List Pair) (live : List Entry) (tx : Tx) where
  whole_shown : (tip : ℕ) → length tx.inputs ≤ 2 ^ 40
      → AllByRecursion (λ (p : Bool × Refusal). p.0 ≡ true → IsRefusal (p.1)) (whole_row tip live tx)
  whole_shown tip few = (
    λ h. tt,
    (
      λ h. tt,
      (
        λ h. tt,
        (
          λ h. number_some (λ n. IsWide n) (first_missing live tx.inputs)
              (λ n e. let l = placed (λ i. not (is_some (at_place live i.prev))) 0 tx.inputs n e in omega (arith, l, few)) h,
          (
            λ h. tt,
            (
              λ h. tt,
              (
                λ h. tt,
                tt,
              ),
            ),
          ),
        ),
      ),
    ),
  )

  input_shown : (k : ℕ) (i : TxIn) (r : Refusal) → IsWide k → input_refusal hash book live tx k i ≡ Some r → IsRefusal r
  input_shown k i r h e = by_place (at_place live i.prev) e
    where
      by_place : (o : Option (ℕ × TxOut))
          → option_and_then (λ (p : ℕ × TxOut). first_reason (input_row hash book tx k i (p.1))) o ≡ Some r → IsRefusal r
      by_place None q = cc
      by_place (Some p) q = first_has IsRefusal (input_row hash book tx k i (p.1)) (λ x. h, (λ x. h, (λ x. h, (λ x. h, (λ x. h, tt))))) r q

  inputs_shown : (k : ℕ) (is : List TxIn) (r : Refusal) → k + length is ≤ 2 ^ 40 → inputs_refusal hash book live tx k is ≡ Some r
      → IsRefusal r
  inputs_shown k [] r few e = cc
  inputs_shown k (i ∷ is) r few e =
      by_first (input_refusal hash book live tx k i) refl e (inputs_shown (k + 1) is r (omega (arith, few)))
    where
      by_first : (o : Option Refusal) → input_refusal hash book live tx k i ≡ o
          → or_else o (inputs_refusal hash book live tx (k + 1) is) ≡ Some r
          → (inputs_refusal hash book live tx (k + 1) is ≡ Some r → IsRefusal r) → IsRefusal r
      by_first (Some q) j x ih = let same : q ≡ r = cc in subst IsRefusal same (input_shown k i q (omega (arith, few)) j)
      by_first None j x ih = ih x

  pub refusal_shown : (tip : ℕ) (r : Refusal) → length tx.inputs ≤ 2 ^ 40 → refusal_of hash book tip live tx ≡ Some r → IsRefusal r
  refusal_shown tip r few e = by_whole (first_reason (whole_row tip live tx)) refl e
    where
      by_whole : (o : Option Refusal) → first_reason (whole_row tip live tx) ≡ o
          → or_else o (inputs_refusal hash book live tx 0 tx.inputs) ≡ Some r → IsRefusal r
      by_whole (Some q) j x =
          let same : q ≡ r = cc in subst IsRefusal same (first_has IsRefusal (whole_row tip live tx) (whole_shown tip few) q j)
      by_whole None j x = inputs_shown 0 tx.inputs r (omega (arith, few)) x

-- ---- what is accepted

module _ (s : Setup) (w signed : World) (few : length signed.outputs ≤ 2 ^ 40) (tx : Tx) (handed : IsHanded tx) where
  abbrev live : List Entry
  live = live_from 0 signed.outputs

  spent_wide : (i : TxIn) → IsWide (spent_number (live_from 0 signed.outputs) i)
  spent_wide i = by_place (at_place (live_from 0 signed.outputs) i.prev) refl
    where
      by_place : (o : Option (ℕ × TxOut)) → at_place (live_from 0 signed.outputs) i.prev ≡ o
          → IsWide (option_map_or (λ (p : ℕ × TxOut). p.0) o 0)
      by_place None e = omega arith
      by_place (Some q) e =
          let f = found signed.outputs i.prev 0 q e in
          let l = get_below signed.outputs f.number f.output f.there in
          omega (arith, f.counted, l, few)

  each_spent : (is : List TxIn) → AllByRecursion IsWide (map (spent_number (live_from 0 signed.outputs)) is)
  each_spent [] = tt
  each_spent (i ∷ is) = (spent_wide i, each_spent is)

  each_made : (n : ℕ) (os : List TxOut) → n + length os ≤ 2 ^ 42 → total_of os ≤ max_money
      → AllByRecursion (λ m. IsWide (m.0) × IsWide (m.1)) (made_with_values n os)
  each_made n [] l v = tt
  each_made n (o ∷ os) l v =
      let e = sum_by-cons (λ (x : TxOut). x.value) o os in
      ((omega (arith, l), omega (arith, e, v)), each_made (n + 1) os (omega (arith, l)) (omega (arith, e, v)))

  not_more : (a b : ℕ) → nat_lt a b ≡ false → b ≤ a
  not_more a b h = grind (arith, nat_tests)

  pub judged_shown : IsOutcome (reaches s w signed tx).outcome
  judged_shown = by_refusal (refusal_of s.hash signed.book signed.tip live tx) refl
    where
      by_refusal : (o : Option Refusal) → refusal_of s.hash signed.book signed.tip (live_from 0 signed.outputs) tx ≡ o
          → IsOutcome (judged s w signed tx (verdict_for (chain_of signed) tx o)).outcome
      by_refusal (Some r) e = refusal_shown s.hash signed.book (live_from 0 signed.outputs) tx signed.tip r handed.inputs e
      by_refusal None e =
          let row = no_reason-none_true (whole_row signed.tip (live_from 0 signed.outputs) tx) (or_else-none _ _ e).0 in
          let money = not_more max_money (total_of tx.outputs) row.1.1.1.1.0 in (
            each_spent tx.inputs,
            each_made (length signed.outputs) tx.outputs (omega (arith, few, handed.outputs)) money,
            omega
                (arith, handed.lock),
          )
