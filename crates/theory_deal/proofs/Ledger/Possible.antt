-- There is a ledger on which different outputs are live.
use Rattle.std.proofs.Common.{◌≡◌, ℕ, zero, suc, ◌+◌, List, [], ◌∷◌, map, Bool, true, false, Option, Some, refl, sym, ◌∙◌, subst, arith, cond, inl, inr}
use Rattle.std.specs.Prelude.{slice_get}
use Rattle.std.specs.List.{list_any}
use Rattle.std.specs.Option.{option_map}
use Rattle.std.proofs.lemmas.Bool.{or_parts, both_ways}
use Rattle.spec_bitcoin.specs.declared.tx.TxIn.{TxIn}
use Rattle.spec_bitcoin.specs.declared.tx.TxOut.{TxOut}
use Rattle.spec_bitcoin.specs.Live.{Entry, Chain, same_outpoint, at_place}
use Rattle.spec_bitcoin.specs.Verdict.{has_repeat}
use Rattle.spec_compiler.specs.declared.unsigned.Spent.{Spent}
use Rattle.spec_compiler.specs.Keyed.Transactions.{input_of, pays}
use Rattle.theory_calculus.specs.Members.{Is_in}
use Rattle.theory_calculus.proofs.Members.{in_from_contains}
use Rattle.theory_world.proofs.Same.{place_refl}
use Rattle.theory_world.proofs.Tests.{any_map}
use Rattle.spec_deal.specs.declared.transaction.Wallet.{Wallet}
use Rattle.spec_deal.specs.Wallets.{spent_output}
use Rattle.theory_deal.specs.Accepted.{output_at, AreLive, AllLive}
use Rattle.theory_deal.proofs.Ledger.Made.{any_in}

module _ (hash : List ℕ → List ℕ) where
  -- what the plan spends, as a live output
  abbrev entry : Spent → Entry
  entry x = (x.outpoint, (0, pays hash x.script x.value))

  first_lies : (x : Spent) (xs : List Spent) → output_at (map entry (x ∷ xs)) x.outpoint ≡ Some (pays hash x.script x.value)
  first_lies x xs = rw (place_refl x.outpoint) refl

  all_lie : (xs : List Spent) → has_repeat (map input_of xs) ≡ false → (x : Spent) → Is_in x xs
      → output_at (map entry xs) x.outpoint ≡ Some (pays hash x.script x.value)
  all_lie [] apart x i = absurd i
  all_lie (y ∷ ys) apart x (inl same) =
      subst (λ (z : Spent). output_at (map entry (y ∷ ys)) z.outpoint ≡ Some (pays hash z.script z.value)) (sym same) (first_lies y ys)
  all_lie (y ∷ ys) apart x (inr i) =
      let p = or_parts (list_any (λ (j : TxIn). same_outpoint j.prev y.outpoint) (map input_of ys)) (has_repeat (map input_of ys)) apart in
      by_test (same_outpoint x.outpoint y.outpoint) refl p.0 (all_lie ys p.1 x i)
    where
      by_test : (b : Bool) → same_outpoint x.outpoint y.outpoint ≡ b
          → list_any (λ (j : TxIn). same_outpoint j.prev y.outpoint) (map input_of ys) ≡ false
          → output_at (map entry ys) x.outpoint ≡ Some (pays hash x.script x.value)
          → option_map (λ (q : ℕ × TxOut). q.1) (cond b (Some (0, pays hash y.script y.value)) (at_place (map entry ys) x.outpoint))
          ≡ Some (pays hash x.script x.value)
      by_test true e none later =
          absurd (both_ways _ none (any_map (λ (j : TxIn). same_outpoint j.prev y.outpoint) input_of ys
          ∙ any_in (λ (z : Spent). same_outpoint z.outpoint y.outpoint) ys x i e))
      by_test false e none later = later

  -- at any height
  pub some_ledger : (xs : List Spent) → has_repeat (map input_of xs) ≡ false → (tip : ℕ)
      → (chain : Chain) × (chain.tip ≡ tip) × AreLive hash chain.live xs
  some_ledger xs apart tip =
      (record { tip = tip; births = 0; live = map entry xs }, refl, λ x c. all_lie xs apart x (in_from_contains xs x c))

-- ---- with the outputs of wallets

module _ (hash : List ℕ → List ℕ) (wallet : ℕ → Option Wallet) where
  -- what the inputs from number k on spend, as live outputs
  abbrev entries : ℕ → List Spent → List Entry
  entries k [] = []
  entries k (x ∷ xs) = (x.outpoint, (0, spent_output hash (wallet k) x)) ∷ entries (k + 1) xs

  each_lies : (k : ℕ) (xs : List Spent) → has_repeat (map input_of xs) ≡ false → (j : ℕ) (x : Spent) → slice_get xs j ≡ Some x
      → output_at (entries k xs) x.outpoint ≡ Some (spent_output hash (wallet (k + j)) x)
  each_lies k [] apart j x e = cc
  each_lies k (y ∷ ys) apart zero x e =
      let same : y ≡ x = cc in
      let z : k ≡ k + 0 = omega arith in
      subst (λ (u : Spent). output_at (entries k (u ∷ ys)) x.outpoint ≡ Some (spent_output hash (wallet (k + 0)) x)) (sym same)
      (subst (λ (n : ℕ). output_at (entries k (x ∷ ys)) x.outpoint ≡ Some (spent_output hash (wallet n) x)) z
      (rw (place_refl x.outpoint) refl))
  each_lies k (y ∷ ys) apart (suc j) x e =
      let p = or_parts (list_any (λ (i : TxIn). same_outpoint i.prev y.outpoint) (map input_of ys)) (has_repeat (map input_of ys)) apart in
      let n : k + 1 + j ≡ k + suc j = omega arith in
      by_test (same_outpoint x.outpoint y.outpoint) refl p.0
      (subst (λ (m : ℕ). output_at (entries (k + 1) ys) x.outpoint ≡ Some (spent_output hash (wallet m) x)) n (each_lies (k + 1) ys p.1 j x e))
    where
      stands : (zs : List Spent) (i : ℕ) → slice_get zs i ≡ Some x → Is_in x zs
      stands [] i q = cc
      stands (z ∷ zs) zero q = inl (let same : z ≡ x = cc in sym same)
      stands (z ∷ zs) (suc i) q = inr (stands zs i q)

      by_test : (b : Bool) → same_outpoint x.outpoint y.outpoint ≡ b
          → list_any (λ (i : TxIn). same_outpoint i.prev y.outpoint) (map input_of ys) ≡ false
          → output_at (entries (k + 1) ys) x.outpoint ≡ Some (spent_output hash (wallet (k + suc j)) x)
          → option_map (λ (q : ℕ × TxOut). q.1)
          (cond b (Some (0, spent_output hash (wallet k) y)) (at_place (entries (k + 1) ys) x.outpoint))
          ≡ Some (spent_output hash (wallet (k + suc j)) x)
      by_test true t none later =
          absurd (both_ways _ none (any_map (λ (i : TxIn). same_outpoint i.prev y.outpoint) input_of ys
          ∙ any_in (λ (z : Spent). same_outpoint z.outpoint y.outpoint) ys x (stands ys j e) t))
      by_test false t none later = later

  -- at any height
  pub some_ledger_by : (xs : List Spent) → has_repeat (map input_of xs) ≡ false → (tip : ℕ)
      → (chain : Chain) × (chain.tip ≡ tip) × AllLive hash chain.live wallet xs
  some_ledger_by xs apart tip = (
    record { tip = tip; births = 0; live = entries 0 xs },
    refl,
    λ k x e.
        let z : 0 + k ≡ k = omega arith in
        subst (λ (n : ℕ). output_at (entries 0 xs) x.outpoint ≡ Some (spent_output hash (wallet n) x)) z (each_lies 0 xs apart k x e),
  )
