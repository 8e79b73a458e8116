-- A transaction is bad by the first reason that holds of it.
use Rattle.std.proofs.Common.{◌≡◌, ℕ, zero, suc, ◌+◌, ◌<◌, ◌≤◌, List, [], ◌∷◌, length, Bool, true, false, Option, Some, None}
use Rattle.std.proofs.Common.{refl, sym, ap, subst, ◌∙◌, inl, inr, cond, arith}
use Rattle.std.specs.Prelude.{◌⊎◌, ◌&&◌, not, nat_lt, is_some}
use Rattle.std.specs.List.{list_any}
use Rattle.std.specs.Str.{bytes_eq}
use Rattle.std.proofs.lemmas.Bool.{both_ways}
use Rattle.std.proofs.lemmas.Bool.Decides.{nat_tests}
use Rattle.spec_data.specs.Lists.{first_reason, or_else}
use Rattle.spec_data.specs.Ranges.{most_item_bytes}
use Rattle.spec_bitcoin.specs.declared.tx.OutPoint.{OutPoint}
use Rattle.spec_bitcoin.specs.declared.tx.Tx.{Tx}
use Rattle.spec_bitcoin.specs.declared.tx.TxIn.{TxIn}
use Rattle.spec_bitcoin.specs.Live.{same_outpoint}
use Rattle.spec_bitcoin.specs.Meaning.{script_meaning}
use Rattle.spec_bitcoin.specs.Spelling.{is_filled, stripped}
use Rattle.spec_bitcoin.specs.Verdict.{script_of, items_of, is_long}
use Rattle.spec_compiler.specs.Keyed.Instance.{Instance}
use Rattle.spec_deal.specs.declared.transaction.Input.{Input}
use Rattle.spec_deal.specs.declared.transaction.Wallet.{Wallet}
use Rattle.spec_deal.specs.declared.transaction.Transaction.{Transaction}
use Rattle.spec_deal.specs.SignatureFile.{has_bytes}
use Rattle.theory_calculus.proofs.Members.{in_filter, filter_has, in_from_contains, contains_from_in}
use Rattle.theory_calculus.proofs.Names.{bytes-true, bytes_refl}
use Rattle.theory_script.proofs.Keyed.Stands.{some_same}
use Rattle.theory_world.proofs.Same.{place-true, place_refl}
use Rattle.spec_chain.specs.declared.fault.ChainReason.{ChainReason}
use Rattle.spec_chain.specs.declared.fault.ChainReason.TheVariants as reasons
use Rattle.spec_chain.specs.declared.output.Output.{Output}
use Rattle.spec_chain.specs.Following.{State, own_transaction, which_shown}
use Rattle.spec_chain.specs.Outputs.{has_place, is_there, without, deal_outputs, position_outputs, transaction_named}
use Rattle.spec_chain.specs.Refusals.{refusal, input_row, inputs_reason, lock_reason, takes_all, opens, opens_input, witnesses_reason, branch_reason, own_reason}
use Rattle.theory_chain.specs.Reasons.{SpendsAt, IsInputBad, IsInputForeign, IsShut, IsShutBy, IsWitnessBad, IsReason, phase, number, side, IsBefore, IsFirstReason, BadExactly}
use Rattle.theory_chain.proofs.Deals.Outputs.{any_there, there_of, at_place}
use Rattle.theory_chain.proofs.Runs.Kept.{false_of}

-- ---- order

no_true : true ≡ false → ⊥
no_true e = cc

no_false : false ≡ true → ⊥
no_false e = cc

none_some : {A : Type 0} {x : A} → None ≡ Some x → ⊥
none_some e = cc

-- of one phase, no earlier input, and no earlier side of the same
not_before : (a b : ChainReason) → IsBefore a b → phase a ≡ phase b → number b ≤ number a → (number a ≡ number b → side b ≤ side a) → ⊥
not_before a b (inl l) e low sides = absurd (omega (arith, l, e))
not_before a b (inr (inl l)) e low sides = let m = l.1 in absurd (omega (arith, m, low))
not_before a b (inr (inr l)) e low sides =
    let m = sides l.1 in
    let k = l.2 in
    absurd (omega (arith, m, k))

later_phase : (a b : ChainReason) → IsBefore a b → phase b < phase a → ⊥
later_phase a b (inl l) e = absurd (omega (arith, l, e))
later_phase a b (inr (inl l)) e = let m = l.0 in absurd (omega (arith, m, e))
later_phase a b (inr (inr l)) e = let m = l.0 in absurd (omega (arith, m, e))

-- the reason of these numbers
abbrev of_rank : ℕ → ℕ → ℕ → ChainReason
of_rank zero n k = reasons.Form
of_rank (suc zero) n zero = reasons.Input n
of_rank (suc zero) n (suc k) = reasons.Foreign n
of_rank (suc (suc zero)) n k = reasons.Lock
of_rank (suc (suc (suc zero))) n k = reasons.Witness n
of_rank (suc (suc (suc (suc p)))) n k = reasons.Branch

compare : (m n : ℕ) → (m < n) ⊎ ((n < m) ⊎ (m ≡ n))
compare m n = by_tests (nat_lt m n) (nat_lt n m) refl refl
  where
    by_tests : (a b : Bool) → nat_lt m n ≡ a → nat_lt n m ≡ b → (m < n) ⊎ ((n < m) ⊎ (m ≡ n))
    by_tests true b e f = inl (grind (arith, nat_tests, e))
    by_tests false true e f = inr (inl (grind (arith, nat_tests, f)))
    by_tests false false e f =
        let p : n ≤ m = grind (arith, nat_tests, e) in
        let q : m ≤ n = grind (arith, nat_tests, f) in
        inr (inr (omega (arith, p, q)))

-- ---- places

gone_from : (live : List Output) (q p : OutPoint) → has_place (without live q) p ≡ false → (has_place live p ≡ false) ⊎ (p ≡ q)
gone_from live q p e = by_test (same_outpoint p q) refl
  where
    by_test : (b : Bool) → same_outpoint p q ≡ b → (has_place live p ≡ false) ⊎ (p ≡ q)
    by_test true f = inr (place-true p q f)
    by_test false f =
        inl (false_of (has_place live p) (λ there.
        let o = at_place live p there in
        let kept = filter_has (λ (x : Output). not (is_there q x)) live o.0 o.1 (ap not (ap (λ (x : OutPoint). same_outpoint x q) o.2 ∙ f)) in
        both_ways _ e (any_there (is_there p) (without live q) o.0 kept (ap (λ (x : OutPoint). same_outpoint x p) o.2 ∙ place_refl p))))

gone_more : (live : List Output) (q p : OutPoint) → has_place live p ≡ false → has_place (without live q) p ≡ false
gone_more live q p e =
    false_of (has_place (without live q) p) (λ there.
    let o = at_place (without live q) p there in
    let k = in_filter (λ (x : Output). not (is_there q x)) live o.0 o.1 in
    both_ways _ e (any_there (is_there p) live o.0 k.0 (ap (λ (x : OutPoint). same_outpoint x p) o.2 ∙ place_refl p)))

gone_self : (live : List Output) (q p : OutPoint) → p ≡ q → has_place (without live q) p ≡ false
gone_self live q p same =
    false_of (has_place (without live q) p) (λ there.
    let o = at_place (without live q) p there in
    let k = in_filter (λ (x : Output). not (is_there q x)) live o.0 o.1 in
    let spent : is_there q o.0 ≡ true = ap (λ (x : OutPoint). same_outpoint x q) (o.2 ∙ same) ∙ place_refl q in
    no_false (sym (ap not spent) ∙ k.1))

-- ---- rows

abbrev row : ChainReason → ChainReason → Bool → Bool → Bool → Bool → Option ChainReason
row x y a b o p = cond (a && not b) (Some x) (cond (not o && p) (Some y) None)

second_none : (y : ChainReason) (o p : Bool) → cond (not o && p) (Some y) None ≡ None → o ≡ false → p ≡ true → ⊥
second_none y true p e f g = no_true f
second_none y false true e f g = cc
second_none y false false e f g = no_false g

row_none : (x y : ChainReason) (a b o p : Bool) → row x y a b o p ≡ None → (a ≡ true → b ≡ false → ⊥) × (o ≡ false → p ≡ true → ⊥)
row_none x y true true o p e = (λ f g. no_true g, second_none y o p e)
row_none x y true false o p e = cc
row_none x y false b o p e = (λ f g. no_false f, second_none y o p e)

second_some : (y r : ChainReason) (o p : Bool) → cond (not o && p) (Some y) None ≡ Some r → (r ≡ y) × (o ≡ false) × (p ≡ true)
second_some y r true p e = cc
second_some y r false true e = (sym (some_same e), refl, refl)
second_some y r false false e = cc

row_some : (x y r : ChainReason) (a b o p : Bool) → row x y a b o p ≡ Some r
    → ((r ≡ x) × (a ≡ true) × (b ≡ false)) ⊎ (((r ≡ y) × (o ≡ false) × (p ≡ true)) × (a ≡ true → b ≡ false → ⊥))
row_some x y r true true o p e = inr (second_some y r o p e, λ f g. no_true g)
row_some x y r true false o p e = inl (sym (some_same e), refl, refl)
row_some x y r false b o p e = inr (second_some y r o p e, λ f g. no_false f)

both_none : {R : Type 0} (a b : Option R) → or_else a b ≡ None → (a ≡ None) × (b ≡ None)
both_none None b e = (refl, e)
both_none (Some r) b e = cc

-- ---- inputs

module _ (s : Instance) (ts : List Transaction) (own : Bool) where
  -- an input from number n on is bad so
  abbrev AnyBad : List Output → ℕ → List TxIn → ChainReason → Type 0
  AnyBad live n [] r = ⊥
  AnyBad live n (i ∷ is) r =
      ((r ≡ reasons.Input n) × (has_place (deal_outputs s ts) i.prev ≡ true) × (has_place live i.prev ≡ false))
      ⊎ (((r ≡ reasons.Foreign n) × (own ≡ false) × (has_place (position_outputs s.advert ts) i.prev ≡ true))
      ⊎ AnyBad (without live i.prev) (n + 1) is r)

  any_rank : (live : List Output) (n : ℕ) (is : List TxIn) (r : ChainReason) → AnyBad live n is r → (phase r ≡ 1) × (n ≤ number r)
  any_rank live n [] r h = absurd h
  any_rank live n (i ∷ is) r (inl h) = let e = ap number h.0 in (ap phase h.0, omega (arith, e))
  any_rank live n (i ∷ is) r (inr (inl h)) = let e = ap number h.0 in (ap phase h.0, omega (arith, e))
  any_rank live n (i ∷ is) r (inr (inr h)) =
      let k = any_rank (without live i.prev) (n + 1) is r h in
      let l = k.1 in
      (k.0, omega (arith, l))

  inputs_none : (live : List Output) (n : ℕ) (is : List TxIn) → inputs_reason s ts own live n is ≡ None → (r : ChainReason) → AnyBad live n is r → ⊥
  inputs_none live n [] e r h = h
  inputs_none live n (i ∷ is) e r h =
      let p = both_none (first_reason (input_row s ts own live n i.prev)) (inputs_reason s ts own (without live i.prev) (n + 1) is) e in
      let q = row_none (reasons.Input n) (reasons.Foreign n) (has_place (deal_outputs s ts) i.prev) (has_place live i.prev) own
      (has_place (position_outputs s.advert ts) i.prev) p.0 in
      by_place q (inputs_none (without live i.prev) (n + 1) is p.1 r) h
    where
      by_place : ((has_place (deal_outputs s ts) i.prev ≡ true → has_place live i.prev ≡ false → ⊥)
          × (own ≡ false → has_place (position_outputs s.advert ts) i.prev ≡ true → ⊥))
          → (AnyBad (without live i.prev) (n + 1) is r → ⊥) → AnyBad live n (i ∷ is) r → ⊥
      by_place q later (inl k) = q.0 k.1 k.2
      by_place q later (inr (inl k)) = q.1 k.1 k.2
      by_place q later (inr (inr k)) = later k

  record FirstBad (live : List Output) (n : ℕ) (is : List TxIn) (r : ChainReason) : Type 0 where
    bad : AnyBad live n is r
    first : (other : ChainReason) → AnyBad live n is other → IsBefore other r → ⊥

  inputs_some : (live : List Output) (n : ℕ) (is : List TxIn) (r : ChainReason) → inputs_reason s ts own live n is ≡ Some r → FirstBad live n is r
  inputs_some live n [] r e = cc
  inputs_some live n (i ∷ is) r e =
      by_first (first_reason (input_row s ts own live n i.prev)) refl e (inputs_some (without live i.prev) (n + 1) is r)
    where
      here : (other : ChainReason) → AnyBad live n (i ∷ is) other → (phase other ≡ 1) × (n ≤ number other)
      here other h = any_rank live n (i ∷ is) other h

      by_row : ((r ≡ reasons.Input n) × (has_place (deal_outputs s ts) i.prev ≡ true) × (has_place live i.prev ≡ false))
          ⊎ (((r ≡ reasons.Foreign n) × (own ≡ false) × (has_place (position_outputs s.advert ts) i.prev ≡ true))
          × (has_place (deal_outputs s ts) i.prev ≡ true → has_place live i.prev ≡ false → ⊥))
          → FirstBad live n (i ∷ is) r
      by_row (inl h) = record {
        bad = inl h;
        first = λ other k before.
            let a = here other k in
            let p : phase r ≡ 1 = ap phase h.0 in
            let m : number r ≡ n = ap number h.0 in
            let z : side r ≡ 0 = ap side h.0 in
            let l = a.1 in
            not_before other r before (a.0 ∙ sym p) (omega (arith, l, m)) (λ e. omega (arith, z));
      }
      by_row (inr h) = record {
        bad = inr (inl h.0);
        first = λ other k before. by_other other k before;
      }
        where
          by_other : (other : ChainReason) → AnyBad live n (i ∷ is) other → IsBefore other r → ⊥
          by_other other (inl k) before = h.1 k.1 k.2
          by_other other (inr (inl k)) before =
              let p : phase other ≡ phase r = ap phase (k.0 ∙ sym (h.0.0)) in
              let m : number other ≡ number r = ap number (k.0 ∙ sym (h.0.0)) in
              let z : side other ≡ side r = ap side (k.0 ∙ sym (h.0.0)) in
              not_before other r before p (omega (arith, m)) (λ e. omega (arith, z))
          by_other other (inr (inr k)) before =
              let a = any_rank (without live i.prev) (n + 1) is other k in
              let p : phase r ≡ 1 = ap phase (h.0.0) in
              let m : number r ≡ n = ap number (h.0.0) in
              let l = a.1 in
              not_before other r before (a.0 ∙ sym p) (omega (arith, l, m)) (λ e. absurd (omega (arith, l, m, e)))

      by_first : (o : Option ChainReason) → first_reason (input_row s ts own live n i.prev) ≡ o
          → or_else o (inputs_reason s ts own (without live i.prev) (n + 1) is) ≡ Some r
          → (inputs_reason s ts own (without live i.prev) (n + 1) is ≡ Some r → FirstBad (without live i.prev) (n + 1) is r)
          → FirstBad live n (i ∷ is) r
      by_first (Some q) f g later =
          by_row (row_some (reasons.Input n) (reasons.Foreign n) r (has_place (deal_outputs s ts) i.prev) (has_place live i.prev) own
          (has_place (position_outputs s.advert ts) i.prev) (f ∙ g))
      by_first None f g later =
          let rest = later g in
          let q = row_none (reasons.Input n) (reasons.Foreign n) (has_place (deal_outputs s ts) i.prev) (has_place live i.prev) own
          (has_place (position_outputs s.advert ts) i.prev) f in
          record { bad = inr (inr rest.bad); first = λ other k before. by_other rest q other k before }
        where
          by_other : FirstBad (without live i.prev) (n + 1) is r
              → ((has_place (deal_outputs s ts) i.prev ≡ true → has_place live i.prev ≡ false → ⊥)
              × (own ≡ false → has_place (position_outputs s.advert ts) i.prev ≡ true → ⊥))
              → (other : ChainReason) → AnyBad live n (i ∷ is) other → IsBefore other r → ⊥
          by_other rest q other (inl k) before = q.0 k.1 k.2
          by_other rest q other (inr (inl k)) before = q.1 k.1 k.2
          by_other rest q other (inr (inr k)) before = rest.first other k before

  -- ---- in words of its own

  behind : (i : TxIn) (is : List TxIn) (j : ℕ) (p : OutPoint) → SpendsAt is j p → SpendsAt (i ∷ is) (suc j) p
  behind i is j p h = record { input = h.input; there = h.there; spends = h.spends }

  ahead : (i : TxIn) (is : List TxIn) (j : ℕ) (p : OutPoint) → SpendsAt (i ∷ is) (suc j) p → SpendsAt is j p
  ahead i is j p h = record { input = h.input; there = h.there; spends = h.spends }

  head_place : (i : TxIn) (is : List TxIn) (p : OutPoint) → SpendsAt (i ∷ is) 0 p → i.prev ≡ p
  head_place i is p h = ap (λ (x : TxIn). x.prev) (some_same h.there) ∙ h.spends

  input_to : (live : List Output) (n k : ℕ) (is : List TxIn) → AnyBad live n is (reasons.Input k) → (j : ℕ) × (k ≡ n + j) × IsInputBad s ts live is j
  input_to live n k [] h = absurd h
  input_to live n k (i ∷ is) (inl h) =
      let e : k ≡ n = ap number h.0 in
      (0, omega (arith, e), record { place = i.prev; spends = record { input = i; there = refl; spends = refl }; ours = h.1; gone = inl h.2 })
  input_to live n k (i ∷ is) (inr (inl h)) = let e : 0 ≡ 1 = ap side h.0 in absurd (omega (arith, e))
  input_to live n k (i ∷ is) (inr (inr h)) =
      let r = input_to (without live i.prev) (n + 1) k is h in
      let e = r.1 in (
        suc r.0,
        omega (arith, e),
        record {
          place = r.2.place;
          spends = behind i is r.0 r.2.place r.2.spends;
          ours = r.2.ours;
          gone = by_gone r.0 r.2.place r.2.gone;
        },
      )
    where
      by_live : (j : ℕ) (p : OutPoint) → (has_place live p ≡ false) ⊎ (p ≡ i.prev)
          → (has_place live p ≡ false) ⊎ ((m : ℕ) × (m < suc j) × SpendsAt (i ∷ is) m p)
      by_live j p (inl e) = inl e
      by_live j p (inr e) = inr (0, omega arith, record { input = i; there = refl; spends = sym e })

      by_gone : (j : ℕ) (p : OutPoint) → (has_place (without live i.prev) p ≡ false) ⊎ ((m : ℕ) × (m < j) × SpendsAt is m p)
          → (has_place live p ≡ false) ⊎ ((m : ℕ) × (m < suc j) × SpendsAt (i ∷ is) m p)
      by_gone j p (inl e) = by_live j p (gone_from live i.prev p e)
      by_gone j p (inr e) = let l = e.1 in inr (suc e.0, omega (arith, l), behind i is e.0 p e.2)

  input_from : (live : List Output) (n j : ℕ) (is : List TxIn) → IsInputBad s ts live is j → AnyBad live n is (reasons.Input (n + j))
  input_from live n j [] h = let e = h.spends.there in absurd (none_some e)
  input_from live n zero (i ∷ is) h =
      let z : n + 0 ≡ n = omega arith in
      let same = head_place i is h.place h.spends in
      inl (ap reasons.Input z, ap (has_place (deal_outputs s ts)) same ∙ h.ours, ap (has_place live) same ∙ by_gone h.gone)
    where
      by_gone : (has_place live h.place ≡ false) ⊎ ((m : ℕ) × (m < 0) × SpendsAt (i ∷ is) m h.place) → has_place live h.place ≡ false
      by_gone (inl e) = e
      by_gone (inr e) = let l = e.1 in absurd (omega (arith, l))
  input_from live n (suc j) (i ∷ is) h =
      let z : (n + 1) + j ≡ n + suc j = omega arith in
      inr (inr (subst (λ (m : ℕ). AnyBad (without live i.prev) (n + 1) is (reasons.Input m)) z
      (input_from (without live i.prev) (n + 1) j is
      (record { place = h.place; spends = ahead i is j h.place h.spends; ours = h.ours; gone = by_gone h.gone }))))
    where
      by_number : (m : ℕ) → m < suc j → SpendsAt (i ∷ is) m h.place
          → (has_place (without live i.prev) h.place ≡ false) ⊎ ((m : ℕ) × (m < j) × SpendsAt is m h.place)
      by_number zero l k = inl (gone_self live i.prev h.place (sym (head_place i is h.place k)))
      by_number (suc m) l k = inr (m, omega (arith, l), ahead i is m h.place k)

      by_gone : (has_place live h.place ≡ false) ⊎ ((m : ℕ) × (m < suc j) × SpendsAt (i ∷ is) m h.place)
          → (has_place (without live i.prev) h.place ≡ false) ⊎ ((m : ℕ) × (m < j) × SpendsAt is m h.place)
      by_gone (inl e) = inl (gone_more live i.prev h.place e)
      by_gone (inr e) = by_number e.0 e.1 e.2

  foreign_to : (live : List Output) (n k : ℕ) (is : List TxIn) → AnyBad live n is (reasons.Foreign k)
      → (own ≡ false) × ((j : ℕ) × (k ≡ n + j) × IsInputForeign s ts is j)
  foreign_to live n k [] h = absurd h
  foreign_to live n k (i ∷ is) (inl h) = let e : 1 ≡ 0 = ap side h.0 in absurd (omega (arith, e))
  foreign_to live n k (i ∷ is) (inr (inl h)) =
      let e : k ≡ n = ap number h.0 in
      (h.1, (0, omega (arith, e), record { place = i.prev; spends = record { input = i; there = refl; spends = refl }; position = h.2 }))
  foreign_to live n k (i ∷ is) (inr (inr h)) =
      let r = foreign_to (without live i.prev) (n + 1) k is h in
      let e = r.1.1 in (
        r.0,
        (
          suc r.1.0,
          omega (arith, e),
          record {
            place = r.1.2.place;
            spends = behind i is r.1.0 r.1.2.place r.1.2.spends;
            position = r.1.2.position;
          },
        ),
      )

  foreign_from : own ≡ false → (live : List Output) (n j : ℕ) (is : List TxIn) → IsInputForeign s ts is j → AnyBad live n is (reasons.Foreign (n + j))
  foreign_from other live n j [] h = let e = h.spends.there in absurd (none_some e)
  foreign_from other live n zero (i ∷ is) h =
      let z : n + 0 ≡ n = omega arith in
      inr (inl (ap reasons.Foreign z, other, ap (has_place (position_outputs s.advert ts)) (head_place i is h.place h.spends) ∙ h.position))
  foreign_from other live n (suc j) (i ∷ is) h =
      let z : (n + 1) + j ≡ n + suc j = omega arith in
      inr (inr (subst (λ (m : ℕ). AnyBad (without live i.prev) (n + 1) is (reasons.Foreign m)) z
      (foreign_from other (without live i.prev) (n + 1) j is
      (record { place = h.place; spends = ahead i is j h.place h.spends; position = h.position }))))

-- ---- witnesses

shut_of : (hash : List ℕ → List ℕ) (script : List ℕ) (witness : List (List ℕ)) → opens hash script witness ≡ false → IsShut hash script witness
shut_of hash script [] e = inl refl
shut_of hash script (x ∷ xs) e = by_script (bytes_eq (script_of (x ∷ xs)) script) refl e
  where
    by_items : (b : Bool) → list_any is_long (items_of (x ∷ xs)) ≡ b → (not b && script_meaning hash takes_all script (items_of (x ∷ xs))) ≡ false
        → IsShut hash script (x ∷ xs)
    by_items true f g =
        let r = there_of is_long (items_of (x ∷ xs)) f in
        inr (inr (inl (r.0, contains_from_in (items_of (x ∷ xs)) r.0 r.1, long (length r.0) r.2)))
      where
        long : (n : ℕ) → nat_lt most_item_bytes n ≡ true → most_item_bytes < n
        long n h = grind (arith, nat_tests, h)
    by_items false f g = inr (inr (inr g))

    by_script : (b : Bool) → bytes_eq (script_of (x ∷ xs)) script ≡ b
        → (b && (not (list_any is_long (items_of (x ∷ xs))) && script_meaning hash takes_all script (items_of (x ∷ xs)))) ≡ false
        → IsShut hash script (x ∷ xs)
    by_script true f g = by_items (list_any is_long (items_of (x ∷ xs))) refl g
    by_script false f g =
        inr (inl (λ same. both_ways _ f (ap (λ (y : List ℕ). bytes_eq y script) same ∙ bytes_refl script)))

shut_is : (hash : List ℕ → List ℕ) (script : List ℕ) (witness : List (List ℕ)) → IsShut hash script witness → opens hash script witness ≡ false
shut_is hash script witness h = false_of (opens hash script witness) (λ e. by_kind (parts (is_filled witness) _ _ _ e) h)
  where
    parts : (a b c d : Bool) → (a && (b && (not c && d))) ≡ true → (a ≡ true) × (b ≡ true) × (c ≡ false) × (d ≡ true)
    parts true true false true e = (refl, refl, refl, refl)
    parts true true false false e = cc
    parts true true true d e = cc
    parts true false c d e = cc
    parts false b c d e = cc

    by_kind : (is_filled witness ≡ true) × (bytes_eq (script_of witness) script ≡ true) × (list_any is_long (items_of witness) ≡ false)
        × (script_meaning hash takes_all script (items_of witness) ≡ true) → IsShut hash script witness → ⊥
    by_kind p (inl e) = no_false (sym (ap is_filled e) ∙ p.0)
    by_kind p (inr (inl f)) = f (bytes-true (script_of witness) script p.1)
    by_kind p (inr (inr (inl r))) =
        let l = r.2 in
        both_ways _ p.2 (any_there is_long (items_of witness) r.0 (in_from_contains (items_of witness) r.0 r.1) (long (length r.0) l))
      where
        long : (n : ℕ) → most_item_bytes < n → nat_lt most_item_bytes n ≡ true
        long n k = grind (arith, nat_tests, k)
    by_kind p (inr (inr (inr f))) = both_ways _ f p.3

-- an input with this in the place of its wallet
abbrev input_as : Input → Option Wallet → Input
input_as i wallet = record { spent = i.spent; output = i.output; digest = i.digest; signers = i.signers; wallet = wallet }

none_filled : (witness : List (List ℕ)) → is_filled witness ≡ false → witness ≡ []
none_filled [] e = refl
none_filled (x ∷ xs) e = cc

shut_by : (hash : List ℕ → List ℕ) (i : Input) (wallet : Option Wallet) (witness : List (List ℕ))
    → opens_input hash (input_as i wallet) witness ≡ false → IsShutBy hash wallet i.spent.script witness
shut_by hash i None witness e = shut_of hash i.spent.script witness e
shut_by hash i (Some w) witness e = none_filled witness e

shut_so : (hash : List ℕ → List ℕ) (i : Input) (wallet : Option Wallet) (witness : List (List ℕ))
    → IsShutBy hash wallet i.spent.script witness → opens_input hash (input_as i wallet) witness ≡ false
shut_so hash i None witness h = shut_is hash i.spent.script witness h
shut_so hash i (Some w) witness h = ap is_filled h

module _ (hash : List ℕ → List ℕ) where
  abbrev AnyShut : ℕ → List Input → List TxIn → ChainReason → Type 0
  AnyShut n [] xs r = ⊥
  AnyShut n (i ∷ is) [] r = ⊥
  AnyShut n (i ∷ is) (x ∷ xs) r = ((r ≡ reasons.Witness n) × (opens_input hash i x.witness ≡ false)) ⊎ AnyShut (n + 1) is xs r

  shut_rank : (n : ℕ) (is : List Input) (xs : List TxIn) (r : ChainReason) → AnyShut n is xs r → (phase r ≡ 3) × (n ≤ number r)
  shut_rank n [] xs r h = absurd h
  shut_rank n (i ∷ is) [] r h = absurd h
  shut_rank n (i ∷ is) (x ∷ xs) r (inl h) = let e = ap number h.0 in (ap phase h.0, omega (arith, e))
  shut_rank n (i ∷ is) (x ∷ xs) r (inr h) =
      let k = shut_rank (n + 1) is xs r h in
      let l = k.1 in
      (k.0, omega (arith, l))

  witnesses_none : (n : ℕ) (is : List Input) (xs : List TxIn) → witnesses_reason hash n is xs ≡ None → (r : ChainReason) → AnyShut n is xs r → ⊥
  witnesses_none n [] xs e r h = h
  witnesses_none n (i ∷ is) [] e r h = h
  witnesses_none n (i ∷ is) (x ∷ xs) e r h = by_test (opens_input hash i x.witness) refl e h (λ k. witnesses_none (n + 1) is xs k r)
    where
      by_test : (b : Bool) → opens_input hash i x.witness ≡ b → cond b (witnesses_reason hash (n + 1) is xs) (Some (reasons.Witness n)) ≡ None
          → AnyShut n (i ∷ is) (x ∷ xs) r → (witnesses_reason hash (n + 1) is xs ≡ None → AnyShut (n + 1) is xs r → ⊥) → ⊥
      by_test true f g (inl k) later = both_ways _ k.1 f
      by_test true f g (inr k) later = later g k
      by_test false f g k later = none_some (sym g)

  record FirstShut (n : ℕ) (is : List Input) (xs : List TxIn) (r : ChainReason) : Type 0 where
    bad : AnyShut n is xs r
    first : (other : ChainReason) → AnyShut n is xs other → IsBefore other r → ⊥

  witnesses_some : (n : ℕ) (is : List Input) (xs : List TxIn) (r : ChainReason) → witnesses_reason hash n is xs ≡ Some r → FirstShut n is xs r
  witnesses_some n [] xs r e = cc
  witnesses_some n (i ∷ is) [] r e = cc
  witnesses_some n (i ∷ is) (x ∷ xs) r e = by_test (opens_input hash i x.witness) refl e (witnesses_some (n + 1) is xs r)
    where
      by_test : (b : Bool) → opens_input hash i x.witness ≡ b → cond b (witnesses_reason hash (n + 1) is xs) (Some (reasons.Witness n)) ≡ Some r
          → (witnesses_reason hash (n + 1) is xs ≡ Some r → FirstShut (n + 1) is xs r) → FirstShut n (i ∷ is) (x ∷ xs) r
      by_test true f g later =
          let rest = later g in
          record { bad = inr rest.bad; first = λ other k before. by_other rest other k before }
        where
          by_other : FirstShut (n + 1) is xs r → (other : ChainReason) → AnyShut n (i ∷ is) (x ∷ xs) other → IsBefore other r → ⊥
          by_other rest other (inl k) before = both_ways _ k.1 f
          by_other rest other (inr k) before = rest.first other k before
      by_test false f g later =
          let same : r ≡ reasons.Witness n = sym (some_same g) in
          record {
            bad = inl (same, f);
            first = λ other k before.
                let a = shut_rank n (i ∷ is) (x ∷ xs) other k in
                let p : phase r ≡ 3 = ap phase same in
                let m : number r ≡ n = ap number same in
                let z : side r ≡ 0 = ap side same in
                let l = a.1 in
                not_before other r before (a.0 ∙ sym p) (omega (arith, l, m)) (λ y. omega (arith, z));
          }

  shut_to : (n k : ℕ) (is : List Input) (xs : List TxIn) → AnyShut n is xs (reasons.Witness k) → (j : ℕ) × (k ≡ n + j) × IsWitnessBad hash is xs j
  shut_to n k [] xs h = absurd h
  shut_to n k (i ∷ is) [] h = absurd h
  shut_to n k (i ∷ is) (x ∷ xs) (inl h) =
      let e : k ≡ n = ap number h.0 in
      (0, omega (arith, e), record { planned = i; input = x; is_planned = refl; is_input = refl; shut = shut_by hash i i.wallet x.witness h.1 })
  shut_to n k (i ∷ is) (x ∷ xs) (inr h) =
      let r = shut_to (n + 1) k is xs h in
      let e = r.1 in (
        suc r.0,
        omega (arith, e),
        record {
          planned = r.2.planned;
          input = r.2.input;
          is_planned = r.2.is_planned;
          is_input = r.2.is_input;
          shut = r.2.shut;
        },
      )

  shut_from : (n j : ℕ) (is : List Input) (xs : List TxIn) → IsWitnessBad hash is xs j → AnyShut n is xs (reasons.Witness (n + j))
  shut_from n j [] xs h = let e = h.is_planned in absurd (none_some e)
  shut_from n j (i ∷ is) [] h = let e = h.is_input in absurd (none_some e)
  shut_from n zero (i ∷ is) (x ∷ xs) h =
      let z : n + 0 ≡ n = omega arith in
      let a = h.is_planned in
      let b = h.is_input in
      inl (
        ap reasons.Witness z,
        (λ t. opens_input hash (some_same a t) (some_same b t).witness)
            ∙ shut_so hash h.planned h.planned.wallet h.input.witness h.shut,
      )
  shut_from n (suc j) (i ∷ is) (x ∷ xs) h =
      let z : (n + 1) + j ≡ n + suc j = omega arith in
      inr (subst (λ (m : ℕ). AnyShut (n + 1) is xs (reasons.Witness m)) z
      (shut_from (n + 1) j is xs (record { planned = h.planned; input = h.input; is_planned = h.is_planned; is_input = h.is_input; shut = h.shut })))

-- ---- the whole

module _ (hash : List ℕ → List ℕ) (s : Instance) (ts : List Transaction) (state : State) (height : ℕ) (tx : Tx) where
  abbrev own : Option Transaction
  own = own_transaction ts tx

  abbrev Holds : ChainReason → Type 0
  Holds r = IsReason hash s ts state height tx r

  abbrev Spent : ChainReason → Type 0
  Spent r = AnyBad s ts (is_some (own_transaction ts tx)) state.live 0 tx.inputs r

  spent_holds : (r : ChainReason) → Spent r → Holds r
  spent_holds reasons.Form h = let e : 0 ≡ 1 = (any_rank s ts (is_some own) state.live 0 tx.inputs reasons.Form h).0 in absurd (omega (arith, e))
  spent_holds reasons.Height h = let e : 0 ≡ 1 = (any_rank s ts (is_some own) state.live 0 tx.inputs reasons.Height h).0 in absurd (omega (arith, e))
  spent_holds reasons.Tx h = let e : 0 ≡ 1 = (any_rank s ts (is_some own) state.live 0 tx.inputs reasons.Tx h).0 in absurd (omega (arith, e))
  spent_holds (reasons.Input k) h =
      let r = input_to s ts (is_some own) state.live 0 k tx.inputs h in
      let e = r.1 in
      let f : r.0 ≡ k = omega (arith, e) in
      subst (IsInputBad s ts state.live tx.inputs) f r.2
  spent_holds (reasons.Foreign k) h =
      let r = foreign_to s ts (is_some own) state.live 0 k tx.inputs h in
      let e = r.1.1 in
      let f : r.1.0 ≡ k = omega (arith, e) in
      (no_own (own_transaction ts tx) r.0, subst (IsInputForeign s ts tx.inputs) f r.1.2)
    where
      no_own : (o : Option Transaction) → is_some o ≡ false → o ≡ None
      no_own None e = refl
      no_own (Some t) e = cc
  spent_holds reasons.Lock h = let e : 2 ≡ 1 = (any_rank s ts (is_some own) state.live 0 tx.inputs reasons.Lock h).0 in absurd (omega (arith, e))
  spent_holds (reasons.Witness k) h = let e : 3 ≡ 1 = (any_rank s ts (is_some own) state.live 0 tx.inputs (reasons.Witness k) h).0 in absurd (omega (arith, e))
  spent_holds reasons.Branch h = let e : 4 ≡ 1 = (any_rank s ts (is_some own) state.live 0 tx.inputs reasons.Branch h).0 in absurd (omega (arith, e))

  input_spent : (k : ℕ) → IsInputBad s ts state.live tx.inputs k → Spent (reasons.Input k)
  input_spent k h =
      let z : 0 + k ≡ k = omega arith in
      subst (λ (m : ℕ). Spent (reasons.Input m)) z (input_from s ts (is_some own) state.live 0 k tx.inputs h)

  foreign_spent : (k : ℕ) → own_transaction ts tx ≡ None → IsInputForeign s ts tx.inputs k → Spent (reasons.Foreign k)
  foreign_spent k e h =
      let z : 0 + k ≡ k = omega arith in
      subst (λ (m : ℕ). Spent (reasons.Foreign m)) z (foreign_from s ts (is_some own) (ap is_some e) state.live 0 k tx.inputs h)

  -- ---- the deal's own

  module _ (t : Transaction) (is : own_transaction ts tx ≡ Some t) where
    same_own : (u : Transaction) → own_transaction ts tx ≡ Some u → u ≡ t
    same_own u e = some_same (sym e ∙ is)

    shut_of_own : (k : ℕ) (u : Transaction) → own_transaction ts tx ≡ Some u → IsWitnessBad hash u.inputs tx.inputs k
        → AnyShut hash 0 t.inputs tx.inputs (reasons.Witness k)
    shut_of_own k u e h =
        let z : 0 + k ≡ k = omega arith in
        subst (λ (m : ℕ). AnyShut hash 0 t.inputs tx.inputs (reasons.Witness m)) z
        (shut_from hash 0 k t.inputs tx.inputs (subst (λ (y : Transaction). IsWitnessBad hash y.inputs tx.inputs k) (same_own u e) h))

    shut_holds : (r : ChainReason) → AnyShut hash 0 t.inputs tx.inputs r → Holds r
    shut_holds reasons.Form h = let e : 0 ≡ 3 = (shut_rank hash 0 t.inputs tx.inputs reasons.Form h).0 in absurd (omega (arith, e))
    shut_holds reasons.Height h = let e : 0 ≡ 3 = (shut_rank hash 0 t.inputs tx.inputs reasons.Height h).0 in absurd (omega (arith, e))
    shut_holds reasons.Tx h = let e : 0 ≡ 3 = (shut_rank hash 0 t.inputs tx.inputs reasons.Tx h).0 in absurd (omega (arith, e))
    shut_holds (reasons.Input k) h = let e : 1 ≡ 3 = (shut_rank hash 0 t.inputs tx.inputs (reasons.Input k) h).0 in absurd (omega (arith, e))
    shut_holds (reasons.Foreign k) h = let e : 1 ≡ 3 = (shut_rank hash 0 t.inputs tx.inputs (reasons.Foreign k) h).0 in absurd (omega (arith, e))
    shut_holds reasons.Lock h = let e : 2 ≡ 3 = (shut_rank hash 0 t.inputs tx.inputs reasons.Lock h).0 in absurd (omega (arith, e))
    shut_holds (reasons.Witness k) h =
        let r = shut_to hash 0 k t.inputs tx.inputs h in
        let e = r.1 in
        let f : r.0 ≡ k = omega (arith, e) in
        (t, is, subst (IsWitnessBad hash t.inputs tx.inputs) f r.2)
    shut_holds reasons.Branch h = let e : 4 ≡ 3 = (shut_rank hash 0 t.inputs tx.inputs reasons.Branch h).0 in absurd (omega (arith, e))

    late_of : lock_reason height tx ≡ None → height ≤ tx.lock → ⊥
    late_of e h = by_test (nat_lt tx.lock height) refl e
      where
        by_test : (b : Bool) → nat_lt tx.lock height ≡ b → cond b None (Some reasons.Lock) ≡ None → ⊥
        by_test true f g = absurd (omega (arith, h, low f))
          where
            low : nat_lt tx.lock height ≡ true → tx.lock < height
            low z = grind (arith, nat_tests, z)
        by_test false f g = none_some (sym g)

    lock_some : (r : ChainReason) → lock_reason height tx ≡ Some r → (r ≡ reasons.Lock) × (height ≤ tx.lock)
    lock_some r e = by_test (nat_lt tx.lock height) refl e
      where
        by_test : (b : Bool) → nat_lt tx.lock height ≡ b → cond b None (Some reasons.Lock) ≡ Some r → (r ≡ reasons.Lock) × (height ≤ tx.lock)
        by_test true f g = absurd (none_some g)
        by_test false f g = (sym (some_same g), high f)
          where
            high : nat_lt tx.lock height ≡ false → height ≤ tx.lock
            high z = grind (arith, nat_tests, z)

    abbrev by_named : Option Transaction → Option ChainReason
    by_named None = Some reasons.Branch
    by_named (Some u) = cond (has_bytes (stripped tx) u) None (Some reasons.Branch)

    abbrev NoneNamed : Option Transaction → Type 0
    NoneNamed o = (u : Transaction) → o ≡ Some u → u.bytes ≡ stripped tx → ⊥

    branch_none : (o : Option Transaction) → by_named o ≡ None → NoneNamed o → ⊥
    branch_none None e h = none_some (sym e)
    branch_none (Some u) e h = by_test (has_bytes (stripped tx) u) refl e
      where
        by_test : (b : Bool) → has_bytes (stripped tx) u ≡ b → cond b None (Some reasons.Branch) ≡ None → ⊥
        by_test true f g = h u refl (bytes-true u.bytes (stripped tx) f)
        by_test false f g = none_some (sym g)

    branch_some : (r : ChainReason) (o : Option Transaction) → by_named o ≡ Some r → (r ≡ reasons.Branch) × NoneNamed o
    branch_some r None e = (sym (some_same e), λ u f g. none_some f)
    branch_some r (Some u) e = by_test (has_bytes (stripped tx) u) refl e
      where
        by_test : (b : Bool) → has_bytes (stripped tx) u ≡ b → cond b None (Some reasons.Branch) ≡ Some r → (r ≡ reasons.Branch) × NoneNamed (Some u)
        by_test true f g = absurd (none_some g)
        by_test false f g = (
          sym (some_same g),
          λ w k same.
              both_ways _ f (ap (λ (y : Transaction). bytes_eq y.bytes (stripped tx)) (some_same k)
              ∙ ap (λ (b : List ℕ). bytes_eq b (stripped tx)) same ∙ bytes_refl (stripped tx)),
        )

  -- ---- none and the first

  own_is : (o : Option Transaction) → own_transaction ts tx ≡ o
      → refusal hash s ts state height tx
      ≡ or_else (inputs_reason s ts (is_some (own_transaction ts tx)) state.live 0 tx.inputs) (own_reason hash s ts height tx o)
  own_is o e =
      ap (λ (x : Option Transaction). or_else
      (inputs_reason s ts (is_some (own_transaction ts tx)) state.live 0 tx.inputs) (own_reason hash s ts height tx x)) e

  none_holds : refusal hash s ts state height tx ≡ None → (r : ChainReason) → Holds r → ⊥
  none_holds e r h = by_own (own_transaction ts tx) refl
    where
      by_own : (o : Option Transaction) → own_transaction ts tx ≡ o → ⊥
      by_own None f =
          let p = both_none (inputs_reason s ts (is_some (own_transaction ts tx)) state.live 0 tx.inputs)
          (own_reason hash s ts height tx None) (sym (own_is None f) ∙ e) in
          by_reason r h
        where
          spent : (q : ChainReason) → Spent q → ⊥
          spent q k =
              inputs_none s ts (is_some (own_transaction ts tx)) state.live 0 tx.inputs
              (both_none (inputs_reason s ts (is_some (own_transaction ts tx)) state.live 0 tx.inputs)
              (own_reason hash s ts height tx (own_transaction ts tx)) e).0 q k

          by_reason : (q : ChainReason) → Holds q → ⊥
          by_reason reasons.Form k = k
          by_reason reasons.Height k = k
          by_reason reasons.Tx k = k
          by_reason (reasons.Input n) k = spent (reasons.Input n) (input_spent n k)
          by_reason (reasons.Foreign n) k = spent (reasons.Foreign n) (foreign_spent n k.0 k.1)
          by_reason reasons.Lock k = none_some (sym f ∙ k.1)
          by_reason (reasons.Witness n) k = none_some (sym f ∙ k.1)
          by_reason reasons.Branch k = none_some (sym f ∙ k.1)
      by_own (Some t) f = by_reason r h
        where
          first : (inputs_reason s ts (is_some (own_transaction ts tx)) state.live 0 tx.inputs ≡ None) × (own_reason hash s ts height tx (Some t) ≡ None)
          first =
              both_none (inputs_reason s ts (is_some (own_transaction ts tx)) state.live 0 tx.inputs)
              (own_reason hash s ts height tx (Some t)) (sym (own_is (Some t) f) ∙ e)

          second : (lock_reason height tx ≡ None)
              × (or_else (witnesses_reason hash 0 t.inputs tx.inputs) (branch_reason ts tx (which_shown s tx t.which)) ≡ None)
          second =
              both_none (lock_reason height tx)
              (or_else (witnesses_reason hash 0 t.inputs tx.inputs) (branch_reason ts tx (which_shown s tx t.which))) first.1

          third : (witnesses_reason hash 0 t.inputs tx.inputs ≡ None) × (branch_reason ts tx (which_shown s tx t.which) ≡ None)
          third = both_none (witnesses_reason hash 0 t.inputs tx.inputs) (branch_reason ts tx (which_shown s tx t.which)) second.1

          spent : (q : ChainReason) → Spent q → ⊥
          spent q k = inputs_none s ts (is_some (own_transaction ts tx)) state.live 0 tx.inputs first.0 q k

          by_reason : (q : ChainReason) → Holds q → ⊥
          by_reason reasons.Form k = k
          by_reason reasons.Height k = k
          by_reason reasons.Tx k = k
          by_reason (reasons.Input n) k = spent (reasons.Input n) (input_spent n k)
          by_reason (reasons.Foreign n) k = spent (reasons.Foreign n) (foreign_spent n k.0 k.1)
          by_reason reasons.Lock k = late_of t f second.0 k.2
          by_reason (reasons.Witness n) k = witnesses_none hash 0 t.inputs tx.inputs third.0 (reasons.Witness n) (shut_of_own t f n k.0 k.1 k.2)
          by_reason reasons.Branch k =
              branch_none t f (transaction_named ts (which_shown s tx t.which)) third.1
              (subst (λ (y : Transaction). (u : Transaction) → transaction_named ts (which_shown s tx y.which) ≡ Some u → u.bytes ≡ stripped tx → ⊥)
              (same_own t f k.0 k.1) k.2)

  -- of the reasons that hold before a phase, those of what is spent
  some_holds : (r : ChainReason) → refusal hash s ts state height tx ≡ Some r → IsFirstReason hash s ts state height tx r
  some_holds r e = by_inputs (inputs_reason s ts (is_some (own_transaction ts tx)) state.live 0 tx.inputs) refl e
    where
      by_inputs : (o : Option ChainReason) → inputs_reason s ts (is_some (own_transaction ts tx)) state.live 0 tx.inputs ≡ o
          → or_else o (own_reason hash s ts height tx (own_transaction ts tx)) ≡ Some r → IsFirstReason hash s ts state height tx r
      by_inputs (Some q) f g =
          record { holds = spent_holds r bad.bad; first = λ other k before. by_other other k before }
        where
          bad : FirstBad s ts (is_some (own_transaction ts tx)) state.live 0 tx.inputs r
          bad = inputs_some s ts (is_some (own_transaction ts tx)) state.live 0 tx.inputs r (f ∙ g)

          one : phase r ≡ 1
          one = (any_rank s ts (is_some (own_transaction ts tx)) state.live 0 tx.inputs r bad.bad).0

          by_other : (other : ChainReason) → Holds other → IsBefore other r → ⊥
          by_other reasons.Form k before = k
          by_other reasons.Height k before = k
          by_other reasons.Tx k before = k
          by_other (reasons.Input n) k before = bad.first (reasons.Input n) (input_spent n k) before
          by_other (reasons.Foreign n) k before = bad.first (reasons.Foreign n) (foreign_spent n k.0 k.1) before
          by_other reasons.Lock k before = later_phase reasons.Lock r before (let p = one in omega (arith, p))
          by_other (reasons.Witness n) k before = later_phase (reasons.Witness n) r before (let p = one in omega (arith, p))
          by_other reasons.Branch k before = later_phase reasons.Branch r before (let p = one in omega (arith, p))
      by_inputs None f g = by_own (own_transaction ts tx) refl g
        where
          spent : (q : ChainReason) → Spent q → ⊥
          spent q k = inputs_none s ts (is_some (own_transaction ts tx)) state.live 0 tx.inputs f q k

          by_own : (o : Option Transaction) → own_transaction ts tx ≡ o → own_reason hash s ts height tx o ≡ Some r → IsFirstReason hash s ts state height tx r
          by_own None k l = absurd (none_some l)
          by_own (Some t) k l = by_lock (lock_reason height tx) refl l
            where
              by_lock : (o : Option ChainReason) → lock_reason height tx ≡ o
                  → or_else o (or_else (witnesses_reason hash 0 t.inputs tx.inputs) (branch_reason ts tx (which_shown s tx t.which))) ≡ Some r
                  → IsFirstReason hash s ts state height tx r
              by_lock (Some q) m n =
                  record { holds = subst Holds (sym late.0) (t, k, late.1); first = λ other h before. by_other other h before }
                where
                  late : (r ≡ reasons.Lock) × (height ≤ tx.lock)
                  late = lock_some t k r (m ∙ n)

                  two : phase r ≡ 2
                  two = ap phase late.0

                  same : (other : ChainReason) → other ≡ reasons.Lock → IsBefore other r → ⊥
                  same other h before =
                      let a : phase other ≡ phase r = ap phase (h ∙ sym late.0) in
                      let b : number other ≡ number r = ap number (h ∙ sym late.0) in
                      let c : side other ≡ side r = ap side (h ∙ sym late.0) in
                      not_before other r before a (omega (arith, b)) (λ z. omega (arith, c))

                  by_other : (other : ChainReason) → Holds other → IsBefore other r → ⊥
                  by_other reasons.Form h before = h
                  by_other reasons.Height h before = h
                  by_other reasons.Tx h before = h
                  by_other (reasons.Input j) h before = spent (reasons.Input j) (input_spent j h)
                  by_other (reasons.Foreign j) h before = spent (reasons.Foreign j) (foreign_spent j h.0 h.1)
                  by_other reasons.Lock h before = same reasons.Lock refl before
                  by_other (reasons.Witness j) h before = later_phase (reasons.Witness j) r before (let p = two in omega (arith, p))
                  by_other reasons.Branch h before = later_phase reasons.Branch r before (let p = two in omega (arith, p))
              by_lock None m n = by_witness (witnesses_reason hash 0 t.inputs tx.inputs) refl n
                where
                  by_witness : (o : Option ChainReason) → witnesses_reason hash 0 t.inputs tx.inputs ≡ o
                      → or_else o (branch_reason ts tx (which_shown s tx t.which)) ≡ Some r → IsFirstReason hash s ts state height tx r
                  by_witness (Some q) u w =
                      record { holds = shut_holds t k r shut.bad; first = λ other h before. by_other other h before }
                    where
                      shut : FirstShut hash 0 t.inputs tx.inputs r
                      shut = witnesses_some hash 0 t.inputs tx.inputs r (u ∙ w)

                      three : phase r ≡ 3
                      three = (shut_rank hash 0 t.inputs tx.inputs r shut.bad).0

                      by_other : (other : ChainReason) → Holds other → IsBefore other r → ⊥
                      by_other reasons.Form h before = h
                      by_other reasons.Height h before = h
                      by_other reasons.Tx h before = h
                      by_other (reasons.Input j) h before = spent (reasons.Input j) (input_spent j h)
                      by_other (reasons.Foreign j) h before = spent (reasons.Foreign j) (foreign_spent j h.0 h.1)
                      by_other reasons.Lock h before = late_of t k m h.2
                      by_other (reasons.Witness j) h before = shut.first (reasons.Witness j) (shut_of_own t k j h.0 h.1 h.2) before
                      by_other reasons.Branch h before = later_phase reasons.Branch r before (let p = three in omega (arith, p))
                  by_witness None u w =
                      record { holds = subst Holds (sym wrong.0) (t, k, wrong.1); first = λ other h before. by_other other h before }
                    where
                      wrong : (r ≡ reasons.Branch)
                          × ((v : Transaction) → transaction_named ts (which_shown s tx t.which) ≡ Some v → v.bytes ≡ stripped tx → ⊥)
                      wrong = branch_some t k r (transaction_named ts (which_shown s tx t.which)) w

                      same : (other : ChainReason) → other ≡ reasons.Branch → IsBefore other r → ⊥
                      same other h before =
                          let a : phase other ≡ phase r = ap phase (h ∙ sym wrong.0) in
                          let b : number other ≡ number r = ap number (h ∙ sym wrong.0) in
                          let c : side other ≡ side r = ap side (h ∙ sym wrong.0) in
                          not_before other r before a (omega (arith, b)) (λ z. omega (arith, c))

                      by_other : (other : ChainReason) → Holds other → IsBefore other r → ⊥
                      by_other reasons.Form h before = h
                      by_other reasons.Height h before = h
                      by_other reasons.Tx h before = h
                      by_other (reasons.Input j) h before = spent (reasons.Input j) (input_spent j h)
                      by_other (reasons.Foreign j) h before = spent (reasons.Foreign j) (foreign_spent j h.0 h.1)
                      by_other reasons.Lock h before = late_of t k m h.2
                      by_other (reasons.Witness j) h before =
                          witnesses_none hash 0 t.inputs tx.inputs u (reasons.Witness j) (shut_of_own t k j h.0 h.1 h.2)
                      by_other reasons.Branch h before = same reasons.Branch refl before

  -- ---- the first is one

  ranked : (r : ChainReason) → Holds r → of_rank (phase r) (number r) (side r) ≡ r
  ranked reasons.Form h = absurd h
  ranked reasons.Height h = absurd h
  ranked reasons.Tx h = absurd h
  ranked (reasons.Input k) h = refl
  ranked (reasons.Foreign k) h = refl
  ranked reasons.Lock h = refl
  ranked (reasons.Witness k) h = refl
  ranked reasons.Branch h = refl

  one_first : (a b : ChainReason) → IsFirstReason hash s ts state height tx a → IsFirstReason hash s ts state height tx b → a ≡ b
  one_first a b f g = by_phase (compare (phase a) (phase b))
    where
      by_side : phase a ≡ phase b → number a ≡ number b → (side a < side b) ⊎ ((side b < side a) ⊎ (side a ≡ side b)) → a ≡ b
      by_side p n (inl l) = absurd (g.first a f.holds (inr (inr (p, n, l))))
      by_side p n (inr (inl l)) = absurd (f.first b g.holds (inr (inr (sym p, sym n, l))))
      by_side p n (inr (inr e)) = sym (ranked a f.holds) ∙ (λ i. of_rank (p i) (n i) (e i)) ∙ ranked b g.holds

      by_number : phase a ≡ phase b → (number a < number b) ⊎ ((number b < number a) ⊎ (number a ≡ number b)) → a ≡ b
      by_number p (inl l) = absurd (g.first a f.holds (inr (inl (p, l))))
      by_number p (inr (inl l)) = absurd (f.first b g.holds (inr (inl (sym p, l))))
      by_number p (inr (inr e)) = by_side p e (compare (side a) (side b))

      by_phase : (phase a < phase b) ⊎ ((phase b < phase a) ⊎ (phase a ≡ phase b)) → a ≡ b
      by_phase (inl l) = absurd (g.first a f.holds (inl l))
      by_phase (inr (inl l)) = absurd (f.first b g.holds (inl l))
      by_phase (inr (inr e)) = by_number e (compare (number a) (number b))

pub bad_exactly : BadExactly
bad_exactly hash s ts state height tx =
    (λ reason. (some_holds hash s ts state height tx reason, from reason), (none_holds hash s ts state height tx, none))
  where
    from : (reason : ChainReason) → IsFirstReason hash s ts state height tx reason → refusal hash s ts state height tx ≡ Some reason
    from reason f = by_refusal (refusal hash s ts state height tx) refl
      where
        by_refusal : (o : Option ChainReason) → refusal hash s ts state height tx ≡ o → refusal hash s ts state height tx ≡ Some reason
        by_refusal None e = absurd (none_holds hash s ts state height tx e reason f.holds)
        by_refusal (Some r) e = e ∙ ap Some (one_first hash s ts state height tx r reason (some_holds hash s ts state height tx r e) f)

    none : ((reason : ChainReason) → IsReason hash s ts state height tx reason → ⊥) → refusal hash s ts state height tx ≡ None
    none f = by_refusal (refusal hash s ts state height tx) refl
      where
        by_refusal : (o : Option ChainReason) → refusal hash s ts state height tx ≡ o → refusal hash s ts state height tx ≡ None
        by_refusal None e = e
        by_refusal (Some r) e = absurd (f r (some_holds hash s ts state height tx r e).holds)
