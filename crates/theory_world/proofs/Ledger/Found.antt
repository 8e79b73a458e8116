-- The live outputs that a transaction spends, by the places that it names.
use Rattle.std.proofs.Common.{◌≡◌, ℕ, suc, ◌+◌, List, [], ◌∷◌, map, Bool, true, false, not, Option, Some, None, refl, sym, ap, ◌∙◌, subst, arith, cond}
use Rattle.std.specs.Prelude.{◌==◌, ◌&&◌, slice_get, is_some, if◌then◌else◌}
use Rattle.std.specs.List.{list_any, list_all, position_from}
use Rattle.std.specs.Option.{option_map_or}
use Rattle.std.proofs.lemmas.List.Sums.{sum_by-cons}
use Rattle.std.proofs.lemmas.Bool.{and_parts, and_from, or_parts, or_from, ne_eqb, both_ways, not_from_false}
use Rattle.spec_data.specs.Lists.{has_number, are_distinct}
use Rattle.spec_bitcoin.specs.declared.tx.OutPoint.{OutPoint}
use Rattle.spec_bitcoin.specs.declared.tx.TxIn.{TxIn}
use Rattle.spec_bitcoin.specs.declared.tx.TxOut.{TxOut}
use Rattle.spec_bitcoin.specs.Live.{Entry, same_outpoint, at_place}
use Rattle.spec_bitcoin.specs.Verdict.{has_repeat, spent_number, spent_value, spent_total}
use Rattle.spec_run.specs.World.{Output}
use Rattle.spec_run.specs.Ledger.{live_from, tx_out}
use Rattle.theory_world.proofs.Same.{place-true, place_refl}

-- the output of this number lies at the place, is live, and is this one
pub record IsFound (os : List Output) (place : OutPoint) (k : ℕ) (q : ℕ × TxOut) : Type 0 where
  pub number : ℕ
  pub output : Output
  pub counted : q.0 ≡ number + k
  pub there : slice_get os number ≡ Some output
  pub live : output.live ≡ true
  pub here : same_outpoint place output.outpoint ≡ true
  pub same : q.1 ≡ tx_out output

-- one further output before them
found-later : (o : Output) (os : List Output) (place : OutPoint) (k : ℕ) (q : ℕ × TxOut) → IsFound os place (k + 1) q → IsFound (o ∷ os) place k q
found-later o os place k q f = record {
  number = suc f.number;
  output = f.output;
  counted = let c = f.counted in omega arith;
  there = f.there;
  live = f.live;
  here = f.here;
  same = f.same;
}

pub found : (os : List Output) (place : OutPoint) (k : ℕ) (q : ℕ × TxOut) → at_place (live_from k os) place ≡ Some q → IsFound os place k q
found [] place k q h = cc
found (o ∷ os) place k q h = by_live o.live refl h (found os place (k + 1) q)
  where
    by_place : (b : Bool) → same_outpoint place o.outpoint ≡ b → o.live ≡ true → cond b (Some (k, tx_out o)) (at_place (live_from (k + 1) os) place) ≡ Some q
        → (at_place (live_from (k + 1) os) place ≡ Some q → IsFound os place (k + 1) q) → IsFound (o ∷ os) place k q
    by_place true e l x ih =
        let z : (k, tx_out o) ≡ q = cc in
        record {
          number = 0;
          output = o;
          counted = let y = ap (λ (p : ℕ × TxOut). p.0) (sym z) in omega (arith, y);
          there = refl;
          live = l;
          here = e;
          same = ap (λ (p : ℕ × TxOut). p.1) (sym z);
        }
    by_place false e l x ih = found-later o os place k q (ih x)

    by_live : (b : Bool) → o.live ≡ b → at_place (if b then (o.outpoint, (k, tx_out o)) ∷ live_from (k + 1) os else live_from (k + 1) os) place ≡ Some q
        → (at_place (live_from (k + 1) os) place ≡ Some q → IsFound os place (k + 1) q) → IsFound (o ∷ os) place k q
    by_live true l x ih = by_place (same_outpoint place o.outpoint) refl l x ih
    by_live false l x ih = found-later o os place k q (ih x)

-- ---- the numbers that the inputs stand for

-- whether it is a live output at the place
abbrev pub stands : Option Output → OutPoint → Bool
stands None place = false
stands (Some o) place = o.live && same_outpoint place o.outpoint

abbrev pub value_or_zero : Option Output → ℕ
value_or_zero None = 0
value_or_zero (Some o) = o.value

-- the numbers stand for the inputs' places, one by one
abbrev pub StandFor : List Output → List ℕ → List TxIn → Type 0
StandFor os [] [] = Unit {0}
StandFor os (n ∷ ns) (i ∷ is) = (stands (slice_get os n) i.prev ≡ true) × StandFor os ns is
StandFor os [] (i ∷ is) = ⊥
StandFor os (n ∷ ns) [] = ⊥

-- what is found is live, and has its value
one_found : (os : List Output) (place : OutPoint) (q : ℕ × TxOut) → IsFound os place 0 q → (stands (slice_get os q.0) place ≡ true)
    × (q.1.value ≡ value_or_zero (slice_get os q.0))
one_found os place q f =
    let e : q.0 ≡ f.number = let c = f.counted in omega arith in
    let there : slice_get os q.0 ≡ Some f.output = ap (slice_get os) e ∙ f.there in (
      ap (λ o. stands o place) there ∙ and_from f.output.live (same_outpoint place f.output.outpoint) f.live f.here,
      ap (λ (x : TxOut). x.value) f.same ∙ sym (ap value_or_zero there),
    )

module _ (os : List Output) where
  abbrev live : List Entry
  live = live_from 0 os

  input_stands : (i : TxIn) → is_some (at_place live i.prev) ≡ true → (stands (slice_get os (spent_number live i)) i.prev ≡ true)
      × (spent_value live i ≡ value_or_zero (slice_get os (spent_number live i)))
  input_stands i h = by_entry (at_place live i.prev) refl h
    where
      by_entry : (r : Option (ℕ × TxOut)) → at_place live i.prev ≡ r → is_some r ≡ true
          → (stands (slice_get os (option_map_or (λ p. p.0) r 0)) i.prev ≡ true)
          × (option_map_or (λ p. p.1.value) r 0 ≡ value_or_zero (slice_get os (option_map_or (λ p. p.0) r 0)))
      by_entry None e x = cc
      by_entry (Some q) e x = one_found os i.prev q (found os i.prev 0 q e)

  -- where no input is missing, each is there
  pub none_missing : (k : ℕ) (is : List TxIn) → position_from (λ i. not (is_some (at_place live i.prev))) k is ≡ None
      → list_all (λ i. is_some (at_place live i.prev)) is ≡ true
  none_missing k [] h = refl
  none_missing k (i ∷ is) h = by_test (is_some (at_place live i.prev)) h (none_missing (k + 1) is)
    where
      by_test : (b : Bool) → cond (not b) (Some k) (position_from (λ j. not (is_some (at_place live j.prev))) (k + 1) is) ≡ None
          → (position_from (λ j. not (is_some (at_place live j.prev))) (k + 1) is ≡ None → list_all (λ j. is_some (at_place live j.prev)) is ≡ true)
          → (b && list_all (λ j. is_some (at_place live j.prev)) is) ≡ true
      by_test true x ih = ih x
      by_test false x ih = cc

  pub stand_for : (is : List TxIn) → list_all (λ i. is_some (at_place live i.prev)) is ≡ true → StandFor os (map (spent_number live) is) is
  stand_for [] h = tt
  stand_for (i ∷ is) h =
      let p = and_parts (is_some (at_place live i.prev)) (list_all (λ j. is_some (at_place live j.prev)) is) h in
      ((input_stands i p.0).0, stand_for is p.1)

  -- the values of the outputs of these numbers
  abbrev pub values_at : List ℕ → ℕ
  values_at [] = 0
  values_at (n ∷ ns) = value_or_zero (slice_get os n) + values_at ns

  pub spent_values : (is : List TxIn) → list_all (λ i. is_some (at_place live i.prev)) is ≡ true → spent_total live is ≡ values_at (map (spent_number live) is)
  spent_values [] h = refl
  spent_values (i ∷ is) h =
      let p = and_parts (is_some (at_place live i.prev)) (list_all (λ j. is_some (at_place live j.prev)) is) h in
      sum_by-cons (spent_value live) i is ∙ (λ j. (input_stands i p.0).1 j + spent_values is p.1 j)

-- ---- different places have different numbers

-- one output lies at one place
one_place : (o : Option Output) (p q : OutPoint) → stands o p ≡ true → stands o q ≡ true → p ≡ q
one_place None p q h k = cc
one_place (Some o) p q h k =
    let a = and_parts o.live (same_outpoint p o.outpoint) h in
    let b = and_parts o.live (same_outpoint q o.outpoint) k in
    place-true p o.outpoint a.1 ∙ sym (place-true q o.outpoint b.1)

stand_for-new : (os : List Output) (n : ℕ) (i : TxIn) (ns : List ℕ) (is : List TxIn) → StandFor os ns is → stands (slice_get os n) i.prev
    ≡ true → list_any (λ j. same_outpoint j.prev i.prev) is ≡ false → has_number n ns ≡ false
stand_for-new os n i [] is h a b = refl
stand_for-new os n i (m ∷ ns) [] h a b = absurd h
stand_for-new os n i (m ∷ ns) (j ∷ is) h a b =
    let c = or_parts (same_outpoint j.prev i.prev) (list_any (λ x. same_outpoint x.prev i.prev) is) b in
    or_from (m == n) (has_number n ns)
    (ne_eqb m n (λ e.
    let k = subst (λ x. stands (slice_get os x) j.prev ≡ true) e h.0 in
    let d = one_place (slice_get os n) j.prev i.prev k a in
    both_ways (same_outpoint j.prev i.prev) c.0 (subst (λ r. same_outpoint j.prev r ≡ true) d (place_refl j.prev))))
    (stand_for-new os n i ns is h.1 a c.1)

pub stand_for-distinct : (os : List Output) (ns : List ℕ) (is : List TxIn) → StandFor os ns is → has_repeat is ≡ false → are_distinct ns ≡ true
stand_for-distinct os [] is h d = refl
stand_for-distinct os (n ∷ ns) [] h d = absurd h
stand_for-distinct os (n ∷ ns) (i ∷ is) h d =
    let c = or_parts (list_any (λ j. same_outpoint j.prev i.prev) is) (has_repeat is) d in
    let e = stand_for-new os n i ns is h.1 h.0 c.0 in
    let f = stand_for-distinct os ns is h.1 c.1 in
    and_from (not (has_number n ns)) (are_distinct ns) (not_from_false (has_number n ns) e) f
