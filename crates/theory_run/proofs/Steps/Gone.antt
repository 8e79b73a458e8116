-- What contract steps take of the deposits, and that money agrees after them.
use Rattle.std.proofs.Common.{◌≡◌, ℕ, zero, suc, ◌+◌, ◌<◌, List, [], ◌∷◌, ◌++◌, length, Bool, true, false, not, Option, Some, None, refl, sym, ap, ◌∙◌, subst, arith, length-append}
use Rattle.std.specs.Prelude.{if◌then◌else◌, ◌==◌, slice_get}
use Rattle.std.specs.List.{filter, find, list_all, fold, cons_option}
use Rattle.std.specs.Option.{is_none}
use Rattle.std.proofs.lemmas.Bool.{and_parts, eqb-true, eq-eqb, ne_eqb, not-true}
use Rattle.std.proofs.lemmas.Bool.Decides.{nat_tests}
use Rattle.spec_data.specs.Lists.{has_number, are_distinct}
use Rattle.spec_bitcoin.specs.declared.tx.TxOut.{TxOut}
use Rattle.spec_calculus.specs.declared.step.Owner.{Owner}
use Rattle.spec_calculus.specs.declared.parts.Deposit.{Deposit}
use Rattle.spec_calculus.specs.Configuration.{Configuration}
use Rattle.spec_calculus.specs.Moves.{kept}
use Rattle.spec_calculus.specs.Branches.{gone, total_value}
use Rattle.spec_run.specs.Setup.{Setup}
use Rattle.spec_run.specs.World.{ContractPosition, Output, World, is_deposit}
use Rattle.spec_run.specs.Owners.{owner_by, deposit_value}
use Rattle.spec_run.specs.Ledger.{spend_from, made_from}
use Rattle.spec_run.specs.Agreement.{deposits_from, actives_from}
use Rattle.theory_world.proofs.Ledger.Outputs.{actives-append, actives-spent, deposits-append, deposits-spent, length-spend_from, length-made_from}
use Rattle.theory_run.specs.Tracks.{AgreeOnMoney}

-- ---- values of deposits

abbrev pub worth : List Deposit → ℕ
worth [] = 0
worth (d ∷ ds) = d.value + worth ds

fold_worth : (a : ℕ) (ds : List Deposit) → fold (λ x (d : Deposit). x + d.value) a ds ≡ a + worth ds
fold_worth a [] = omega arith
fold_worth a (d ∷ ds) = let e = fold_worth (a + d.value) ds in e ∙ omega arith

pub total-worth : (ds : List Deposit) → total_value ds ≡ worth ds
total-worth ds = fold_worth 0 ds ∙ omega arith

gone_none : (ds : List Deposit) → worth (gone ds []) ≡ 0
gone_none [] = refl
gone_none (d ∷ ds) = gone_none ds

gone_split : (n : ℕ) (ns : List ℕ) (ds : List Deposit) → has_number n ns ≡ false → worth (gone ds (n ∷ ns)) ≡ worth (gone ds (n ∷ [])) + worth (gone ds ns)
gone_split n ns [] h = refl
gone_split n ns (d ∷ ds) h = by_tests (n == d.number) (has_number d.number ns) refl refl (gone_split n ns ds h)
  where
    by_tests : (a b : Bool) → (n == d.number) ≡ a → has_number d.number ns ≡ b → worth (gone ds (n ∷ ns))
        ≡ worth (gone ds (n ∷ [])) + worth (gone ds ns) → worth (gone (d ∷ ds) (n ∷ ns)) ≡ worth (gone (d ∷ ds) (n ∷ [])) + worth (gone (d ∷ ds) ns)
    by_tests true true ea eb ih = let q = eqb-true n d.number ea in let f : has_number d.number ns ≡ false = subst (λ m. has_number m ns ≡ false) q h in cc
    by_tests true false ea eb ih = rw (ea, eb) (omega (arith, ih))
    by_tests false true ea eb ih = rw (ea, eb) (omega (arith, ih))
    by_tests false false ea eb ih = rw (ea, eb) ih

-- ---- the deposits of outputs

module _ (s : Setup) where
  one_seen : (n k : ℕ) (b : Bool) (owner : Owner) (value : ℕ) (rest : List Deposit) → n ≡ k → worth (gone rest (n ∷ [])) ≡ 0
      → worth (gone (cons_option (if b then Some record { number = k; owner = owner; value = value } else None) rest) (n ∷ [])) ≡ (if b then value else 0)
  one_seen n k true owner value rest e h = let t : (n == k) ≡ true = eq-eqb n k e in rw t (omega (arith, h))
  one_seen n k false owner value rest e h = h

  other_seen : (n k : ℕ) (b : Bool) (owner : Owner) (value : ℕ) (rest : List Deposit) → (n == k) ≡ false
      → worth (gone (cons_option (if b then Some record { number = k; owner = owner; value = value } else None) rest) (n ∷ [])) ≡ worth (gone rest (n ∷ []))
  other_seen n k true owner value rest e = rw e refl
  other_seen n k false owner value rest e = refl

  gone_below : (k n : ℕ) (os : List Output) → n < k → worth (gone (deposits_from s k os) (n ∷ [])) ≡ 0
  gone_below k n [] h = refl
  gone_below k n (o ∷ os) h =
      other_seen n k (is_deposit (Some o)) (owner_by s o.script) o.value (deposits_from s (k + 1) os) (ne_eqb n k (λ q. omega (arith, h, q)))
      ∙ gone_below (k + 1) n os (omega (arith, h))

  gone_one : (k n : ℕ) (os : List Output) → worth (gone (deposits_from s k os) ((n + k) ∷ [])) ≡ deposit_value (slice_get os n)
  gone_one k n [] = refl
  gone_one k zero (o ∷ os) =
      one_seen (0 + k) k (is_deposit (Some o)) (owner_by s o.script) o.value (deposits_from s (k + 1) os) (omega arith)
      (gone_below (k + 1) (0 + k) os (omega arith))
  gone_one k (suc n) (o ∷ os) =
      let z : n + (k + 1) ≡ suc n + k = omega arith in
      let ih = rw z at (gone_one (k + 1) n os) in
      other_seen (suc n + k) k (is_deposit (Some o)) (owner_by s o.script) o.value (deposits_from s (k + 1) os)
      (ne_eqb (suc n + k) k (λ q. omega (arith, q))) ∙ ih

  -- the values of the deposits of these numbers, one by one
  abbrev pub taken_values : List Output → List ℕ → ℕ
  taken_values os [] = 0
  taken_values os (n ∷ ns) = deposit_value (slice_get os n) + taken_values os ns

  pub gone_values : (os : List Output) (ns : List ℕ) → are_distinct ns ≡ true → total_value (gone (deposits_from s 0 os) ns) ≡ taken_values os ns
  gone_values os ns h = total-worth (gone (deposits_from s 0 os) ns) ∙ each ns h
    where
      each : (ns : List ℕ) → are_distinct ns ≡ true → worth (gone (deposits_from s 0 os) ns) ≡ taken_values os ns
      each [] h = gone_none (deposits_from s 0 os)
      each (n ∷ ns) h =
          let p = and_parts (not (has_number n ns)) (are_distinct ns) h in
          let z : n + 0 ≡ n = omega arith in
          let one : worth (gone (deposits_from s 0 os) (n ∷ [])) ≡ deposit_value (slice_get os n) = rw z at (gone_one 0 n os) in
          let a = gone_split n ns (deposits_from s 0 os) (not-true _ p.0) in
          let ih = each ns p.1 in
          a ∙ (λ i. one i + ih i)

-- ---- numbers that nothing has

module _ {X : Type 0} (name : X → ℕ) where
  abbrev absent : List X → ℕ → Bool
  absent xs n = is_none (find (λ x. name x == n) xs)

  absent_later : (x : X) (xs : List X) (n : ℕ) → absent (x ∷ xs) n ≡ true → ((name x == n) ≡ false) × (absent xs n ≡ true)
  absent_later x xs n h = by_test (name x == n) refl h
    where
      by_test : (b : Bool) → (name x == n) ≡ b → is_none (if b then Some x else find (λ y. name y == n) xs) ≡ true → ((name x == n) ≡ false)
          × (absent xs n ≡ true)
      by_test true e q = cc
      by_test false e q = (e, q)

  pub without_absent : (xs : List X) (n : ℕ) (ns : List ℕ) → is_none (find (λ x. name x == n) xs) ≡ true
      → filter (λ x. not (has_number (name x) (n ∷ ns))) xs ≡ filter (λ x. not (has_number (name x) ns)) xs
  without_absent [] n ns h = refl
  without_absent (x ∷ xs) n ns h =
      let p = absent_later x xs n h in
      let ih = without_absent xs n ns p.1 in
      let a = p.0 in
      let e : (n == name x) ≡ false = ne_eqb n (name x) (λ q. let t = eq-eqb (name x) n (sym q) in cc) in
      by_test (has_number (name x) ns) e ih
    where
      by_test : (b : Bool) → (n == name x) ≡ false → filter (λ y. not (has_number (name y) (n ∷ ns))) xs
          ≡ filter (λ y. not (has_number (name y) ns)) xs → filter (λ y. not (has_number (name y) (n ∷ ns))) (x ∷ xs)
          ≡ filter (λ y. not (has_number (name y) ns)) (x ∷ xs)
      by_test b e ih = grind (arith, e, ih)

  -- where nothing has the later numbers, only the first counts
  pub only_first : (xs : List X) (n : ℕ) (ns : List ℕ) → list_all (λ m. is_none (find (λ x. name x == m) xs)) ns ≡ true
      → filter (λ x. not (has_number (name x) (n ∷ ns))) xs ≡ filter (λ x. not (name x == n)) xs
  only_first xs n [] h = alone xs
    where
      alone : (ys : List X) → filter (λ x. not (has_number (name x) (n ∷ []))) ys ≡ filter (λ x. not (name x == n)) ys
      alone [] = refl
      alone (y ∷ ys) = grind (arith, nat_tests, alone ys)
  only_first xs n (m ∷ ns) h =
      let p = and_parts (is_none (find (λ x. name x == m) xs)) (list_all (λ j. is_none (find (λ x. name x == j) xs)) ns) h in
      swap xs ∙ without_absent xs m (n ∷ ns) p.0 ∙ only_first xs n ns p.1
    where
      swap : (ys : List X) → filter (λ x. not (has_number (name x) (n ∷ m ∷ ns))) ys ≡ filter (λ x. not (has_number (name x) (m ∷ n ∷ ns))) ys
      swap [] = refl
      swap (y ∷ ys) = grind (arith, swap ys)

-- ---- money after a transaction

-- the configuration has lost what is spent, and has what is seen of the new outputs
pub agree_by : (s : Setup) (g : Configuration) (w : World) → AgreeOnMoney s g w
    → (spent : List ℕ) (held : ℕ → Option ContractPosition) (id : List ℕ) (outs : List TxOut) (c : Configuration) (next : World)
    → next.tip ≡ w.tip → next.outputs ≡ spend_from 0 spent w.outputs ++ made_from held id 0 outs
    → c.time ≡ g.time → c.next ≡ g.next + length outs → c.move_authorised ≡ g.move_authorised
    → c.deposits ≡ kept g.deposits spent ++ deposits_from s g.next (made_from held id 0 outs)
    → c.active ≡ filter (λ x. not (has_number x.number spent)) g.active ++ actives_from g.next (made_from held id 0 outs)
    → AgreeOnMoney s c next
agree_by s g w agree spent held id outs c next tips os time names moves deposits active =
    let spend = spend_from 0 spent w.outputs in
    let new = made_from held id 0 outs in
    let at : 0 + length spend ≡ g.next = omega (arith, agree.next, length-spend_from 0 spent w.outputs) in
    record {
      time = time ∙ agree.time ∙ sym tips;
      next =
          let e = ap length os ∙ length-append spend new in
          let f = length-spend_from 0 spent w.outputs in
          let g' = length-made_from held id 0 outs in
          omega (arith, agree.next, names, e, f, g');
      deposits =
          deposits ∙ (λ i. kept (agree.deposits i) spent ++ deposits_from s (sym at i) new)
          ∙ sym (ap (deposits_from s 0) os ∙ deposits-append s 0 spend new
          ∙ ap (λ ds. ds ++ deposits_from s (0 + length spend) new) (deposits-spent s 0 spent w.outputs));
      active =
          active ∙ (λ i. filter (λ x. not (has_number x.number spent)) (agree.active i) ++ actives_from (sym at i) new)
          ∙ sym (ap (actives_from 0) os ∙ actives-append 0 spend new ∙ ap (λ ds. ds ++ actives_from (0 + length spend) new) (actives-spent 0 spent w.outputs));
      moves = moves ∙ agree.moves;
    }
