-- The value of a position is its static balance, and a split's parts and the fee make up the value.
use Rattle.std.proofs.Common.{◌≡◌, ℕ, zero, suc, ◌+◌, ◌-◌, ◌<◌, ◌≤◌, List, [], ◌∷◌, ◌++◌, length, Bool, true, false, not, Option, Some, None, refl, sym, ap, ◌∙◌, subst, arith}
use Rattle.std.specs.Prelude.{◌&&◌, ◌||◌, ℤ, pos, ◌+ℤ◌, ◌-ℤ◌, int_lt, slice_get, option_map, option_and_then}
use Rattle.std.specs.Ordering.{int_eq}
use Rattle.std.proofs.lemmas.Int.{ints}
use Rattle.std.proofs.lemmas.Bool.{and_parts, or_from, or_parts}
use Rattle.std.proofs.lemmas.Bool.Decides.{Decides-int_eq}
use Rattle.spec_data.proofs.ListLemmas.{or_else-none}
use Rattle.spec_terms.specs.Advert.{Advert}
use Rattle.spec_terms.specs.Term as term
use Rattle.spec_terms.specs.Term.{Contract, no_branch, branch, branches, auth, after, put_reveal, withdraw, split, Parts, no_part, part, parts_list}
use Rattle.spec_terms.specs.Core.{core}
use Rattle.spec_terms.specs.Precondition.{Holding, volatile, persistent, total_of, value_of_puts}
use Rattle.spec_terms.specs.Balance as terms
use Rattle.spec_terms.specs.Balance.{after_put, root_balance, branches_funded, funded_under, parts_funded, all_funded}
use Rattle.spec_terms.specs.Faults.{IsWellFormed, sum_of_parts, at_core, is_uneven, is_short, first_place, place_if, place_of}
use Rattle.spec_terms.specs.Paths.{Subterm, position, at_branch, contract_under}
use Rattle.spec_terms.specs.Readable.{is_readable_contract, is_some_list, is_readable_split, is_readable_count, are_readable, is_readable_branch, are_readable_parts}
use Rattle.spec_terms.specs.declared.path.PathStep.{PathStep}
use Rattle.spec_terms.specs.declared.path.PathStep.TheVariants.{Branch as To, Part as Into}
use Rattle.spec_compiler.specs.Instance.{Instance, branch_path}
use Rattle.spec_compiler.specs.Transactions.{Standing, branch_unsigned, continued_value, part_standing, root_standing}
use Rattle.spec_compiler.specs.ByPath as by_path
use Rattle.spec_compiler.specs.ByPath.{PathEnd, branch_end, continued_end, part_end, next_end, end_from, end_at, as_position, position_at}
use Rattle.theory_script.proofs.Listing.Subterms as spots
use Rattle.theory_calculus.proofs.Faultless.{no_fault, no_place}

-- ---- no position or branch is at fault

-- a split whose parts don't make up the balance, or too little for the fee
abbrev pub is_bad : ℕ → ℤ → Subterm → Bool
is_bad fee balance subterm = at_core (is_uneven fee balance) subterm || is_short fee balance subterm

abbrev NoneOf : (terms.Funded → Bool) → List terms.Funded → Type 0
NoneOf t [] = Unit {0}
NoneOf t (s ∷ ss) = (t s ≡ false) × NoneOf t ss

none_of : (t : terms.Funded → Bool) (ss : List terms.Funded) → first_place t ss ≡ None → NoneOf t ss
none_of t [] h = tt
none_of t (s ∷ ss) h =
    let p = or_else-none (place_if t s) (first_place t ss) h in
    (no_place (t s) (place_of s.subterm s) p.0, none_of t ss p.1)

none_both : (t u : terms.Funded → Bool) (ss : List terms.Funded) → NoneOf t ss → NoneOf u ss → NoneOf (λ s. t s || u s) ss
none_both t u [] h k = tt
none_both t u (s ∷ ss) h k = (or_from (t s) (u s) h.0 k.0, none_both t u ss h.1 k.1)

none_of-append : (t : terms.Funded → Bool) (xs ys : List terms.Funded) → NoneOf t (xs ++ ys) → NoneOf t xs × NoneOf t ys
none_of-append t [] ys h = (tt, h)
none_of-append t (x ∷ xs) ys h = let p = none_of-append t xs ys h.1 in ((h.0, p.0), p.1)

module _ (ds : List (List ℕ × Holding)) (fee : ℕ) where
  -- none is bad of the branches at a position of this balance, and of all under them
  abbrev mutual
    Each : ℤ → Contract → Type 0
    Each balance no_branch = Unit {0}
    Each balance (branch b bs) = (is_bad fee balance (at_branch b) ≡ false) × Under balance b × Each balance bs

    Under : ℤ → term.Guarded → Type 0
    Under balance (auth party body) = Under balance body
    Under balance (after height body) = Under balance body
    Under balance (put_reveal puts reveals test next) =
        (is_bad fee (after_put ds fee balance puts) (position next) ≡ false) × Each (after_put ds fee balance puts) next
    Under balance (withdraw party) = Unit {0}
    Under balance (split parts) = EachPart parts

    EachPart : Parts → Type 0
    EachPart no_part = Unit {0}
    EachPart (part v c ps) = (is_bad fee (pos v) (position c) ≡ false) × Each (pos v) c × EachPart ps

  abbrev bad : terms.Funded → Bool
  bad s = is_bad fee s.balance s.subterm

  mutual
    each_of : (q : List PathStep) (balance : ℤ) (i : ℕ) (c : Contract) → NoneOf bad (branches_funded ds fee q balance i c) → Each balance c
    each_of q balance i no_branch h = tt
    each_of q balance i (branch b bs) h =
        let p = none_of-append bad (funded_under ds fee (q ++ To i ∷ []) balance b) (branches_funded ds fee q balance (i + 1) bs) h.1 in
        (h.0, each_under (q ++ To i ∷ []) balance b p.0, each_of q balance (i + 1) bs p.1)

    each_under : (p : List PathStep) (balance : ℤ) (b : term.Guarded) → NoneOf bad (funded_under ds fee p balance b) → Under balance b
    each_under p balance (auth party body) h = each_under p balance body h
    each_under p balance (after height body) h = each_under p balance body h
    each_under p balance (put_reveal puts reveals test next) h = (h.0, each_of p (after_put ds fee balance puts) 0 next h.1)
    each_under p balance (withdraw party) h = tt
    each_under p balance (split parts) h = each_of_parts p 0 parts h

    each_of_parts : (p : List PathStep) (k : ℕ) (ps : Parts) → NoneOf bad (parts_funded ds fee p k ps) → EachPart ps
    each_of_parts p k no_part h = tt
    each_of_parts p k (part v c ps) h =
        let q = none_of-append bad (branches_funded ds fee (p ++ Into k ∷ []) (pos v) 0 c) (parts_funded ds fee p (k + 1) ps) h.1 in
        (h.0, each_of (p ++ Into k ∷ []) (pos v) 0 c q.0, each_of_parts p (k + 1) ps q.1)

  under_core : (balance : ℤ) (b : term.Guarded) → Under balance b → Under balance (core b)
  under_core balance (auth party body) h = under_core balance body h
  under_core balance (after height body) h = under_core balance body h
  under_core balance (put_reveal puts reveals test next) h = h
  under_core balance (withdraw party) h = h
  under_core balance (split parts) h = h

  each_at : (balance : ℤ) (c : Contract) (i : ℕ) (b : term.Guarded) → Each balance c → slice_get (branches c) i ≡ Some b
      → (is_bad fee balance (at_branch b) ≡ false) × Under balance b
  each_at balance no_branch i b h e = cc
  each_at balance (branch d c) zero b h e = let z : d ≡ b = cc in subst (λ y. (is_bad fee balance (at_branch y) ≡ false) × Under balance y) z (h.0, h.1)
  each_at balance (branch d c) (suc i) b h e = each_at balance c i b h.2 e

  part_at : (ps : Parts) (i : ℕ) (p : ℕ × Contract) → EachPart ps → slice_get (parts_list ps) i ≡ Some p
      → (is_bad fee (pos (p.0)) (position (p.1)) ≡ false) × Each (pos (p.0)) (p.1)
  part_at no_part i p h e = cc
  part_at (part v c ps) zero p h e =
      let z : (let q : ℕ × Contract = (v, c) in q) ≡ p = cc in
      subst (λ (q : ℕ × Contract). (is_bad fee (pos (q.0)) (position (q.1)) ≡ false) × Each (pos (q.0)) (q.1)) z (h.0, h.1)
  part_at (part v c ps) (suc i) p h e = part_at ps i p h.2 e

-- a difference that isn't negative
difference : (v p fee : ℕ) → int_lt ((pos v +ℤ pos p) -ℤ pos fee) (pos 0) ≡ false → (pos v +ℤ pos p) -ℤ pos fee ≡ pos (v + p - fee)
difference v p fee h = let k : fee ≤ v + p = grind (arith, ints, h) in omega (arith, ints, k)

root_difference : (v fee : ℕ) → int_lt (pos v -ℤ pos fee) (pos 0) ≡ false → pos v -ℤ pos fee ≡ pos (v - fee)
root_difference v fee h = let k : fee ≤ v = grind (arith, ints, h) in omega (arith, ints, k)

-- ---- along paths

module _ (hash : List ℕ → List ℕ) (st : Instance) where
  abbrev ds : List (List ℕ × Holding)
  ds = volatile st.advert.pre

  abbrev fee : ℕ
  fee = st.advert.fee

  -- what stands there isn't bad, by the value of its position
  abbrev Good : PathEnd → Type 0
  Good (by_path.at_position here choice) = (is_bad fee (pos here.output.value) (position choice) ≡ false) × Each ds fee (pos here.output.value) choice
  Good (by_path.at_branch here i b) = (is_bad fee (pos here.output.value) (at_branch b) ≡ false) × Under ds fee (pos here.output.value) b

  branch_good : (here : Standing) (choice : Contract) (i : ℕ) (next : PathEnd) → Each ds fee (pos here.output.value) choice
      → branch_end here choice i ≡ Some next → Good next
  branch_good here choice i next h e = by_branch (slice_get (branches choice) i) refl e
    where
      by_branch : (o : Option term.Guarded) → slice_get (branches choice) i ≡ o → option_map (by_path.at_branch here i) o ≡ Some next → Good next
      by_branch None f x = cc
      by_branch (Some b) f x = let z : by_path.at_branch here i b ≡ next = cc in subst Good z (each_at ds fee (pos here.output.value) choice i b h f)

  abbrev GoodPosition : Standing × Contract → Type 0
  GoodPosition p = (is_bad fee (pos p.0.output.value) (position p.1) ≡ false) × Each ds fee (pos p.0.output.value) p.1

  continued_good : (here : Standing) (i : ℕ) (b c : term.Guarded) (p : Standing × Contract) → Under ds fee (pos here.output.value) c
      → continued_end hash st here i b c ≡ Some p → GoodPosition p
  continued_good here i b (put_reveal puts reveals test next) p h e =
      let q = or_parts (at_core (is_uneven fee (after_put ds fee (pos here.output.value) puts)) (position next))
      (is_short fee (after_put ds fee (pos here.output.value) puts) (position next)) h.0 in
      let v = difference here.output.value (value_of_puts ds puts) fee q.1 in
      let g : (is_bad fee (pos (continued_value st here.output.value puts)) (position next) ≡ false)
      × Each ds fee (pos (continued_value st here.output.value puts)) next =
      subst (λ n. (is_bad fee n (position next) ≡ false) × Each ds fee n next) v h in
      subst GoodPosition (some_is _ p e) g
    where
      some_is : (x y : Standing × Contract) → (let o : Option (Standing × Contract) = Some x in o) ≡ Some y → x ≡ y
      some_is x y h = cc
  continued_good here i b (withdraw party) p h e = cc
  continued_good here i b (split parts) p h e = cc
  continued_good here i b (auth party body) p h e = cc
  continued_good here i b (after height body) p h e = cc

  part_good : (here : Standing) (i k : ℕ) (b c : term.Guarded) (next : PathEnd) → Under ds fee (pos here.output.value) c
      → part_end hash st here i b k c ≡ Some next → Good next
  part_good here i k b (put_reveal puts reveals test n) next h e = cc
  part_good here i k b (withdraw party) next h e = cc
  part_good here i k b (split parts) next h e = by_part (slice_get (parts_list parts) k) refl e
    where
      by_part : (o : Option (ℕ × Contract)) → slice_get (parts_list parts) k ≡ o
          → option_map (λ (p : ℕ × Contract). by_path.at_position
          (part_standing hash st (branch_path here.position i) (branch_unsigned hash st here i b) k p.0 p.1) p.1) o ≡ Some next → Good next
      by_part None f x = cc
      by_part (Some p) f x =
          let z : by_path.at_position (part_standing hash st (branch_path here.position i) (branch_unsigned hash st here i b) k p.0 p.1) p.1 ≡ next = cc in
          subst Good z (part_at ds fee parts k p h f)
  part_good here i k b (auth party body) next h e = cc
  part_good here i k b (after height body) next h e = cc

  next_good : (step : PathStep) (here next : PathEnd) → Good here → next_end hash st step here ≡ Some next → Good next
  next_good (To i) (by_path.at_position here choice) next h e = branch_good here choice i next h.1 e
  next_good (Into k) (by_path.at_position here choice) next h e = cc
  next_good (To j) (by_path.at_branch here i b) next h e = by_continued (continued_end hash st here i b (core b)) refl e
    where
      by_continued : (o : Option (Standing × Contract)) → continued_end hash st here i b (core b) ≡ o
          → option_and_then (λ (p : Standing × Contract). branch_end p.0 p.1 j) o ≡ Some next → Good next
      by_continued None f x = cc
      by_continued (Some p) f x = branch_good p.0 p.1 j next (continued_good here i b (core b) p (under_core ds fee (pos here.output.value) b h.1) f).1 x
  next_good (Into k) (by_path.at_branch here i b) next h e = part_good here i k b (core b) next (under_core ds fee (pos here.output.value) b h.1) e

  from_good : (path : List PathStep) (here end : PathEnd) → Good here → end_from hash st here path ≡ Some end → Good end
  from_good [] here end h e = let z : here ≡ end = cc in subst Good z h
  from_good (step ∷ path) here end h e = by_next (next_end hash st step here) refl e (λ next f x. from_good path next end (next_good step here next h f) x)
    where
      by_next : (o : Option PathEnd) → next_end hash st step here ≡ o → option_and_then (λ (next : PathEnd). end_from hash st next path) o
          ≡ Some end → ((next : PathEnd) → next_end hash st step here ≡ Some next → end_from hash st next path ≡ Some end → Good end) → Good end
      by_next None f x go = cc
      by_next (Some next) f x go = go next f x

  module _ (well : IsWellFormed st.advert) where
    root_good : Good (by_path.at_position (root_standing hash st) st.advert.root)
    root_good =
        let f = no_fault st.advert well in
        let a = none_of (λ s. at_core (is_uneven st.advert.fee s.balance) s.subterm) (all_funded st.advert) f.1.1.1.1.1.1.0 in
        let b = none_of (λ s. is_short st.advert.fee s.balance s.subterm) (all_funded st.advert) f.1.1.1.1.1.1.1.0 in
        let all = none_both (λ s. at_core (is_uneven st.advert.fee s.balance) s.subterm)
        (λ s. is_short st.advert.fee s.balance s.subterm) (all_funded st.advert) a b in
        let e = each_of ds fee [] (root_balance st.advert) 0 st.advert.root all.1 in
        let q = or_parts (at_core (is_uneven fee (root_balance st.advert)) (position st.advert.root))
        (is_short fee (root_balance st.advert) (position st.advert.root)) all.0 in
        let v = root_difference (total_of (persistent st.advert.pre)) fee q.1 in
        subst (λ n. (is_bad fee n (position st.advert.root) ≡ false) × Each ds fee n st.advert.root) v (all.0, e)

    position_good : (q : List PathStep) (p : Standing × Contract) → position_at hash st q ≡ Some p → GoodPosition p
    position_good q p e = by_stand (end_at hash st q) refl e
      where
        some_is : (x y : Standing × Contract) → (let o : Option (Standing × Contract) = Some x in o) ≡ Some y → x ≡ y
        some_is x y h = cc

        by_kind : (here : PathEnd) → Good here → as_position hash st here ≡ Some p → GoodPosition p
        by_kind (by_path.at_position here choice) g x = subst GoodPosition (some_is (here, choice) p x) g
        by_kind (by_path.at_branch here i b) g x = continued_good here i b (core b) p (under_core ds fee (pos here.output.value) b g.1) x

        by_stand : (o : Option PathEnd) → end_at hash st q ≡ o → option_and_then (as_position hash st) o ≡ Some p → GoodPosition p
        by_stand None f x = cc
        by_stand (Some here) f x = by_kind here (from_good q (by_path.at_position (root_standing hash st) st.advert.root) here root_good f) x

    -- a split's parts and the fee make up the value of the position
    pub split_even : (q : List PathStep) (here : Standing) (choice : Contract) (i : ℕ) (b : term.Guarded) (ps : Parts)
        → position_at hash st q ≡ Some (here, choice) → slice_get (branches choice) i ≡ Some b → core b ≡ split ps → sum_of_parts ps ≤ here.output.value
    split_even q here choice i b ps e t c =
        let g = position_good q (here, choice) e in
        let h = each_at ds fee (pos here.output.value) choice i b g.1 t in
        let r = or_parts (at_core (is_uneven fee (pos here.output.value)) (at_branch b)) (is_short fee (pos here.output.value) (at_branch b)) h.0 in
        let u : not (int_eq (pos (sum_of_parts ps + fee)) (pos here.output.value)) ≡ false = sym (ap (is_uneven fee (pos here.output.value)) c) ∙ r.0 in
        let d = (Decides-int_eq (pos (sum_of_parts ps + fee)) (pos here.output.value)).0 (is_true _ u) in
        omega (arith, ints, d)
      where
        is_true : (b : Bool) → not b ≡ false → b ≡ true
        is_true true h = refl
        is_true false h = sym h

-- ---- a split has a part

abbrev some_parts : term.Guarded → Bool
some_parts (split parts) = is_some_list (parts_list parts)
some_parts (auth party body) = true
some_parts (after height body) = true
some_parts (put_reveal puts reveals test next) = true
some_parts (withdraw party) = true

abbrev reads : Subterm → Bool
reads (position c) = true
reads (at_branch b) = some_parts (core b)

mutual
  choice_reads : (c : Contract) → are_readable c ≡ true → spots.Each reads c
  choice_reads no_branch h = tt
  choice_reads (branch b bs) h =
      let p = and_parts (is_readable_branch b) (are_readable bs) h in
      let q = branch_reads b p.0 in
      (q.0, q.1, choice_reads bs p.1)

  branch_reads : (b : term.Guarded) → is_readable_branch b ≡ true → (some_parts (core b) ≡ true) × spots.EachUnder reads b
  branch_reads (auth party body) h = branch_reads body (and_parts _ (is_readable_branch body) h).1
  branch_reads (after height body) h = branch_reads body (and_parts _ (is_readable_branch body) h).1
  branch_reads (put_reveal puts reveals test next) h =
      let p = and_parts _ _ h in
      let r = and_parts _ (is_readable_count next && are_readable next) p.1 in
      let u = and_parts (is_readable_count next) (are_readable next) r.1 in
      (refl, (refl, choice_reads next u.1))
  branch_reads (withdraw party) h = (refl, tt)
  branch_reads (split parts) h =
      let p = and_parts (is_readable_split parts) (are_readable_parts parts) h in
      ((and_parts (is_some_list (parts_list parts)) _ p.0).0, parts_read parts p.1)

  parts_read : (ps : Parts) → are_readable_parts ps ≡ true → spots.EachPart reads ps
  parts_read no_part h = tt
  parts_read (part v c ps) h =
      let p = and_parts _ (are_readable_parts ps) h in
      let q = and_parts _ (is_readable_count c && are_readable c) p.0 in
      let u = and_parts (is_readable_count c) (are_readable c) q.1 in
      (refl, choice_reads c u.1, parts_read ps p.1)

nth_reads : (c : Contract) (i : ℕ) (b : term.Guarded) → spots.Each reads c → slice_get (branches c) i ≡ Some b → some_parts (core b) ≡ true
nth_reads no_branch i b h e = cc
nth_reads (branch d c) zero b h e = let z : d ≡ b = cc in subst (λ y. some_parts (core y) ≡ true) z h.0
nth_reads (branch d c) (suc i) b h e = nth_reads c i b h.2 e

pub split_some : (a : Advert) (path : List PathStep) (c : Contract) (i : ℕ) (b : term.Guarded) (ps : Parts) → IsWellFormed a
    → contract_under a.root path ≡ Some c → slice_get (branches c) i ≡ Some b → core b ≡ split ps → 0 < length (parts_list ps)
split_some a path c i b ps well e t k =
    let r = and_parts _ _ well.readable in
    let r2 = and_parts _ (is_readable_contract a.root) r.1 in
    let r3 = and_parts (is_readable_count a.root && are_readable a.root) _ r2.1 in
    let r4 = and_parts (is_readable_count a.root) (are_readable a.root) r3.0 in
    let all = spots.each_at reads a.root path c (refl, choice_reads a.root r4.1) e in
    let s : is_some_list (parts_list ps) ≡ true = sym (ap some_parts k) ∙ nth_reads c i b all.1 t in
    some_length (parts_list ps) s
  where
    some_length : (xs : List (ℕ × Contract)) → is_some_list xs ≡ true → 0 < length xs
    some_length [] h = cc
    some_length (x ∷ xs) h = omega arith
