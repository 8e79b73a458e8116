-- What a compiled contract holds at its positions is their static balance: it pays for their branches, and is no more than all money.
use Rattle.std.proofs.Common.{◌≡◌, ℕ, zero, suc, ◌+◌, ◌-◌, ◌≤◌, List, [], ◌∷◌, ◌++◌, Bool, true, false, not, Option, Some, None, refl, sym}
use Rattle.std.proofs.Common.{subst, arith}
use Rattle.std.specs.Prelude.{◌&&◌, slice_get, option_map, option_and_then, pos, ◌-ℤ◌, int_lt}
use Rattle.std.specs.List.{list_all, Contains}
use Rattle.std.proofs.lemmas.Bool.{and_parts, and_from, not-true, not_from_false}
use Rattle.std.proofs.lemmas.Int.{ints}
use Rattle.spec_data.proofs.ListLemmas.{or_else-none}
use Rattle.spec_terms.specs.Advert.{Advert}
use Rattle.spec_terms.specs.Term as term
use Rattle.spec_terms.specs.Term.{Contract, no_branch, branch, branches, Parts, no_part, part, parts_list, auth, after, put_reveal, withdraw}
use Rattle.spec_terms.specs.Term.{split}
use Rattle.spec_terms.specs.Core.{core}
use Rattle.spec_terms.specs.Precondition.{persistent, volatile, total_of, value_of_puts}
use Rattle.spec_terms.specs.Paths as terms
use Rattle.spec_terms.specs.Balance.{branches_funded, funded_under, parts_funded, all_funded}
use Rattle.spec_terms.specs.Balance as balance
use Rattle.spec_data.specs.Ranges.{max_money}
use Rattle.spec_terms.specs.Faults.{IsWellFormed, place_of, place_if, first_place, at_core, at_position, is_short, is_uneven, is_too_much}
use Rattle.spec_terms.specs.declared.path.PathStep.{PathStep}
use Rattle.spec_terms.specs.declared.path.PathStep.TheVariants.{Branch as To, Part as Into}
use Rattle.spec_compiler.specs.Keyed.Keys.{Keys}
use Rattle.spec_compiler.specs.Keyed.Instance.{Instance, branch_path}
use Rattle.spec_compiler.specs.Keyed.Transactions.{Standing, continued_value, part_position, branch_unsigned, continued, part_standing}
use Rattle.spec_compiler.specs.Keyed.Transactions.{root_value, root_standing}
use Rattle.spec_compiler.specs.Keyed.ByPath as by_path
use Rattle.spec_compiler.specs.Keyed.ByPath.{PathEnd, branch_end, continued_end, part_end, next_end, end_from, end_at, as_position}
use Rattle.spec_compiler.specs.Keyed.ByPath.{position_at}
use Rattle.theory_calculus.proofs.Faultless.{no_fault, no_limit, no_place}
use Rattle.theory_calculus.proofs.Checked.{enough_alone, difference_alone}

-- ---- the checks of balances, of all positions and branches

-- no fee falls short there, no split is uneven, and there is no more than all money
abbrev pub is_kept : ℕ → balance.Funded → Bool
is_kept fee x =
    (not (is_short fee x.balance x.subterm) && not (at_core (is_uneven fee x.balance) x.subterm)) && not (at_position (λ c. is_too_much x.balance) x.subterm)

-- none passes the test where none has a place
none_placed : (test : balance.Funded → Bool) (x : balance.Funded) (xs : List balance.Funded) → first_place test (x ∷ xs) ≡ None
    → (test x ≡ false) × (first_place test xs ≡ None)
none_placed test x xs h =
    let p = or_else-none (place_if test x) (first_place test xs) h in
    (no_place (test x) (place_of x.subterm x) p.0, p.1)

all_kept : (fee : ℕ) (xs : List balance.Funded) → first_place (λ x. is_short fee x.balance x.subterm) xs ≡ None
    → first_place (λ x. at_core (is_uneven fee x.balance) x.subterm) xs ≡ None
    → first_place (λ x. at_position (λ c. is_too_much x.balance) x.subterm) xs ≡ None → list_all (is_kept fee) xs ≡ true
all_kept fee [] h u k = refl
all_kept fee (x ∷ xs) h u k =
    let p = none_placed (λ y. is_short fee y.balance y.subterm) x xs h in
    let r = none_placed (λ y. at_core (is_uneven fee y.balance) y.subterm) x xs u in
    let q = none_placed (λ y. at_position (λ c. is_too_much y.balance) y.subterm) x xs k in
    and_from _ _ (and_from _ _ (and_from _ _ (not_from_false _ p.0) (not_from_false _ r.0)) (not_from_false _ q.0)) (all_kept fee xs p.1 r.1 q.1)

pub stands_kept : (a : Advert) → IsWellFormed a → list_all (is_kept a.fee) (all_funded a) ≡ true
stands_kept a h =
    let f = no_fault a h in
    all_kept a.fee (all_funded a) f.1.1.1.1.1.1.1.0 f.1.1.1.1.1.1.0 (no_limit a h).1.0

-- ---- numbers

within : (v : ℕ) → int_lt (pos max_money) (pos v) ≡ false → v ≤ max_money
within v h = grind (arith, ints, h)

-- what is kept at a position
position_kept : (fee : ℕ) (q : List PathStep) (m f : ℕ) (c : Contract)
    → is_kept fee (balance.as_funded q (pos m -ℤ pos f) (terms.position c)) ≡ true
    → (pos m -ℤ pos f ≡ pos (m - f)) × (m - f ≤ max_money) × (f ≤ m)
position_kept fee q m f c h =
    let p = and_parts (not (int_lt (pos m -ℤ pos f) (pos 0)) && true) (not (int_lt (pos max_money) (pos m -ℤ pos f))) h in
    let le = enough_alone m f (not-true _ (and_parts (not (int_lt (pos m -ℤ pos f) (pos 0))) true p.0).0) in
    let e = difference_alone m f le in
    (e, within (m - f) (subst (λ z. int_lt (pos max_money) z ≡ false) e (not-true _ p.1)), le)

-- ---- what stands below

module _ (hash : List ℕ → List ℕ) (keys : Keys) (s : Instance) where
  -- a stand of the contract, where the check saw nothing wrong
  abbrev Good : balance.Funded → Type 0
  Good x = (is_kept s.advert.fee x ≡ true) × Contains (all_funded s.advert) x

  abbrev all_fine : List balance.Funded → Type 0
  all_fine [] = Unit {0}
  all_fine (x ∷ xs) = Good x × all_fine xs

  fine_split : (xs ys : List balance.Funded) → all_fine (xs ++ ys) → all_fine xs × all_fine ys
  fine_split [] ys h = (tt, h)
  fine_split (x ∷ xs) ys h = let p = fine_split xs ys h.1 in ((h.0, p.0), p.1)

  all_good : (xs : List balance.Funded) → list_all (is_kept s.advert.fee) xs ≡ true
      → ((x : balance.Funded) → Contains xs x → Contains (all_funded s.advert) x) → all_fine xs
  all_good [] h f = tt
  all_good (x ∷ xs) h f =
      let p = and_parts (is_kept s.advert.fee x) (list_all (is_kept s.advert.fee) xs) h in
      ((p.0, f x (zero, omega arith, refl)), all_good xs p.1 (λ y c. f y (suc c.0, omega (arith, c.1), c.2)))

  abbrev below_choice : List PathStep → ℕ → ℕ → Contract → List balance.Funded
  below_choice q v j c = branches_funded (volatile s.advert.pre) s.advert.fee q (pos v) j c

  abbrev below_branch : List PathStep → ℕ → term.Guarded → List balance.Funded
  below_branch p v b = funded_under (volatile s.advert.pre) s.advert.fee p (pos v) b

  -- what is kept at a branch and below it
  abbrev BranchFine : List PathStep → ℕ → term.Guarded → Type 0
  BranchFine p v b = Good (balance.as_funded p (pos v) (terms.at_branch b)) × all_fine (below_branch p v b)

  -- a position's value is its static balance and no more than all money, and what is below is kept
  abbrev PositionFine : List PathStep → ℕ → Contract → Type 0
  PositionFine q v c = (v ≤ max_money) × Contains (all_funded s.advert) (balance.as_funded q (pos v) (terms.position c)) × all_fine (below_choice q v 0 c)

  -- nothing is cut off where the position's stand is good
  kept_position : (q : List PathStep) (m f : ℕ) (c : Contract) → Good (balance.as_funded q (pos m -ℤ pos f) (terms.position c))
      → all_fine (branches_funded (volatile s.advert.pre) s.advert.fee q (pos m -ℤ pos f) 0 c) → PositionFine q (m - f) c × (f ≤ m)
  kept_position q m f c g r =
      let k = position_kept s.advert.fee q m f c g.0 in
      let static = subst (λ z. Contains (all_funded s.advert) (balance.as_funded q z (terms.position c))) k.0 g.1 in
      let below = subst (λ z. all_fine (branches_funded (volatile s.advert.pre) s.advert.fee q z 0 c)) k.0 r in
      ((k.1, static, below), k.2)

  -- what is kept where something stands
  abbrev pub Fine : PathEnd → Type 0
  Fine (by_path.at_position here choice) = PositionFine here.position here.output.value choice
  Fine (by_path.at_branch here i b) = (here.output.value ≤ max_money) × BranchFine (branch_path here.position i) here.output.value b

  -- the first branch, and those after it
  first_fine : (q : List PathStep) (v j : ℕ) (d : term.Guarded) (c : Contract) → all_fine (below_choice q v j (branch d c))
      → BranchFine (branch_path q j) v d × all_fine (below_choice q v (j + 1) c)
  first_fine q v j d c k =
      let t = fine_split (below_branch (branch_path q j) v d) (below_choice q v (j + 1) c) k.1 in
      ((k.0, t.0), t.1)

  choice_fine : (q : List PathStep) (v j i : ℕ) (c : Contract) (b : term.Guarded) → slice_get (branches c) i ≡ Some b
      → all_fine (below_choice q v j c) → BranchFine (branch_path q (i + j)) v b
  choice_fine q v j i no_branch b h k = cc
  choice_fine q v j zero (branch d c) b h k =
      let e : d ≡ b = cc in
      let z : 0 + j ≡ j = omega arith in
      subst (λ n. BranchFine (branch_path q n) v b) (sym z) (subst (λ y. BranchFine (branch_path q j) v y) e (first_fine q v j d c k).0)
  choice_fine q v j (suc i) (branch d c) b h k =
      let z : i + (j + 1) ≡ suc i + j = omega arith in
      subst (λ n. BranchFine (branch_path q n) v b) z (choice_fine q v (j + 1) i c b h (first_fine q v j d c k).1)

  -- the core has below it what the branch has
  below_core : (p : List PathStep) (v : ℕ) (b : term.Guarded) → below_branch p v b ≡ below_branch p v (core b)
  below_core p v (auth party body) = below_core p v body
  below_core p v (after height body) = below_core p v body
  below_core p v (put_reveal puts reveals test next) = refl
  below_core p v (withdraw party) = refl
  below_core p v (split parts) = refl

  core_fine : (p : List PathStep) (v : ℕ) (b c : term.Guarded) → core b ≡ c → all_fine (below_branch p v b) → all_fine (below_branch p v c)
  core_fine p v b c e f = subst (λ x. all_fine (below_branch p v x)) e (subst all_fine (below_core p v b) f)

  pub branch_fine : (here : Standing) (choice : Contract) (i : ℕ) (st : PathEnd) → Fine (by_path.at_position here choice)
      → branch_end here choice i ≡ Some st → Fine st
  branch_fine here choice i st f h = by_branch (slice_get (branches choice) i) refl h
    where
      by_branch : (o : Option term.Guarded) → slice_get (branches choice) i ≡ o → option_map (by_path.at_branch here i) o ≡ Some st → Fine st
      by_branch None e q = cc
      by_branch (Some b) e q =
          let z : by_path.at_branch here i b ≡ st = cc in
          let n : i + 0 ≡ i = omega arith in
          subst Fine z (
            f.0,
            subst (λ m. BranchFine (branch_path here.position m) here.output.value b) n
                (choice_fine here.position here.output.value 0 i choice b e f.2),
          )

  -- what a put goes on with
  put_fine : (p : List PathStep) (v : ℕ) (puts reveals : List (List ℕ)) (test : term.Pred) (next : Contract)
      → all_fine (below_branch p v (put_reveal puts reveals test next))
      → PositionFine p (continued_value s v puts) next × (s.advert.fee ≤ v + value_of_puts (volatile s.advert.pre) puts)
  put_fine p v puts reveals test next h = kept_position p (v + value_of_puts (volatile s.advert.pre) puts) s.advert.fee next h.0 h.1

  -- the first part, and those after it
  first_part : (p : List PathStep) (j v : ℕ) (c : Contract) (ps : Parts)
      → all_fine (parts_funded (volatile s.advert.pre) s.advert.fee p j (part v c ps))
      → PositionFine (part_position p j) v c × all_fine (parts_funded (volatile s.advert.pre) s.advert.fee p (j + 1) ps)
  first_part p j v c ps f =
      let t = fine_split (below_choice (part_position p j) v 0 c) (parts_funded (volatile s.advert.pre) s.advert.fee p (j + 1) ps) f.1 in
      let m = and_parts (not (int_lt (pos v) (pos 0)) && true) (not (int_lt (pos max_money) (pos v))) f.0.0 in
      ((within v (not-true _ m.1), f.0.1, t.0), t.1)

  part_fine : (p : List PathStep) (j k : ℕ) (ps : Parts) (x : ℕ × Contract) → slice_get (parts_list ps) k ≡ Some x
      → all_fine (parts_funded (volatile s.advert.pre) s.advert.fee p j ps) → PositionFine (part_position p (k + j)) x.0 x.1
  part_fine p j k no_part x h f = cc
  part_fine p j zero (part v c ps) x h f =
      let e : (let q : ℕ × Contract = (v, c) in q) ≡ x = cc in
      let z : 0 + j ≡ j = omega arith in
      subst (λ (y : ℕ × Contract). PositionFine (part_position p (0 + j)) y.0 y.1) e
      (subst (λ n. PositionFine (part_position p n) v c) (sym z) (first_part p j v c ps f).0)
  part_fine p j (suc k) (part v c ps) x h f =
      let z : k + (j + 1) ≡ suc k + j = omega arith in
      subst (λ n. PositionFine (part_position p n) x.0 x.1) z (part_fine p (j + 1) k ps x h (first_part p j v c ps f).1)

  continued_fine : (here : Standing) (i : ℕ) (b c : term.Guarded) (p : Standing × Contract) → core b ≡ c → Fine (by_path.at_branch here i b)
      → continued_end hash keys s here i b c ≡ Some p → Fine (by_path.at_position p.0 p.1)
  continued_fine here i b (put_reveal puts reveals test next) p e f h =
      let z : (let q : Standing × Contract =
      (continued hash keys s (branch_path here.position i) (branch_unsigned hash keys s here i b) (continued_value s here.output.value puts) next, next) in
      q) ≡ p =
      cc in
      let path = branch_path here.position i in
      let r = put_fine path here.output.value puts reveals test next (core_fine path here.output.value b _ e f.1.1) in
      subst (λ (q : Standing × Contract). Fine (by_path.at_position q.0 q.1)) z r.0
  continued_fine here i b (withdraw party) p e f h = cc
  continued_fine here i b (split parts) p e f h = cc
  continued_fine here i b (auth party body) p e f h = cc
  continued_fine here i b (after height body) p e f h = cc

  -- with what a put brings, the position has enough_alone for the fee
  pub put_enough : (here : Standing) (i : ℕ) (b : term.Guarded) (puts reveals : List (List ℕ)) (test : term.Pred) (next : Contract)
      → core b ≡ put_reveal puts reveals test next → Fine (by_path.at_branch here i b)
      → s.advert.fee ≤ here.output.value + value_of_puts (volatile s.advert.pre) puts
  put_enough here i b puts reveals test next e f =
      let path = branch_path here.position i in
      (put_fine path here.output.value puts reveals test next (core_fine path here.output.value b _ e f.1.1)).1

  split_fine : (here : Standing) (i k : ℕ) (b c : term.Guarded) (st : PathEnd) → core b ≡ c → Fine (by_path.at_branch here i b)
      → part_end hash keys s here i b k c ≡ Some st → Fine st
  split_fine here i k b (put_reveal puts reveals test next) st e f h = cc
  split_fine here i k b (withdraw party) st e f h = cc
  split_fine here i k b (split ps) st e f h = by_part (slice_get (parts_list ps) k) refl h
    where
      by_part : (o : Option (ℕ × Contract)) → slice_get (parts_list ps) k ≡ o
          → option_map (λ (p : ℕ × Contract). by_path.at_position
          (part_standing hash keys s (branch_path here.position i) (branch_unsigned hash keys s here i b) k p.0 p.1) p.1) o ≡ Some st → Fine st
      by_part None g q = cc
      by_part (Some x) g q =
          let z : by_path.at_position (part_standing hash keys s (branch_path here.position i) (branch_unsigned hash keys s here i b) k x.0 x.1) x.1
          ≡ st =
          cc in
          let n : k + 0 ≡ k = omega arith in
          let path = branch_path here.position i in
          let r = part_fine path 0 k ps x g (core_fine path here.output.value b _ e f.1.1) in
          subst Fine z (subst (λ m. PositionFine (part_position path m) x.0 x.1) n r)
  split_fine here i k b (auth party body) st e f h = cc
  split_fine here i k b (after height body) st e f h = cc

  next_fine : (step : PathStep) (st next : PathEnd) → Fine st → next_end hash keys s step st ≡ Some next → Fine next
  next_fine (To i) (by_path.at_position here choice) next f h = branch_fine here choice i next f h
  next_fine (Into k) (by_path.at_position here choice) next f h = cc
  next_fine (To j) (by_path.at_branch here i b) next f h = by_continued (continued_end hash keys s here i b (core b)) refl h
    where
      by_continued : (o : Option (Standing × Contract)) → continued_end hash keys s here i b (core b) ≡ o
          → option_and_then (λ (p : Standing × Contract). branch_end p.0 p.1 j) o ≡ Some next → Fine next
      by_continued None e q = cc
      by_continued (Some p) e q = branch_fine p.0 p.1 j next (continued_fine here i b (core b) p refl f e) q
  next_fine (Into k) (by_path.at_branch here i b) next f h = split_fine here i k b (core b) next refl f h

  from_fine : (path : List PathStep) (st end : PathEnd) → Fine st → end_from hash keys s st path ≡ Some end → Fine end
  from_fine [] st end f h = let e : st ≡ end = cc in subst Fine e f
  from_fine (step ∷ path) st end f h = by_next (next_end hash keys s step st) refl h (λ next e q. from_fine path next end (next_fine step st next f e) q)
    where
      by_next : (o : Option PathEnd) → next_end hash keys s step st ≡ o
          → option_and_then (λ (next : PathEnd). end_from hash keys s next path) o ≡ Some end
          → ((next : PathEnd) → next_end hash keys s step st ≡ Some next → end_from hash keys s next path ≡ Some end → Fine end) → Fine end
      by_next None e q go = cc
      by_next (Some next) e q go = go next e q

  module _ (well : IsWellFormed s.advert) where
    all_stands : all_fine (all_funded s.advert)
    all_stands = all_good (all_funded s.advert) (stands_kept s.advert well) (λ x c. c)

    root_kept : PositionFine [] (root_value s) s.advert.root × (s.advert.fee ≤ total_of (persistent s.advert.pre))
    root_kept = kept_position [] (total_of (persistent s.advert.pre)) s.advert.fee s.advert.root all_stands.0 all_stands.1

    root_fine : Fine (by_path.at_position (root_standing hash keys s) s.advert.root)
    root_fine = root_kept.0

    -- the persistent deposits pay the fee
    pub root_enough : s.advert.fee ≤ total_of (persistent s.advert.pre)
    root_enough = root_kept.1

    pub root_little : root_value s ≤ max_money
    root_little = root_fine.0

    pub stand_fine : (path : List PathStep) (end : PathEnd) → end_at hash keys s path ≡ Some end → Fine end
    stand_fine path end h = from_fine path (by_path.at_position (root_standing hash keys s) s.advert.root) end root_fine h

    -- the same of a position with its branches
    pub position_fine : (q : List PathStep) (here : Standing) (choice : Contract) → position_at hash keys s q ≡ Some (here, choice)
        → Fine (by_path.at_position here choice)
    position_fine q here choice h = by_stand (end_at hash keys s q) refl h
      where
        by_end : (st : PathEnd) → Fine st → as_position hash keys s st ≡ Some (here, choice) → Fine (by_path.at_position here choice)
        by_end (by_path.at_position a c) f e =
            let z : (let p : Standing × Contract = (a, c) in p) ≡ (here, choice) = cc in
            subst (λ (p : Standing × Contract). Fine (by_path.at_position p.0 p.1)) z f
        by_end (by_path.at_branch a i b) f e = continued_fine a i b (core b) (here, choice) refl f e

        by_stand : (o : Option PathEnd) → end_at hash keys s q ≡ o → option_and_then (as_position hash keys s) o ≡ Some (here, choice)
            → Fine (by_path.at_position here choice)
        by_stand None e k = cc
        by_stand (Some st) e k = by_end st (stand_fine q st e) k

    -- no position holds more than all money
    pub position_little : (q : List PathStep) (here : Standing) (choice : Contract) → position_at hash keys s q ≡ Some (here, choice)
        → here.output.value ≤ max_money
    position_little q here choice h = (position_fine q here choice h).0

    -- each holds its static balance
    pub position_static : (q : List PathStep) (here : Standing) (choice : Contract) → position_at hash keys s q ≡ Some (here, choice)
        → Contains (all_funded s.advert) (balance.as_funded here.position (pos here.output.value) (terms.position choice))
    position_static q here choice h = (position_fine q here choice h).1
