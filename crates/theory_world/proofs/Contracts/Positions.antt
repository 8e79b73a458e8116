-- The transactions of a contract, by path and in a list.
use Rattle.std.proofs.Common.{◌≡◌, arith, ℕ, zero, suc, ◌+◌, List, [], ◌∷◌, true, Option, Some, None, refl, sym, ap, subst, arith, inl, inr}
use Rattle.std.specs.Prelude.{slice_get, option_map, option_and_then}
use Rattle.std.specs.List.{flat_map}
use Rattle.std.proofs.lemmas.List.Concat.{flat_map-cons}
use Rattle.spec_data.specs.Lists.{is_among}
use Rattle.spec_terms.specs.Term as term
use Rattle.spec_terms.specs.Term.{Contract, no_branch, branch, branches, Parts, no_part, part, parts_list, auth, after, put_reveal, withdraw, split}
use Rattle.spec_terms.specs.Core.{core, lock}
use Rattle.spec_terms.specs.declared.path.PathStep.{PathStep}
use Rattle.spec_terms.specs.declared.path.PathStep.TheVariants.{Branch as To, Part as Into}
use Rattle.spec_compiler.specs.Instance.{Instance, branch_path}
use Rattle.spec_compiler.specs.declared.unsigned.Unsigned.{Unsigned}
use Rattle.spec_compiler.specs.Transactions.{Standing, continued_value, core_unsigned, branch_unsigned, continued, part_standing, root_standing}
use Rattle.spec_compiler.specs.Compilation.{choice_transactions, branch_transactions, parts_transactions, path_transactions}
use Rattle.spec_compiler.specs.ByPath as by_path
use Rattle.spec_compiler.specs.ByPath.{PathEnd, branch_end, continued_end, part_end, next_end, end_from, end_at}
use Rattle.spec_compiler.specs.Hashed.{unsigned_strings, path_labels}
use Rattle.theory_calculus.specs.Members.{Is_in}
use Rattle.theory_calculus.proofs.Members.{in_left, in_right}
use Rattle.theory_world.proofs.Hashed.{among_left, among_right}

-- ---- from paths to the list

module _ (hash : List ℕ → List ℕ) (s : Instance) where
  -- the first list is part of the second
  abbrev pub Within : List (List PathStep × Unsigned) → List (List PathStep × Unsigned) → Type 0
  Within xs ys = (d : List PathStep × Unsigned) → Is_in d xs → Is_in d ys

  choice_within : (here : Standing) (j i : ℕ) (c : Contract) (b : term.Guarded) → slice_get (branches c) i ≡ Some b
      → Within (branch_transactions hash s here (i + j) (lock b) b) (choice_transactions hash s here j c)
  choice_within here j i no_branch b h = cc
  choice_within here j zero (branch d c) b h =
      let e : d ≡ b = cc in
      let z : 0 + j ≡ j = omega arith in
      λ x k. in_left x (branch_transactions hash s here j (lock d) d) (choice_transactions hash s here (j + 1) c)
      (subst (λ y. Is_in x (branch_transactions hash s here j (lock y) y)) (sym e)
      (subst (λ n. Is_in x (branch_transactions hash s here n (lock b) b)) z k))
  choice_within here j (suc i) (branch d c) b h =
      let z : suc i + j ≡ i + (j + 1) = omega arith in
      λ x k. in_right x (branch_transactions hash s here j (lock d) d) (choice_transactions hash s here (j + 1) c)
      (choice_within here (j + 1) i c b h x (subst (λ n. Is_in x (branch_transactions hash s here n (lock b) b)) z k))

  -- the transaction of a branch stands there
  pub branch_here : (here : Standing) (i l : ℕ) (b : term.Guarded)
      → Is_in (branch_path here.position i, core_unsigned hash s here i l (core b)) (branch_transactions hash s here i l b)
  branch_here here i l (auth party body) = branch_here here i l body
  branch_here here i l (after height body) = branch_here here i l body
  branch_here here i l (put_reveal puts reveals test next) = inl refl
  branch_here here i l (withdraw party) = inl refl
  branch_here here i l (split parts) = inl refl

  -- and what stands under it
  put_within : (here : Standing) (i l : ℕ) (b : term.Guarded) (puts reveals : List (List ℕ)) (test : term.Pred) (next : Contract) → core b
      ≡ put_reveal puts reveals test next
      → Within (choice_transactions hash s (continued hash s (branch_path here.position i)
      (core_unsigned hash s here i l (put_reveal puts reveals test next)) (continued_value s here.output.value puts) next) 0 next)
      (branch_transactions hash s here i l b)
  put_within here i l (auth party body) puts reveals test next h = put_within here i l body puts reveals test next h
  put_within here i l (after height body) puts reveals test next h = put_within here i l body puts reveals test next h
  put_within here i l (put_reveal p r t n) puts reveals test next h =
      λ x k. subst (λ y. Is_in x (branch_transactions hash s here i l y)) (sym h) (inr k)
  put_within here i l (withdraw party) puts reveals test next h = cc
  put_within here i l (split parts) puts reveals test next h = cc

  parts_within : (path : List PathStep) (made : Unsigned) (j k : ℕ) (ps : Parts) (p : ℕ × Contract) → slice_get (parts_list ps) k ≡ Some p
      → Within (choice_transactions hash s (part_standing hash s path made (k + j) p.0 p.1) 0 p.1) (parts_transactions hash s path made j ps)
  parts_within path made j k no_part p h = cc
  parts_within path made j zero (part v c ps) p h =
      let e : (let q : ℕ × Contract = (v, c) in q) ≡ p = cc in
      let z : 0 + j ≡ j = omega arith in
      λ x i. in_left x (choice_transactions hash s (part_standing hash s path made j v c) 0 c) (parts_transactions hash s path made (j + 1) ps)
      (subst (λ (q : ℕ × Contract). Is_in x (choice_transactions hash s (part_standing hash s path made j q.0 q.1) 0 q.1)) (sym e)
      (subst (λ n. Is_in x (choice_transactions hash s (part_standing hash s path made n p.0 p.1) 0 p.1)) z i))
  parts_within path made j (suc k) (part v c ps) p h =
      let z : suc k + j ≡ k + (j + 1) = omega arith in
      λ x i. in_right x (choice_transactions hash s (part_standing hash s path made j v c) 0 c) (parts_transactions hash s path made (j + 1) ps)
      (parts_within path made (j + 1) k ps p h x (subst (λ n. Is_in x (choice_transactions hash s (part_standing hash s path made n p.0 p.1) 0 p.1)) z i))

  split_within : (here : Standing) (i l : ℕ) (b : term.Guarded) (ps : Parts) → core b ≡ split ps
      → Within (parts_transactions hash s (branch_path here.position i) (core_unsigned hash s here i l (split ps)) 0 ps) (branch_transactions hash s here i l b)
  split_within here i l (auth party body) ps h = split_within here i l body ps h
  split_within here i l (after height body) ps h = split_within here i l body ps h
  split_within here i l (put_reveal p r t n) ps h = cc
  split_within here i l (withdraw party) ps h = cc
  split_within here i l (split parts) ps h = λ x k. subst (λ y. Is_in x (branch_transactions hash s here i l y)) (sym h) (inr k)

  -- what stands at the end of a path has its transactions in the list
  abbrev pub Covered : PathEnd → Type 0
  Covered (by_path.at_position here choice) = Within (choice_transactions hash s here 0 choice) (path_transactions hash s)
  Covered (by_path.at_branch here i b) = Within (branch_transactions hash s here i (lock b) b) (path_transactions hash s)

  branch_covered : (here : Standing) (choice : Contract) (i : ℕ) (st : PathEnd)
      → Within (choice_transactions hash s here 0 choice) (path_transactions hash s) → branch_end here choice i ≡ Some st → Covered st
  branch_covered here choice i st w h = by_branch (slice_get (branches choice) i) refl h
    where
      by_branch : (o : Option term.Guarded) → slice_get (branches choice) i ≡ o → option_map (by_path.at_branch here i) o ≡ Some st → Covered st
      by_branch None e q = cc
      by_branch (Some b) e q =
          let z : by_path.at_branch here i b ≡ st = cc in
          let n : i + 0 ≡ i = omega arith in
          subst Covered z (λ x k. w x (choice_within here 0 i choice b e x (subst (λ m. Is_in x (branch_transactions hash s here m (lock b) b)) (sym n) k)))

  continued_covered : (here : Standing) (i : ℕ) (b c : term.Guarded) (p : Standing × Contract) → core b ≡ c
      → Within (branch_transactions hash s here i (lock b) b) (path_transactions hash s) → continued_end hash s here i b c ≡ Some p
      → Within (choice_transactions hash s p.0 0 p.1) (path_transactions hash s)
  continued_covered here i b (put_reveal puts reveals test next) p e w h =
      let d : branch_unsigned hash s here i b ≡ core_unsigned hash s here i (lock b) (put_reveal puts reveals test next) =
      ap (core_unsigned hash s here i (lock b)) e in
      let z : (let q : Standing × Contract =
      (continued hash s (branch_path here.position i) (branch_unsigned hash s here i b) (continued_value s here.output.value puts) next, next) in q) ≡ p =
      cc in
      subst (λ (q : Standing × Contract). Within (choice_transactions hash s q.0 0 q.1) (path_transactions hash s)) z
      (λ x k. w x (put_within here i (lock b) b puts reveals test next e x
      (subst (λ y. Is_in x (choice_transactions hash s
      (continued hash s (branch_path here.position i) y (continued_value s here.output.value puts) next) 0 next)) d k)))
  continued_covered here i b (withdraw party) p e w h = cc
  continued_covered here i b (split parts) p e w h = cc
  continued_covered here i b (auth party body) p e w h = cc
  continued_covered here i b (after height body) p e w h = cc

  part_covered : (here : Standing) (i k : ℕ) (b c : term.Guarded) (st : PathEnd) → core b ≡ c
      → Within (branch_transactions hash s here i (lock b) b) (path_transactions hash s) → part_end hash s here i b k c ≡ Some st → Covered st
  part_covered here i k b (put_reveal puts reveals test next) st e w h = cc
  part_covered here i k b (withdraw party) st e w h = cc
  part_covered here i k b (split ps) st e w h = by_part (slice_get (parts_list ps) k) refl h
    where
      by_part : (o : Option (ℕ × Contract)) → slice_get (parts_list ps) k ≡ o
          → option_map (λ (p : ℕ × Contract). by_path.at_position
          (part_standing hash s (branch_path here.position i) (branch_unsigned hash s here i b) k p.0 p.1) p.1) o ≡ Some st → Covered st
      by_part None f q = cc
      by_part (Some p) f q =
          let d : branch_unsigned hash s here i b ≡ core_unsigned hash s here i (lock b) (split ps) = ap (core_unsigned hash s here i (lock b)) e in
          let n : k + 0 ≡ k = omega arith in
          let z : by_path.at_position (part_standing hash s (branch_path here.position i) (branch_unsigned hash s here i b) k p.0 p.1) p.1 ≡ st = cc in
          subst Covered z (λ x j. w x (split_within here i (lock b) b ps e x
          (parts_within (branch_path here.position i) (core_unsigned hash s here i (lock b) (split ps)) 0 k ps p f x
          (subst (λ m. Is_in x (choice_transactions hash s
          (part_standing hash s (branch_path here.position i) (core_unsigned hash s here i (lock b) (split ps)) m p.0 p.1) 0 p.1)) (sym n)
          (subst (λ y. Is_in x (choice_transactions hash s (part_standing hash s (branch_path here.position i) y k p.0 p.1) 0 p.1)) d j)))))
  part_covered here i k b (auth party body) st e w h = cc
  part_covered here i k b (after height body) st e w h = cc

  next_covered : (step : PathStep) (st next : PathEnd) → Covered st → next_end hash s step st ≡ Some next → Covered next
  next_covered (To i) (by_path.at_position here choice) next w h = branch_covered here choice i next w h
  next_covered (Into k) (by_path.at_position here choice) next w h = cc
  next_covered (To j) (by_path.at_branch here i b) next w h = by_continued (continued_end hash s here i b (core b)) refl h
    where
      by_continued : (o : Option (Standing × Contract)) → continued_end hash s here i b (core b) ≡ o
          → option_and_then (λ (p : Standing × Contract). branch_end p.0 p.1 j) o ≡ Some next → Covered next
      by_continued None e q = cc
      by_continued (Some p) e q = branch_covered p.0 p.1 j next (continued_covered here i b (core b) p refl w e) q
  next_covered (Into k) (by_path.at_branch here i b) next w h = part_covered here i k b (core b) next refl w h

  from_covered : (path : List PathStep) (st end : PathEnd) → Covered st → end_from hash s st path ≡ Some end → Covered end
  from_covered [] st end w h = let e : st ≡ end = cc in subst Covered e w
  from_covered (step ∷ path) st end w h = by_next (next_end hash s step st) refl h (λ next e q. from_covered path next end (next_covered step st next w e) q)
    where
      by_next : (o : Option PathEnd) → next_end hash s step st ≡ o → option_and_then (λ (next : PathEnd). end_from hash s next path) o ≡ Some end
          → ((next : PathEnd) → next_end hash s step st ≡ Some next → end_from hash s next path ≡ Some end → Covered end) → Covered end
      by_next None e q go = cc
      by_next (Some next) e q go = go next e q

  pub covered : (path : List PathStep) (end : PathEnd) → end_at hash s path ≡ Some end → Covered end
  covered path end h = from_covered path (by_path.at_position (root_standing hash s) s.advert.root) end (λ x k. k) h

  -- the strings of a listed transaction are among the compiled ones
  pub transactions_strings : (ds : List (List PathStep × Unsigned)) (d : List PathStep × Unsigned) (t : List ℕ) → Is_in d ds
      → is_among t (unsigned_strings hash d.1) ≡ true → is_among t (flat_map (λ p. unsigned_strings hash p.1) ds) ≡ true
  transactions_strings [] d t h k = absurd h
  transactions_strings (x ∷ ds) d t (inl e) k =
      subst (λ ts. is_among t ts ≡ true) (sym (flat_map-cons (λ p. unsigned_strings hash p.1) x ds))
      (among_left t (unsigned_strings hash x.1) (flat_map (λ p. unsigned_strings hash p.1) ds)
      (subst (λ (y : List PathStep × Unsigned). is_among t (unsigned_strings hash y.1) ≡ true) e k))
  transactions_strings (x ∷ ds) d t (inr i) k =
      subst (λ ts. is_among t ts ≡ true) (sym (flat_map-cons (λ p. unsigned_strings hash p.1) x ds))
      (among_right t (unsigned_strings hash x.1) (flat_map (λ p. unsigned_strings hash p.1) ds) (transactions_strings ds d t i k))

  pub transactions_labels : (ds : List (List PathStep × Unsigned)) (d : List PathStep × Unsigned) (t : List ℕ) → Is_in d ds
      → is_among t (path_labels s d.0) ≡ true → is_among t (flat_map (λ p. path_labels s p.0) ds) ≡ true
  transactions_labels [] d t h k = absurd h
  transactions_labels (x ∷ ds) d t (inl e) k =
      subst (λ ts. is_among t ts ≡ true) (sym (flat_map-cons (λ p. path_labels s p.0) x ds))
      (among_left t (path_labels s x.0) (flat_map (λ p. path_labels s p.0) ds)
      (subst (λ (y : List PathStep × Unsigned). is_among t (path_labels s y.0) ≡ true) e k))
  transactions_labels (x ∷ ds) d t (inr i) k =
      subst (λ ts. is_among t ts ≡ true) (sym (flat_map-cons (λ p. path_labels s p.0) x ds))
      (among_right t (path_labels s x.0) (flat_map (λ p. path_labels s p.0) ds) (transactions_labels ds d t i k))
