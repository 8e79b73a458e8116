-- The steps of the paths of a contract that can be read have numbers of 4 bytes.
use Rattle.std.proofs.Common.{◌≡◌, ℕ, ◌+◌, ◌≤◌, ◌^◌, List, [], ◌∷◌, ◌++◌, length, true, sym, subst, arith}
use Rattle.std.specs.Prelude.{◌&&◌, nat_le}
use Rattle.std.specs.List.{AllByRecursion}
use Rattle.std.proofs.lemmas.Bool.{and_parts}
use Rattle.std.proofs.lemmas.Bool.Decides.{nat_tests}
use Rattle.spec_data.specs.Ranges.{max_money}
use Rattle.spec_terms.specs.Term.{Guarded, Contract, no_branch, branch, branches, Parts, no_part, part, parts_list}
use Rattle.spec_terms.specs.Term.{auth, after, put_reveal, withdraw, split}
use Rattle.spec_terms.specs.Advert.{Advert}
use Rattle.spec_terms.specs.Faults.{IsWellFormed}
use Rattle.spec_terms.specs.Order.{Located, branches_from, under, parts_from, branch_paths_of, branch_paths}
use Rattle.spec_terms.specs.Readable.{is_readable_count, are_readable, is_readable_branch, is_readable_split, is_readable_test, are_readable_parts}
use Rattle.spec_terms.specs.Readable.{is_readable_contract, most_choices, most_parts}
use Rattle.spec_terms.specs.declared.path.PathStep.{PathStep}
use Rattle.spec_terms.specs.declared.path.PathStep.TheVariants.{Branch as To, Part as Into}
use Rattle.spec_bitcoin.specs.Keys.{IsStep}
use Rattle.theory_page.proofs.Shown.{branch_paths_of-append}

-- the steps of a path are small, and of each of these
abbrev pub IsSmall : List PathStep → Type 0
IsSmall path = AllByRecursion IsStep path

abbrev pub AreSmall : List (List PathStep) → Type 0
AreSmall paths = AllByRecursion IsSmall paths

longer : (q : List PathStep) (s : PathStep) → IsSmall q → IsStep s → IsSmall (q ++ s ∷ [])
longer [] s h k = (k, tt)
longer (t ∷ q) s h k = (h.0, longer q s h.1 k)

both : (ps qs : List (List PathStep)) → AreSmall ps → AreSmall qs → AreSmall (ps ++ qs)
both [] qs h k = k
both (p ∷ ps) qs h k = (h.0, both ps qs h.1 k)

-- the branches among both lists
joined : (xs ys : List Located) → AreSmall (branch_paths_of xs) → AreSmall (branch_paths_of ys) → AreSmall (branch_paths_of (xs ++ ys))
joined xs ys h k = subst AreSmall (sym (branch_paths_of-append xs ys)) (both _ _ h k)

few_branches : (c : Contract) → is_readable_count c ≡ true → 0 + length (branches c) ≤ 2 ^ 32
few_branches c h = let m = (and_parts _ (nat_le (length (branches c)) most_choices) h).1 in grind (arith, nat_tests, m)

few_parts : (ps : Parts) → is_readable_split ps ≡ true → 0 + length (parts_list ps) ≤ 2 ^ 32
few_parts ps h = let m = (and_parts _ (nat_le (length (parts_list ps)) most_parts) h).1 in grind (arith, nat_tests, m)

mutual
  branches_small : (q : List PathStep) (i : ℕ) (c : Contract) → IsSmall q → are_readable c ≡ true → i + length (branches c) ≤ 2 ^ 32
      → AreSmall (branch_paths_of (branches_from q i c))
  branches_small q i no_branch h r few = tt
  branches_small q i (branch b bs) h r few =
      let p = q ++ To i ∷ [] in
      let small = longer q (To i) h (omega (arith, few)) in
      let e = and_parts (is_readable_branch b) (are_readable bs) r in
      (small, joined (under p b) (branches_from q (i + 1) bs) (under_small p b small e.0) (branches_small q (i + 1) bs h e.1 (omega (arith, few))))

  under_small : (p : List PathStep) (b : Guarded) → IsSmall p → is_readable_branch b ≡ true → AreSmall (branch_paths_of (under p b))
  under_small p (auth party body) h r = under_small p body h (and_parts _ (is_readable_branch body) r).1
  under_small p (after height body) h r = under_small p body h (and_parts _ (is_readable_branch body) r).1
  under_small p (put_reveal puts reveals test next) h r =
      let a = and_parts _ (is_readable_test test && (is_readable_count next && are_readable next)) r in
      let e = and_parts (is_readable_count next) (are_readable next)
      (and_parts (is_readable_test test) (is_readable_count next && are_readable next) a.1).1 in
      branches_small p 0 next h e.1 (few_branches next e.0)
  under_small p (withdraw party) h r = tt
  under_small p (split parts) h r =
      let e = and_parts (is_readable_split parts) (are_readable_parts parts) r in
      parts_small p 0 parts h e.1 (few_parts parts e.0)

  parts_small : (p : List PathStep) (k : ℕ) (ps : Parts) → IsSmall p → are_readable_parts ps ≡ true → k + length (parts_list ps) ≤ 2 ^ 32
      → AreSmall (branch_paths_of (parts_from p k ps))
  parts_small p k no_part h r few = tt
  parts_small p k (part v c ps) h r few =
      let q = p ++ Into k ∷ [] in
      let a = and_parts (nat_le v max_money && (is_readable_count c && are_readable c)) (are_readable_parts ps) r in
      let e = and_parts (is_readable_count c) (are_readable c)
      (and_parts (nat_le v max_money) (is_readable_count c && are_readable c) a.0).1 in
      let small = longer p (Into k) h (omega (arith, few)) in
      joined (branches_from q 0 c) (parts_from p (k + 1) ps) (branches_small q 0 c small e.1 (few_branches c e.0))
      (parts_small p (k + 1) ps h a.1 (omega (arith, few)))

-- all paths of a checked contract
pub paths_small : (a : Advert) → IsWellFormed a → AreSmall (branch_paths a.root)
paths_small a h =
    let r = and_parts _ (nat_le a.fee max_money && is_readable_contract a.root) h.readable in
    let c = (and_parts (nat_le a.fee max_money) (is_readable_contract a.root) r.1).1 in
    let f = (and_parts (is_readable_count a.root && are_readable a.root) _ c).0 in
    let e = and_parts (is_readable_count a.root) (are_readable a.root) f in
    branches_small [] 0 a.root tt e.1 (few_branches a.root e.0)
