-- The steps of all paths of a contract that can be read have numbers of four bytes.
use Rattle.std.proofs.Common.{◌≡◌, ℕ, ◌+◌, ◌≤◌, ◌^◌, List, [], ◌∷◌, ◌++◌, map, length, subst, sym, arith}
use Rattle.std.specs.Prelude.{◌&&◌, nat_le, true}
use Rattle.std.specs.List.{AllByRecursion}
use Rattle.std.proofs.lemmas.Bool.{and_parts}
use Rattle.std.proofs.lemmas.Bool.Decides.{nat_tests}
use Rattle.spec_data.specs.Ranges.{max_money}
use Rattle.spec_terms.specs.Term.{Guarded, Contract, no_branch, branch, branches, Parts, no_part, part, parts_list}
use Rattle.spec_terms.specs.Term.{auth, after, put_reveal, withdraw, split}
use Rattle.spec_terms.specs.Advert.{Advert}
use Rattle.spec_terms.specs.Faults.{IsWellFormed}
use Rattle.spec_terms.specs.Paths.{Subterm, position, at_branch}
use Rattle.spec_terms.specs.Order.{Located, branches_from, under, parts_from, in_order, branch_paths_of, position_paths_of}
use Rattle.spec_terms.specs.Order.{if_branch, if_position, branch_paths, position_paths}
use Rattle.spec_terms.specs.Readable.{is_readable_count, are_readable, is_readable_branch, is_readable_split, is_readable_test}
use Rattle.spec_terms.specs.Readable.{are_readable_parts}
use Rattle.spec_terms.specs.Readable.{is_readable_contract, most_choices, most_parts, is_some_list}
use Rattle.spec_terms.specs.declared.path.PathStep.{PathStep}
use Rattle.spec_terms.specs.declared.path.PathStep.TheVariants.{Branch as To, Part as Into}
use Rattle.spec_bitcoin.specs.Keys.{IsStep}

abbrev pub IsSmall : List PathStep → Type 0
IsSmall path = AllByRecursion IsStep path

abbrev AreSmall : List Located → Type 0
AreSmall xs = AllByRecursion (λ (x : Located). IsSmall x.path) xs

longer : (q : List PathStep) (s : PathStep) → IsSmall q → IsStep s → IsSmall (q ++ s ∷ [])
longer [] s h k = (k, tt)
longer (t ∷ q) s h k = (h.0, longer q s h.1 k)

both : (xs ys : List Located) → AreSmall xs → AreSmall ys → AreSmall (xs ++ ys)
both [] ys h k = k
both (x ∷ xs) ys h k = (h.0, both xs ys h.1 k)

pub few_branches : (c : Contract) → is_readable_count c ≡ true → 0 + length (branches c) ≤ 2 ^ 32
few_branches c h =
    let m = (and_parts (is_some_list (branches c)) (nat_le (length (branches c)) most_choices) h).1 in grind (arith, nat_tests, m)

few_parts : (ps : Parts) → is_readable_split ps ≡ true → 0 + length (parts_list ps) ≤ 2 ^ 32
few_parts ps h =
    let m = (and_parts (is_some_list (parts_list ps)) (nat_le (length (parts_list ps)) most_parts) h).1 in grind (arith, nat_tests, m)

mutual
  branches_small : (q : List PathStep) (i : ℕ) (c : Contract) → IsSmall q → are_readable c ≡ true → i + length (branches c) ≤ 2 ^ 32
      → AreSmall (branches_from q i c)
  branches_small q i no_branch h r few = tt
  branches_small q i (branch b bs) h r few =
      let p = q ++ To i ∷ [] in
      let small = longer q (To i) h (omega (arith, few)) in
      let e = and_parts (is_readable_branch b) (are_readable bs) r in
      let later = branches_small q (i + 1) bs h e.1 (omega (arith, few)) in
      (small, both (under p b) (branches_from q (i + 1) bs) (under_small p b small e.0) later)

  under_small : (p : List PathStep) (b : Guarded) → IsSmall p → is_readable_branch b ≡ true → AreSmall (under p b)
  under_small p (auth party body) h r = under_small p body h (and_parts _ (is_readable_branch body) r).1
  under_small p (after height body) h r = under_small p body h (and_parts _ (is_readable_branch body) r).1
  under_small p (put_reveal puts reveals test next) h r =
      let a = and_parts _ (is_readable_test test && (is_readable_count next && are_readable next)) r in
      let e = and_parts (is_readable_count next) (are_readable next)
      (and_parts (is_readable_test test) (is_readable_count next && are_readable next) a.1).1 in
      (h, branches_small p 0 next h e.1 (few_branches next e.0))
  under_small p (withdraw party) h r = tt
  under_small p (split parts) h r =
      let e = and_parts (is_readable_split parts) (are_readable_parts parts) r in
      parts_small p 0 parts h e.1 (few_parts parts e.0)

  parts_small : (p : List PathStep) (k : ℕ) (ps : Parts) → IsSmall p → are_readable_parts ps ≡ true → k + length (parts_list ps) ≤ 2 ^ 32
      → AreSmall (parts_from p k ps)
  parts_small p k no_part h r few = tt
  parts_small p k (part v c ps) h r few =
      let q = p ++ Into k ∷ [] in
      let a = and_parts (nat_le v max_money && (is_readable_count c && are_readable c)) (are_readable_parts ps) r in
      let e = and_parts (is_readable_count c) (are_readable c)
      (and_parts (nat_le v max_money) (is_readable_count c && are_readable c) a.0).1 in
      let small = longer p (Into k) h (omega (arith, few)) in
      let later = parts_small p (k + 1) ps h a.1 (omega (arith, few)) in
      (small, both (branches_from q 0 c) (parts_from p (k + 1) ps) (branches_small q 0 c small e.1 (few_branches c e.0)) later)

-- what stands in the order of a checked contract's text
all_small : (a : Advert) → IsWellFormed a → AreSmall (in_order a.root)
all_small a h =
    let r = and_parts _ (nat_le a.fee max_money && is_readable_contract a.root) h.readable in
    let c = (and_parts (nat_le a.fee max_money) (is_readable_contract a.root) r.1).1 in
    let f = (and_parts (is_readable_count a.root && are_readable a.root) _ c).0 in
    let e = and_parts (is_readable_count a.root) (are_readable a.root) f in
    (tt, branches_small [] 0 a.root tt e.1 (few_branches a.root e.0))

branches_of : (xs : List Located) → AreSmall xs → AllByRecursion IsSmall (branch_paths_of xs)
branches_of [] h = tt
branches_of (x ∷ xs) h = by_spot x.subterm (branches_of xs h.1)
  where
    by_spot : (t : Subterm) → AllByRecursion IsSmall (branch_paths_of xs) → AllByRecursion IsSmall (if_branch t x.path (branch_paths_of xs))
    by_spot (position c) later = later
    by_spot (at_branch b) later = (h.0, later)

positions_of : (xs : List Located) → AreSmall xs → AllByRecursion IsSmall (position_paths_of xs)
positions_of [] h = tt
positions_of (x ∷ xs) h = by_spot x.subterm (positions_of xs h.1)
  where
    by_spot : (t : Subterm) → AllByRecursion IsSmall (position_paths_of xs)
        → AllByRecursion IsSmall (if_position t x.path (position_paths_of xs))
    by_spot (position c) later = (h.0, later)
    by_spot (at_branch b) later = later

-- all paths of its branches, and those of its positions
pub branches_are_small : (a : Advert) → IsWellFormed a → AllByRecursion IsSmall (branch_paths a.root)
branches_are_small a h = branches_of (in_order a.root) (all_small a h)

pub positions_are_small : (a : Advert) → IsWellFormed a → AllByRecursion IsSmall (position_paths a.root)
positions_are_small a h = positions_of (in_order a.root) (all_small a h)

-- of a list by paths
module _ {V : Type 0} where
  each_path : (xs : List (List PathStep × V)) → AllByRecursion IsSmall (map {B = List PathStep} (λ (x : List PathStep × V). x.0) xs)
      → AllByRecursion (λ (x : List PathStep × V). IsSmall (x.0)) xs
  each_path [] k = tt
  each_path (x ∷ xs) k = (k.0, each_path xs k.1)

  pub by_paths : (xs : List (List PathStep × V)) (paths : List (List PathStep))
      → map {B = List PathStep} (λ (x : List PathStep × V). x.0) xs ≡ paths → AllByRecursion IsSmall paths
      → AllByRecursion (λ (x : List PathStep × V). IsSmall (x.0)) xs
  by_paths xs paths e h = each_path xs (subst (AllByRecursion IsSmall) (sym e) h)
