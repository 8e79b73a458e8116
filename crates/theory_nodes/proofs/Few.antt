-- A contract that a text can spell has few nodes.
use Rattle.std.proofs.Common.{◌≡◌, ℕ, ◌+◌, ◌*◌, ◌≤◌, true, refl, arith}
use Rattle.std.specs.Prelude.{nat_le, ◌&&◌}
use Rattle.std.specs.List.{list_all}
use Rattle.std.proofs.lemmas.Bool.{and_parts}
use Rattle.spec_terms.specs.Term.{Guarded, auth, after, put_reveal, withdraw, split, Contract, no_branch, branch, Parts, no_part, part}
use Rattle.spec_terms.specs.Readable.{is_name, is_readable_count, are_readable, is_readable_branch, are_readable_parts, is_readable_split, is_whole_prefix, is_readable_test, is_readable_contract, count_of, count_under, count_of_parts, most_branches, most_depth, depth_of_choice, is_readable_pre}
use Rattle.spec_terms.specs.Advert.{Advert}
use Rattle.spec_terms.specs.Faults.{IsWellFormed}
use Rattle.spec_data.specs.Ranges.{max_money, last_height}
use Rattle.spec_nodes.specs.Nodes.{branches_count, branch_count, parts_count, choice_count}

-- 1 where there is a branch
abbrev heads : Contract → ℕ
heads no_branch = 0
heads (branch b bs) = 1

one_head : (c : Contract) → is_readable_count c ≡ true → heads c ≡ 1
one_head no_branch r = cc
one_head (branch b bs) r = refl

mutual
  -- at most two nodes for each branch and each one under it, the choice's own node among them where it is not empty
  few_branches : (c : Contract) → are_readable c ≡ true → branches_count c + heads c ≤ 2 * count_of c
  few_branches no_branch r = omega arith
  few_branches (branch b bs) r =
      let p = and_parts (is_readable_branch b) (are_readable bs) r in
      let e = few_under b p.0 in
      let f = few_branches bs p.1 in
      omega (arith, e, f)

  few_under : (b : Guarded) → is_readable_branch b ≡ true → branch_count b ≤ 2 * count_under b + 1
  few_under (auth party body) r = few_under body (and_parts (is_name party) (is_readable_branch body) r).1
  few_under (after height body) r = few_under body (and_parts (nat_le height last_height) (is_readable_branch body) r).1
  few_under (withdraw party) r = omega arith
  few_under (split parts) r =
      let e = few_parts parts (and_parts (is_readable_split parts) (are_readable_parts parts) r).1 in
      omega (arith, e)
  few_under (put_reveal puts reveals test next) r =
      let p = (and_parts (is_whole_prefix puts reveals test && (list_all is_name puts && list_all is_name reveals))
      (is_readable_test test && (is_readable_count next && are_readable next)) r).1 in
      let q = and_parts (is_readable_count next) (are_readable next) (and_parts (is_readable_test test) (is_readable_count next && are_readable next) p).1 in
      let e = few_branches next q.1 in
      let h = one_head next q.0 in
      omega (arith, e, h)

  few_parts : (ps : Parts) → are_readable_parts ps ≡ true → parts_count ps ≤ 2 * count_of_parts ps
  few_parts no_part r = omega arith
  few_parts (part v c ps) r =
      let p = and_parts (nat_le v max_money && (is_readable_count c && are_readable c)) (are_readable_parts ps) r in
      let q = and_parts (is_readable_count c) (are_readable c) (and_parts (nat_le v max_money) (is_readable_count c && are_readable c) p.0).1 in
      let e = few_branches c q.1 in
      let h = one_head c q.0 in
      let f = few_parts ps p.1 in
      omega (arith, e, h, f)

-- a contract that a text can spell has at most 1,024 nodes
few_readable : (root : Contract) → is_readable_contract root ≡ true → choice_count root ≤ 1024
few_readable root r =
    let p = and_parts (is_readable_count root && are_readable root) (nat_le (depth_of_choice root) most_depth && nat_le (count_of root) most_branches) r in
    let q = and_parts (is_readable_count root) (are_readable root) p.0 in
    let m : nat_le (count_of root) 512 ≡ true = (and_parts (nat_le (depth_of_choice root) most_depth) (nat_le (count_of root) most_branches) p.1).1 in
    let most : count_of root ≤ 512 = grind (arith, m) in
    let e = few_branches root q.1 in
    let h = one_head root q.0 in
    omega (arith, e, h, most)

-- a checked contract is one that a text can spell
pub few_nodes : (a : Advert) → IsWellFormed a → choice_count a.root ≤ 1024
few_nodes a check =
    let p = (and_parts (is_readable_pre a.pre) (nat_le a.fee max_money && is_readable_contract a.root) check.readable).1 in
    few_readable a.root (and_parts (nat_le a.fee max_money) (is_readable_contract a.root) p).1
