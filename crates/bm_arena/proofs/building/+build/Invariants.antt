use Rattle.std.proofs.Common.{◌≡◌, ◌+◌, ◌++◌, length, map, drop}
use Rattle.bm_syntax.specs.View.{guarded, part_view, choice_of, parts_of}
use Rattle.spec_nodes.specs.Nodes.{branches_count, parts_count, branches_nodes, parts_nodes, branch_numbers, part_numbers}
use Rattle.bm_arena.proofs.building.+build.Given as goal

-- what is there, and what the branches that are left give, is what all of them give
abbrev pub invariant-put_branches-loop-i : goal.invariant-put_branches-loop-i
invariant-put_branches-loop-i l =
    let rest = choice_of (map guarded (drop l.i l.branches)) in
    let all = choice_of (map guarded l.branches) in
    record {
      made : l.arena ++ branches_nodes l.position l.i (length l.arena) rest
          ≡ l.initial.arena ++ branches_nodes l.position 0 (length l.initial.arena) all;
      count : length l.arena + branches_count rest ≡ length l.initial.arena + branches_count all;
      numbers : l.numbers.items ++ branch_numbers (length l.arena) rest ≡ branch_numbers (length l.initial.arena) all;
    }

abbrev pub invariant-put_parts-loop-k : goal.invariant-put_parts-loop-k
invariant-put_parts-loop-k l =
    let rest = parts_of (map part_view (drop l.k l.parts)) in
    let all = parts_of (map part_view l.parts) in
    record {
      made : l.arena ++ parts_nodes l.path l.k (length l.arena) rest
          ≡ l.initial.arena ++ parts_nodes l.path 0 (length l.initial.arena) all;
      count : length l.arena + parts_count rest ≡ length l.initial.arena + parts_count all;
      numbers : l.numbers.items ++ part_numbers (length l.arena) rest ≡ part_numbers (length l.initial.arena) all;
    }
