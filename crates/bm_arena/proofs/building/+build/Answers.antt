use Rattle.std.proofs.Common.{arith, map}
use Rattle.std.proofs.lemmas.List.{length-map}
use Rattle.bm_syntax.specs.View.{guarded, part_view, contract, parts_of}
use Rattle.bm_arena.proofs.Built.{as_many_branches, as_many_parts, choice_made, split_made}
use Rattle.bm_arena.proofs.building.+build.Goals as goal

pub put_branches-overflow_cast-i : goal.put_branches-overflow_cast-i
put_branches-overflow_cast-i t c =
    let branches = c.args.branches.now in
    omega (arith, as_many_branches (map guarded branches), length-map branches guarded, c.loop-i-test.true, c.requires)

pub put_parts-overflow_cast-k : goal.put_parts-overflow_cast-k
put_parts-overflow_cast-k t c =
    let parts = c.args.parts.now in
    omega (arith, as_many_parts (map part_view parts), length-map parts part_view, c.loop-k-test.true, c.requires)

pub put_choice-returns-clause-made : goal.put_choice-returns-clause-made
put_choice-returns-clause-made t c =
    choice_made c.args.arena.now c.put_place.new.arena c.put_branches.new.arena c.set.new.self _
    c.args.position.now (contract c.args.choice.now) c.len-number.result c.in_ok-branches.branches.items
    c.len-number.ensures c.in_ok-put_place.ensures
    (rw c.deref.ensures.value at c.in_ok-branches.ensures.made)
    (rw c.deref.ensures.value at c.in_ok-branches.ensures.numbers)
    (rw c.in_ok-copy.ensures at c.set.ensures)

pub put_split-returns-clause-made : goal.put_split-returns-clause-made
put_split-returns-clause-made t c =
    split_made c.args.arena.now c.put_place.new.arena c.put_parts.new.arena c.set.new.self _
    c.args.path.now c.args.asked.items c.args.height (parts_of (map part_view c.args.parts.now))
    c.len-number.result c.in_ok-numbers.numbers.items
    c.len-number.ensures c.in_ok-put_place.ensures c.in_ok-numbers.ensures.made c.in_ok-numbers.ensures.numbers
    (rw c.in_ok-copy.ensures at c.set.ensures)
