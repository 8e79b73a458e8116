use Rattle.bm_syntax.specs.View.{guarded, contract, choice_view, parts_view}
use Rattle.spec_text.specs.ReadContract.{choice_with, branch_at}
use Rattle.bm_reader.proofs.BranchStep.{branch_step, part_step}
use Rattle.bm_reader.proofs.branch.+reading.Goals as goal

pub branches_of-returns : goal.branches_of-returns
branches_of-returns t c =
    rw (c.in_ok-branch_before.ensures, c.in_ok-first-2.ensures)
    (branch_step (branch_at c.args.depth) c.args.depth c.args.more c.args.budget c.args.lexemes.now c.in_ok-first.rest.now
    c.in_ok-goes_on.rest.now c.in_ok-others.rest.now (guarded c.in_ok-first.first) c.in_ok-first.left
    (choice_view c.in_ok-others.others.items) c.in_ok-others.left
    c.if-more-eq0.false c.in_ok-first.ensures (rw c.if-not-goes_on.false at c.in_ok-goes_on.ensures) c.in_ok-others.ensures)

pub parts_of-returns : goal.parts_of-returns
parts_of-returns t c =
    rw c.in_ok-part_before.ensures
    (part_step (choice_with (branch_at c.args.depth) c.args.depth) c.args.more c.args.budget c.args.lexemes.now c.in_ok-value.rest.now
    c.in_ok-rest.rest.now c.in_ok-next.rest.now c.in_ok-goes_on.rest.now c.in_ok-others.rest.now c.in_ok-value.value (contract c.in_ok-next.next)
    c.in_ok-next.left (parts_view c.in_ok-others.others.items) c.in_ok-others.left c.if-more-eq0.false c.in_ok-value.ensures
    c.in_ok-rest.ensures c.in_ok-next.ensures (rw c.if-not-goes_on.false at c.in_ok-goes_on.ensures) c.in_ok-others.ensures)
