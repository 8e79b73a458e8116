use Rattle.std.proofs.Common.{◌≡◌, ◌++◌, drop}
use Rattle.bm_syntax.specs.View.{choice_view, parts_view}
use Rattle.spec_page.specs.Ways.{branches_rows, parts_rows}
use Rattle.draw_rows.proofs.ways.+walk.Given as goal

abbrev pub invariant-put_branches-loop-branch : goal.invariant-put_branches-loop-branch
invariant-put_branches-loop-branch l =
    l.rows ++ branches_rows l.advert l.position l.depth l.part l.value l.number (choice_view (drop l.branch-index l.branches))
    ≡ l.initial.rows ++ branches_rows l.advert l.position l.depth l.part l.value 0 (choice_view l.branches)

abbrev pub invariant-put_parts-loop-part : goal.invariant-put_parts-loop-part
invariant-put_parts-loop-part l =
    l.rows ++ parts_rows l.advert l.path l.depth l.number (parts_view (drop l.part-index l.parts))
    ≡ l.initial.rows ++ parts_rows l.advert l.path l.depth 0 (parts_view l.parts)
