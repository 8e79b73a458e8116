use Rattle.std.proofs.Common.{◌≡◌, ◌+◌, drop}
use Rattle.spec_page.specs.Page.{outlook_texts}
use Rattle.spec_page.specs.Timeline.{next_change}
use Rattle.draw_page.proofs.outlooks.next_change.Given as goal

abbrev pub invariant-loop-index : goal.invariant-loop-index
invariant-loop-index l =
    next_change (l.number + l.index) l.text (outlook_texts (drop l.index l.rows)) ≡ next_change l.number l.text (outlook_texts l.rows)
