use Rattle.std.proofs.Common.{◌≡◌, ◌++◌, length}
use Rattle.spec_page.specs.Page.{outlooks_from, outlook_texts}
use Rattle.draw_page.specs.Texts.{lines_text}
use Rattle.draw_page.proofs.outlooks.put_others.Given as goal

abbrev pub invariant-loop-row : goal.invariant-loop-row
invariant-loop-row l =
    l.out.items ++ lines_text (outlooks_from l.number l.last (outlook_texts l.rest))
    ≡ l.initial.out.items ++ lines_text (outlooks_from 1 l.text (outlook_texts l.rows))

abbrev pub decreases-loop-row : goal.decreases-loop-row
decreases-loop-row l = length l.rest
