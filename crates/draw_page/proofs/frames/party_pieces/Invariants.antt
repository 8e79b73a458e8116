use Rattle.std.proofs.Common.{◌≡◌, ◌++◌, drop}
use Rattle.spec_page.specs.Cells.{each_from}
use Rattle.spec_page.specs.Page.{party_piece}
use Rattle.draw_page.specs.Texts.{each_text}
use Rattle.draw_page.proofs.frames.party_pieces.Given as goal

abbrev pub invariant-loop-column : goal.invariant-loop-column
invariant-loop-column l =
    l.text.items ++ each_text (each_from (party_piece l.money) l.column (drop l.column l.parties))
    ≡ each_text (each_from (party_piece l.money) 0 l.parties)
