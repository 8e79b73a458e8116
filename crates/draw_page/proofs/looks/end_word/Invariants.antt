use Rattle.std.proofs.Common.{◌≡◌, drop, map, codes}
use Rattle.spec_run.specs.Translation.{last_or}
use Rattle.spec_page.specs.Timeline.{status_word, looks_of}
use Rattle.draw_page.proofs.looks.end_word.Given as goal

abbrev pub invariant-loop-row : goal.invariant-loop-row
invariant-loop-row l =
    last_or l.word (map status_word (looks_of l.part (drop l.row-index l.rows))) ≡ last_or (codes "open") (map status_word (looks_of l.part l.rows))
