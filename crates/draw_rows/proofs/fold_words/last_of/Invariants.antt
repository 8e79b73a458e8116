use Rattle.std.proofs.Common.{◌≡◌, drop, map}
use Rattle.spec_run.specs.Translation.{last_or}
use Rattle.draw_rows.specs.Turns.{turn_of}
use Rattle.draw_rows.proofs.fold_words.last_of.Given as goal

abbrev pub invariant-loop-other : goal.invariant-loop-other
invariant-loop-other l =
    last_or (turn_of l.last) (map turn_of (drop l.other-index l.others)) ≡ last_or (turn_of l.entry) (map turn_of l.others)
