use Rattle.std.proofs.Common.{◌≡◌, drop, map}
use Rattle.std.specs.List.{list_all}
use Rattle.spec_page.specs.Folds.{are_equal}
use Rattle.draw_rows.specs.Turns.{turn_of}
use Rattle.draw_rows.proofs.folds.are_plain.Given as goal

abbrev pub invariant-loop-other : goal.invariant-loop-other
invariant-loop-other l =
    list_all (λ t. are_equal (turn_of l.entry) t) (map turn_of (drop l.other-index l.others))
    ≡ list_all (λ t. are_equal (turn_of l.entry) t) (map turn_of l.others)
