use Rattle.std.proofs.Common.{◌≡◌, ◌+◌, ◌++◌, drop}
use Rattle.spec_page.specs.Timeline.{later_looks, looks_of}
use Rattle.draw_page.proofs.looks.statuses_text.Given as goal

abbrev pub invariant-loop-index : goal.invariant-loop-index
invariant-loop-index l =
    l.text.items ++ later_looks (l.index + 1) l.last (looks_of l.part (drop l.index l.others))
    ≡ l.initial.text.items ++ later_looks 1 l.initial.last (looks_of l.part l.others)
