use Rattle.std.proofs.Common.{◌≡◌, ◌++◌, drop}
use Rattle.spec_text.specs.Canonical.{each_after}
use Rattle.draw_rows.proofs.words.put_each_after.Given as goal

abbrev pub invariant-loop-text : goal.invariant-loop-text
invariant-loop-text l =
    l.out.items ++ each_after l.between (drop l.text-index l.texts) ≡ l.initial.out.items ++ each_after l.between l.texts
