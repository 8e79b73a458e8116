use Rattle.std.proofs.Common.{◌≡◌, ◌++◌, drop}
use Rattle.spec_text.specs.OutcomeText.{generated_text}
use Rattle.draw_rows.proofs.lines.put_made.Given as goal

abbrev pub invariant-loop-number : goal.invariant-loop-number
invariant-loop-number l =
    l.out.items ++ generated_text (drop l.number-index l.made) ≡ l.initial.out.items ++ generated_text l.made
