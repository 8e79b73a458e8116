use Rattle.std.proofs.Common.{◌≡◌, ◌++◌, drop}
use Rattle.draw_rows.proofs.awaited.put_all.Given as goal

abbrev pub invariant-loop-requirement : goal.invariant-loop-requirement
invariant-loop-requirement l =
    l.lacks ++ drop l.requirement-index l.more ≡ l.initial.lacks ++ l.more
