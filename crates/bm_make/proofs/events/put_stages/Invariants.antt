use Rattle.std.proofs.Common.{◌≡◌, ◌≤◌, ◌+◌, ◌*◌, ◌-◌, ◌++◌}
use Rattle.bm_make.specs.Lines.{lines}
use Rattle.bm_make.specs.Stages.{stages_with}
use Rattle.bm_make.proofs.events.put_stages.Given as goal

abbrev pub invariant-loop-i : goal.invariant-loop-i
invariant-loop-i l = record {
  told : l.out.items ++ lines (stages_with l.gifts (l.size - l.i) (l.i + 1) l.going)
      ≡ l.initial.out.items ++ lines (stages_with l.gifts l.size 1 l.initial.going);
  next : l.going.next ≤ l.initial.going.next + 601 * l.i;
}
