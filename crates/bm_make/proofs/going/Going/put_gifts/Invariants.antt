use Rattle.std.proofs.Common.{◌≡◌, ◌≤◌, ◌+◌, ◌*◌, ◌-◌, ◌++◌}
use Rattle.spec_text.specs.Generator.{gifts}
use Rattle.bm_make.specs.Lines.{lines}
use Rattle.bm_make.proofs.going.Going.put_gifts.Given as goal

abbrev pub invariant-loop-i : goal.invariant-loop-i
invariant-loop-i l = record {
  told : l.out.items ++ lines ((gifts (l.count - l.i) l.self).0)
      ≡ l.initial.out.items ++ lines ((gifts l.count l.initial.self).0);
  going : (gifts (l.count - l.i) l.self).1 ≡ (gifts l.count l.initial.self).1;
  next : l.self.next ≤ l.initial.self.next + 2 * l.i;
}
