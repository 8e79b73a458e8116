use Rattle.std.proofs.Common.{◌≡◌, ◌-◌, ◌++◌}
use Rattle.spec_text.specs.Generator.{draw_bytes}
use Rattle.bm_make.proofs.draws.Draws.push_bytes.Given as goal

abbrev pub invariant-loop-i : goal.invariant-loop-i
invariant-loop-i l = record {
  bytes : l.bytes.items ++ (draw_bytes (l.count - l.i) l.self.state).0
      ≡ l.initial.bytes.items ++ (draw_bytes l.count l.initial.self.state).0;
  state : (draw_bytes (l.count - l.i) l.self.state).1 ≡ (draw_bytes l.count l.initial.self.state).1;
}
