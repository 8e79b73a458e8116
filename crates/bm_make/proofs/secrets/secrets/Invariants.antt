use Rattle.std.proofs.Common.{◌≡◌, ◌+◌, ◌-◌, ◌++◌, length}
use Rattle.spec_text.specs.Generator.{draw_secrets}
use Rattle.bm_make.proofs.secrets.secrets.Given as goal

abbrev pub invariant-loop-i : goal.invariant-loop-i
invariant-loop-i l = record {
  list : l.list.items ++ (draw_secrets (l.size - l.i) (l.i + 1) l.draws.state).0 ≡ (draw_secrets l.size 1 l.initial.draws.state).0;
  state : (draw_secrets (l.size - l.i) (l.i + 1) l.draws.state).1 ≡ (draw_secrets l.size 1 l.initial.draws.state).1;
  count : length l.list.items ≡ l.i;
}
