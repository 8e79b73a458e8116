use Rattle.std.proofs.Common.{◌≤◌, length}
use Rattle.bm_io.specs.Counts.{RoseBy}
use Rattle.bm_io.proofs.std_files.take_all.Given as goal

abbrev pub invariant-loop-turn : goal.invariant-loop-turn
invariant-loop-turn g l = record {
  few : length l.bytes.items ≤ l.limit;
  turns : l._turn ≤ length l.bytes.items;
  rose : RoseBy (length l.bytes.items) l.initial.taken l.taken;
  later : l.initial.taken ≤ l.taken;
}
