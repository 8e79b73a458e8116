use Rattle.std.proofs.Common.{◌≡◌, ◌*◌, ◌^◌, ◌≤◌, take}
use Rattle.spec_calculus.specs.Moves.{value_in}
use Rattle.bm_calculus.proofs.moves.value_in.Given as goal

abbrev pub invariant-loop-input : goal.invariant-loop-input
invariant-loop-input l = record {
  told : l.total ≡ value_in l.deposits (take l.input-index l.inputs);
  few : l.total ≤ 2 ^ 64 * l.input-index;
}
