use Rattle.std.proofs.Common.{◌≡◌, ◌++◌, map, drop}
use Rattle.deal_compile.specs.Keyed.{pair_of}
use Rattle.deal_compile.proofs.keys.indexed.Given as goal

abbrev pub invariant-loop-label : goal.invariant-loop-label
invariant-loop-label l = map pair_of l.index ++ drop l.label-index l.keys ≡ l.keys
