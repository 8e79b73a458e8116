use Rattle.std.proofs.Common.{◌≡◌, ◌++◌, map, drop}
use Rattle.deal_compile.specs.Keyed.{script_pair}
use Rattle.deal_compile.proofs.keys.named_scripts.Given as goal

abbrev pub invariant-loop-name : goal.invariant-loop-name
invariant-loop-name l = map script_pair l.index ++ drop l.name-index l.scripts ≡ l.scripts
