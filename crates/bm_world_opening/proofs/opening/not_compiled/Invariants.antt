use Rattle.std.proofs.Common.{◌≡◌, ◌++◌, drop, take}
use Rattle.std.specs.List.{AllByRecursion}
use Rattle.spec_terms.specs.Faults.{IsWellFormed}
use Rattle.bm_world_opening.specs.Opening.{none_compiled}
use Rattle.bm_world_opening.proofs.opening.not_compiled.Given as goal

abbrev pub invariant-loop-contract : goal.invariant-loop-contract
invariant-loop-contract l = record {
  compiled : l.compiled ++ none_compiled (drop l.contract-index l.contracts) ≡ none_compiled l.contracts;
  checked : AllByRecursion IsWellFormed (take l.contract-index l.contracts);
}
