use Rattle.std.proofs.Common.{◌≡◌, take}
use Rattle.std.specs.List.{AllByRecursion}
use Rattle.spec_terms.specs.Faults.{IsWellFormed}
use Rattle.bm_calculus.proofs.state.copies.Given as goal

abbrev pub invariant-loop-contract : goal.invariant-loop-contract
invariant-loop-contract l = record {
  told : l.held.items ≡ take l.contract-index l.contracts;
  checked : AllByRecursion IsWellFormed (take l.contract-index l.contracts);
}
