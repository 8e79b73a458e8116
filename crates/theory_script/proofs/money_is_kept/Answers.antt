use Rattle.spec_compiler.specs.Keyed.Keys.{by_plan}
use Rattle.theory_script.proofs.Keyed.Money as proofs
use Rattle.theory_script.proofs.money_is_kept.Goals as goal

pub returns : goal.returns
returns c = λ hash s well. record {
  initial = proofs.initial_kept hash by_plan s well;
  paths = proofs.paths_kept hash by_plan s well;
  static = proofs.positions_static hash by_plan s well;
  positions = proofs.positions_pay hash by_plan s well;
}
