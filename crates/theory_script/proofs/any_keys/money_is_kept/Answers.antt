use Rattle.theory_script.proofs.Keyed.Money as proofs
use Rattle.theory_script.proofs.any_keys.money_is_kept.Goals as goal

pub returns : goal.returns
returns c = λ hash keys s well. record {
  initial = proofs.initial_kept hash keys s well;
  paths = proofs.paths_kept hash keys s well;
  static = proofs.positions_static hash keys s well;
  positions = proofs.positions_pay hash keys s well;
}
