use Rattle.spec_compiler.specs.Keyed.Keys.{by_plan}
use Rattle.theory_script.proofs.Keyed.InOrder.{paths_in_order, scripts_in_order}
use Rattle.theory_script.proofs.Once.{branches_once, positions_once}
use Rattle.theory_script.proofs.paths_in_order.Goals as goal

pub returns : goal.returns
returns c = λ hash s. record {
  paths = paths_in_order hash by_plan s;
  paths_once = branches_once s.advert.root;
  scripts = scripts_in_order hash by_plan s;
  scripts_once = positions_once s.advert.root;
}
