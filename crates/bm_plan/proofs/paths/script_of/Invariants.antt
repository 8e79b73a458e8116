use Rattle.std.proofs.Common.{◌≡◌, drop}
use Rattle.theory_script.specs.Listed.{at_path}
use Rattle.bm_plan.proofs.paths.script_of.Given as goal

abbrev pub invariant-loop-known : goal.invariant-loop-known
invariant-loop-known l = at_path l.position (drop l.known-index l.scripts) ≡ at_path l.position l.scripts
