use Rattle.std.proofs.Common.{◌≡◌, drop}
use Rattle.theory_script.specs.Listed.{at_path}
use Rattle.bm_compile.proofs.finding.find_path.Given as goal

abbrev pub invariant-loop-known : goal.invariant-loop-known
invariant-loop-known t l = at_path l.path (drop l.known-index l.entries) ≡ at_path l.path l.entries
