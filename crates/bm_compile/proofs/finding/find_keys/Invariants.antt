use Rattle.std.proofs.Common.{◌≡◌, drop}
use Rattle.theory_script.specs.Listed.{at_path}
use Rattle.bm_compile.specs.Numbered.{keyed_paths}
use Rattle.bm_compile.proofs.finding.find_keys.Given as goal

-- what the rest has for the path is what all has
abbrev pub invariant-loop-known : goal.invariant-loop-known
invariant-loop-known l = at_path l.path (keyed_paths (drop l.known-index l.entries) l.rest) ≡ at_path l.path (keyed_paths l.entries l.table)
