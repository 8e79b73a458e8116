use Rattle.std.proofs.Common.{◌≡◌, ◌++◌, drop, map}
use Rattle.bm_audit_listed.specs.Parts.{path_candidate}
use Rattle.bm_audit_listed.proofs.entries.add_paths.Given as goal

abbrev pub invariant-loop-path : goal.invariant-loop-path
invariant-loop-path l = l.all.items ++ map path_candidate (drop l.path-index l.paths) ≡ l.initial.all.items ++ map path_candidate l.paths
