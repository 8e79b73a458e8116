use Rattle.std.proofs.Common.{◌≡◌, ◌++◌, drop}
use Rattle.std.specs.List.{flat_map}
use Rattle.bm_audit_listed.specs.Parts.{path_missing}
use Rattle.bm_audit_listed.proofs.lacking.put_paths.Given as goal

abbrev pub invariant-loop-path : goal.invariant-loop-path
invariant-loop-path g l =
    l.missing ++ flat_map (path_missing (g.H.Hash32.digest_of l.hasher) l.book l.contract l.checked) (drop l.path-index l.paths)
    ≡ l.initial.missing ++ flat_map (path_missing (g.H.Hash32.digest_of l.hasher) l.book l.contract l.checked) l.paths
