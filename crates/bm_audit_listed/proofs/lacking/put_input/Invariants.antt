use Rattle.std.proofs.Common.{◌≡◌, ◌++◌, drop}
use Rattle.std.specs.List.{flat_map}
use Rattle.bm_audit_listed.specs.Parts.{missing_label}
use Rattle.bm_audit_listed.proofs.lacking.put_input.Given as goal

abbrev pub invariant-loop-label : goal.invariant-loop-label
invariant-loop-label g l =
    l.missing ++ flat_map (missing_label (g.H.Hash32.digest_of l.hasher) l.book l.which l.input l.digest) (drop l.label-index l.labels)
    ≡ l.initial.missing ++ flat_map (missing_label (g.H.Hash32.digest_of l.hasher) l.book l.which l.input l.digest) l.labels
