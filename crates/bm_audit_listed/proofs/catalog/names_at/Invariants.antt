use Rattle.std.proofs.Common.{◌≡◌, ◌++◌, drop}
use Rattle.std.specs.List.{flat_map}
use Rattle.bm_audit_listed.specs.Indexed.{name_at}
use Rattle.bm_audit_listed.proofs.catalog.names_at.Given as goal

abbrev pub invariant-loop-place : goal.invariant-loop-place
invariant-loop-place l =
    l.names ++ flat_map (name_at l.candidates l.tx) (drop l.place-index l.places) ≡ flat_map (name_at l.candidates l.tx) l.places
