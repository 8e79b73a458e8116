use Rattle.std.proofs.Common.{◌≡◌, drop}
use Rattle.std.specs.List.{list_any}
use Rattle.spec_tool.specs.Listed.{same_which}
use Rattle.bm_audit_listed.proofs.absence.is_among.Given as goal

abbrev pub invariant-loop-name : goal.invariant-loop-name
invariant-loop-name l = list_any (same_which l.which) (drop l.name-index l.names) ≡ list_any (same_which l.which) l.names
