use Rattle.std.proofs.Common.{◌≡◌, ◌++◌, drop}
use Rattle.std.specs.List.{flat_map}
use Rattle.spec_tool.specs.AuditText.{missing_line}
use Rattle.bm_audit.proofs.list_text.put_all_missing.Given as goal

abbrev pub invariant-loop-which : goal.invariant-loop-which
invariant-loop-which l =
    l.out.items ++ flat_map missing_line (drop l.which-index l.missing) ≡ l.initial.out.items ++ flat_map missing_line l.missing
