use Rattle.std.proofs.Common.{◌≡◌, ◌++◌, drop}
use Rattle.std.specs.List.{flat_map}
use Rattle.spec_next.specs.Listed.{before}
use Rattle.spec_next.specs.OutlookText.{prospect_line}
use Rattle.next_text.proofs.outlook.put_lines_before.Given as goal

abbrev pub invariant-loop-prospect : goal.invariant-loop-prospect
invariant-loop-prospect l =
    l.out.items ++ flat_map prospect_line (before (drop l.prospect-index l.prospects))
    ≡ l.initial.out.items ++ flat_map prospect_line (before l.prospects)
