use Rattle.std.proofs.Common.{◌≡◌, ◌++◌, drop}
use Rattle.std.specs.List.{flat_map}
use Rattle.spec_next.specs.Listed.{from_branches}
use Rattle.spec_next.specs.OutlookText.{branch_text}
use Rattle.next_text.proofs.outlook.put_branches.Given as goal

abbrev pub invariant-loop-prospect : goal.invariant-loop-prospect
invariant-loop-prospect l =
    l.out.items ++ flat_map (branch_text l.config) (from_branches (drop l.prospect-index l.prospects))
    ≡ l.initial.out.items ++ flat_map (branch_text l.config) (from_branches l.prospects)
