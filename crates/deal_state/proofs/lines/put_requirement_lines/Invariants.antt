use Rattle.std.proofs.Common.{◌≡◌, ◌++◌, drop}
use Rattle.std.specs.List.{flat_map}
use Rattle.spec_chain.specs.StateText.{requirement_line}
use Rattle.deal_state.proofs.lines.put_requirement_lines.Given as goal

abbrev pub invariant-loop-requirement : goal.invariant-loop-requirement
invariant-loop-requirement l =
    l.out.items ++ flat_map requirement_line (drop l.requirement-index l.requirements)
    ≡ l.initial.out.items ++ flat_map requirement_line l.requirements
