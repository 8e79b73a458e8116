use Rattle.std.proofs.Common.{◌≡◌, ◌++◌, drop}
use Rattle.std.specs.List.{flat_map}
use Rattle.spec_chain.specs.StateText.{gone_line}
use Rattle.deal_state.proofs.lines.put_all_gone.Given as goal

abbrev pub invariant-loop-name : goal.invariant-loop-name
invariant-loop-name l =
    l.out.items ++ flat_map gone_line (drop l.name-index l.names) ≡ l.initial.out.items ++ flat_map gone_line l.names
