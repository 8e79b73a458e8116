use Rattle.std.proofs.Common.{◌≡◌, ◌++◌, drop}
use Rattle.std.specs.List.{flat_map}
use Rattle.spec_chain.specs.StateText.{live_line}
use Rattle.deal_state.proofs.text.put_all_live.Given as goal

abbrev pub invariant-loop-output : goal.invariant-loop-output
invariant-loop-output l =
    l.out.items ++ flat_map live_line (drop l.output-index l.outputs) ≡ l.initial.out.items ++ flat_map live_line l.outputs
