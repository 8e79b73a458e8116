use Rattle.std.proofs.Common.{◌≡◌, ◌++◌, drop}
use Rattle.std.specs.List.{flat_map}
use Rattle.spec_chain.specs.StateText.{paid_line}
use Rattle.deal_state.proofs.text.put_all_paid.Given as goal

abbrev pub invariant-loop-output : goal.invariant-loop-output
invariant-loop-output l =
    l.out.items ++ flat_map paid_line (drop l.output-index l.outputs) ≡ l.initial.out.items ++ flat_map paid_line l.outputs
