use Rattle.std.proofs.Common.{◌≡◌, ◌++◌, drop}
use Rattle.std.specs.Prelude.{filter}
use Rattle.spec_chain.specs.Outputs.{is_position}
use Rattle.deal_follow.proofs.going_on.put_positions.Given as goal

abbrev pub invariant-loop-output : goal.invariant-loop-output
invariant-loop-output l =
    l.live.items ++ filter is_position (drop l.output-index l.outputs) ≡ l.initial.live.items ++ filter is_position l.outputs
