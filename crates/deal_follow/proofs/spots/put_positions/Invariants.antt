use Rattle.std.proofs.Common.{◌≡◌, ◌++◌, map, drop}
use Rattle.std.specs.Prelude.{filter}
use Rattle.spec_chain.specs.Outputs.{is_position}
use Rattle.deal_follow.specs.Boards.{place_in, place_of}
use Rattle.deal_follow.proofs.spots.put_positions.Given as goal

abbrev pub invariant-loop-output : goal.invariant-loop-output
invariant-loop-output l =
    map place_in l.spots ++ map place_of (filter is_position (drop l.output-index l.outputs))
    ≡ map place_in l.initial.spots ++ map place_of (filter is_position l.outputs)
