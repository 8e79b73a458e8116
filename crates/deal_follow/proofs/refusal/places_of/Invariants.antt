use Rattle.std.proofs.Common.{◌≡◌, ◌++◌, map, drop}
use Rattle.deal_follow.specs.Boards.{place_of}
use Rattle.deal_follow.proofs.refusal.places_of.Given as goal

abbrev pub invariant-loop-output : goal.invariant-loop-output
invariant-loop-output l =
    l.all.items ++ map place_of (drop l.output-index l.outputs) ≡ map place_of l.outputs
