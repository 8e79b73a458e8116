use Rattle.std.proofs.Common.{◌≡◌, drop}
use Rattle.spec_chain.specs.Outputs.{output_there}
use Rattle.deal_follow.proofs.taken.output_there.Given as goal

abbrev pub invariant-loop-output : goal.invariant-loop-output
invariant-loop-output l =
    output_there (drop l.output-index l.outputs) l.place ≡ output_there l.outputs l.place
