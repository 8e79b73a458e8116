use Rattle.std.proofs.Common.{◌≡◌, map, drop}
use Rattle.deal_compile.specs.Circles.{output_in}
use Rattle.deal_compile.specs.Keyed.{script_pair}
use Rattle.deal_compile.specs.Parts.{first_paid}
use Rattle.deal_compile.proofs.circle.first_paid.Given as goal

abbrev pub invariant-loop-party : goal.invariant-loop-party
invariant-loop-party l =
    first_paid (map output_in l.outputs) (map script_pair l.payees) (drop l.party-index l.parties)
    ≡ first_paid (map output_in l.outputs) (map script_pair l.payees) l.parties
