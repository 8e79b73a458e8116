use Rattle.std.proofs.Common.{◌≡◌, [], drop}
use Rattle.std.specs.Prelude.{filter, flat_map}
use Rattle.spec_next.specs.declared.requirement.Requirement.{Requirement}
use Rattle.spec_next.specs.Prospects.{awaited}
use Rattle.spec_next.specs.Together.{once_onto, is_alike, named}
use Rattle.next_text.proofs.together.parties_alike.Given as goal

abbrev pub invariant-loop-other : goal.invariant-loop-other
invariant-loop-other l =
    once_onto l.names (flat_map (λ (other : Requirement). named (awaited other)) (filter (λ (other : Requirement). is_alike l.requirement other) (drop l.other-index l.all)))
    ≡ once_onto [] (flat_map (λ (other : Requirement). named (awaited other)) (filter (λ (other : Requirement). is_alike l.requirement other) l.all))
