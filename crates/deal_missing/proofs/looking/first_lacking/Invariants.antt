use Rattle.std.proofs.Common.{◌≡◌, map, drop, not}
use Rattle.std.specs.List.{find}
use Rattle.deal_missing.specs.Required.{wanted_in, is_there}
use Rattle.deal_missing.proofs.looking.first_lacking.Given as goal

abbrev pub invariant-loop-requirement : goal.invariant-loop-requirement
invariant-loop-requirement l =
    find (λ w. not (is_there l.given w)) (map wanted_in (drop l.requirement-index l.requirements))
    ≡ find (λ w. not (is_there l.given w)) (map wanted_in l.requirements)
