use Rattle.std.proofs.Common.{◌≡◌, map, drop}
use Rattle.std.specs.List.{find}
use Rattle.deal_missing.specs.Required.{wanted_in, is_unendorsed}
use Rattle.deal_missing.proofs.looking.first_without.Given as goal

abbrev pub invariant-loop-requirement : goal.invariant-loop-requirement
invariant-loop-requirement l =
    find (is_unendorsed l.given) (map wanted_in (drop l.requirement-index l.requirements))
    ≡ find (is_unendorsed l.given) (map wanted_in l.requirements)
