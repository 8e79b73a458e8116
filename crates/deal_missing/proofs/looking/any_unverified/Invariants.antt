use Rattle.std.proofs.Common.{◌≡◌, map, drop}
use Rattle.std.specs.List.{list_any}
use Rattle.deal_missing.specs.Required.{wanted_in, is_unverified}
use Rattle.deal_missing.proofs.looking.any_unverified.Given as goal

abbrev pub invariant-loop-requirement : goal.invariant-loop-requirement
invariant-loop-requirement l =
    list_any (is_unverified l.given) (map wanted_in (drop l.requirement-index l.requirements))
    ≡ list_any (is_unverified l.given) (map wanted_in l.requirements)
