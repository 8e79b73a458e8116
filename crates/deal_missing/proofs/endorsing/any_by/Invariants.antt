use Rattle.std.proofs.Common.{◌≡◌, map, drop}
use Rattle.std.specs.List.{list_any}
use Rattle.deal_missing.specs.Required.{wanted_in, is_endorsement_by}
use Rattle.deal_missing.proofs.endorsing.any_by.Given as goal

abbrev pub invariant-loop-requirement : goal.invariant-loop-requirement
invariant-loop-requirement l =
    list_any (is_endorsement_by l.party) (map wanted_in (drop l.requirement-index l.requirements))
    ≡ list_any (is_endorsement_by l.party) (map wanted_in l.requirements)
