use Rattle.std.proofs.Common.{◌≡◌, ◌++◌, map, drop}
use Rattle.std.specs.List.{flat_map}
use Rattle.deal_missing.specs.Required.{wanted_in, told_if_held}
use Rattle.deal_missing.proofs.texts.put_all_held.Given as goal

abbrev pub invariant-loop-requirement : goal.invariant-loop-requirement
invariant-loop-requirement l =
    l.out.items ++ flat_map (told_if_held l.given) (map wanted_in (drop l.requirement-index l.requirements))
    ≡ l.initial.out.items ++ flat_map (told_if_held l.given) (map wanted_in l.requirements)
