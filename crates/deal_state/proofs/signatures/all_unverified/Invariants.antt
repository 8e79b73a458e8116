use Rattle.std.proofs.Common.{◌≡◌, ◌++◌, map, drop}
use Rattle.deal_missing.specs.Required.{wanted_in}
use Rattle.deal_state.specs.Prospects.{unverified_by}
use Rattle.deal_state.proofs.signatures.all_unverified.Given as goal

abbrev pub invariant-loop-wanted : goal.invariant-loop-wanted
invariant-loop-wanted l =
    l.unverified.items ++ unverified_by l.given l.which (map wanted_in (drop l.wanted-index l.all))
    ≡ unverified_by l.given l.which (map wanted_in l.all)
