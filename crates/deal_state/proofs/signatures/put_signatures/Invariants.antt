use Rattle.std.proofs.Common.{◌≡◌, ◌++◌, map, drop}
use Rattle.deal_missing.specs.Required.{wanted_in}
use Rattle.deal_state.specs.Prospects.{signatures_by}
use Rattle.deal_state.proofs.signatures.put_signatures.Given as goal

abbrev pub invariant-loop-wanted : goal.invariant-loop-wanted
invariant-loop-wanted l =
    l.requirements.items ++ signatures_by l.given l.which (map wanted_in (drop l.wanted-index l.all))
    ≡ l.initial.requirements.items ++ signatures_by l.given l.which (map wanted_in l.all)
