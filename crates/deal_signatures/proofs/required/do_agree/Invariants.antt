use Rattle.std.proofs.Common.{◌≡◌, map, drop}
use Rattle.std.specs.List.{list_all}
use Rattle.deal_signatures.specs.Agreeing.{is_as_first, do_agree}
use Rattle.deal_signatures.specs.Seen.{required_in}
use Rattle.deal_signatures.proofs.required.do_agree.Given as goal

abbrev pub invariant-loop-place : goal.invariant-loop-place
invariant-loop-place l =
    list_all (is_as_first (map required_in l.places)) (map required_in (drop l.place-index l.places)) ≡ do_agree (map required_in l.places)
