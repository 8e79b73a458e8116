use Rattle.std.proofs.Common.{sym, ap, ◌∙◌}
use Rattle.std.specs.Prelude.{option_map}
use Rattle.deal_follow.proofs.PlaceLemmas.{no_spot}
use Rattle.deal_follow.proofs.spots.has_spot.Goals as goal

pub returns-in-None : goal.returns-in-None
returns-in-None c =
    sym (no_spot c.args.spots.now c.args.place.now (sym c.find.ensures.found ∙ ap (option_map (λ x. x.now)) c.in-None.is))
