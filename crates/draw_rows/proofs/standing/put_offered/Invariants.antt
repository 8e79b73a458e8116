use Rattle.std.proofs.Common.{◌≡◌, ◌++◌, drop, map}
use Rattle.std.specs.Prelude.{map}
use Rattle.draw_rows.proofs.standing.put_offered.Given as goal

abbrev pub invariant-loop-offer : goal.invariant-loop-offer
invariant-loop-offer l =
    l.steps.items ++ map (λ o. o.step) (drop l.offer-index l.offers) ≡ map (λ o. o.step) l.offers
