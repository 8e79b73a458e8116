use Rattle.std.proofs.Common.{◌≡◌, ◌++◌, drop}
use Rattle.spec_calculus.specs.Offers.{all_takings}
use Rattle.bm_offers.specs.Offered.{offered}
use Rattle.bm_offers.proofs.listing.add_all_takings.Given as goal

-- what is offered so far, and what the rest offers, is all that is offered
abbrev pub invariant-loop-contract : goal.invariant-loop-contract
invariant-loop-contract l =
    l.found.items ++ offered l.config (all_takings l.config.contracts (drop l.contract-index l.active))
    ≡ l.initial.found.items ++ offered l.config (all_takings l.config.contracts l.active)
