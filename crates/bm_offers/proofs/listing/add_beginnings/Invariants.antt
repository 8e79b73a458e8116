use Rattle.std.proofs.Common.{◌≡◌, ◌++◌, drop}
use Rattle.spec_calculus.specs.Offers.{beginnings}
use Rattle.bm_offers.specs.Offered.{offered}
use Rattle.bm_offers.proofs.listing.add_beginnings.Given as goal

-- what is offered so far, and what the rest offers, is all that is offered
abbrev pub invariant-loop-checked : goal.invariant-loop-checked
invariant-loop-checked l = record {
  counted : l.contract ≡ l._checked-index;
  told : l.found.items ++ offered l.config (beginnings l.contract (drop l._checked-index l.contracts))
      ≡ l.initial.found.items ++ offered l.config (beginnings 0 l.contracts);
}
