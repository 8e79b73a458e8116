use Rattle.std.proofs.Common.{◌≡◌, ◌++◌, drop, map}
use Rattle.spec_calculus.specs.Offers.{takings}
use Rattle.bm_syntax.specs.View.{guarded}
use Rattle.bm_offers.specs.Offered.{offered}
use Rattle.bm_offers.proofs.listing.add_takings.Given as goal

-- what is offered so far, and what the rest offers, is all that is offered
abbrev pub invariant-loop-taken : goal.invariant-loop-taken
invariant-loop-taken l = record {
  counted : l.branch ≡ l.taken-index;
  told : l.found.items ++ offered l.config (takings l.output l.branch (map guarded (drop l.taken-index l.branches)))
      ≡ l.initial.found.items ++ offered l.config (takings l.output 0 (map guarded l.branches));
}
