use Rattle.std.proofs.Common.{◌≡◌, drop}
use Rattle.std.specs.List.{list_any}
use Rattle.spec_terms.specs.Precondition.{deposits}
use Rattle.deal_payees.specs.Brought.{is_left}
use Rattle.deal_payees.proofs.used.is_any_left.Given as goal

abbrev pub invariant-loop-entry : goal.invariant-loop-entry
invariant-loop-entry l =
    list_any (is_left l.brought l.party) (deposits (drop l.entry-index l.pre)) ≡ list_any (is_left l.brought l.party) (deposits l.pre)
