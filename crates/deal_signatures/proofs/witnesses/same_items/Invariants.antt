use Rattle.std.proofs.Common.{◌≡◌, drop}
use Rattle.spec_deal.specs.SignatureFile.{same_items}
use Rattle.deal_signatures.proofs.witnesses.same_items.Given as goal

abbrev pub invariant-loop-item : goal.invariant-loop-item
invariant-loop-item l = same_items (drop l.item-index l.one) l.rest ≡ same_items l.one l.other
