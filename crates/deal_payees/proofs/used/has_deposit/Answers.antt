use Rattle.std.proofs.Common.{◌∙◌}
use Rattle.spec_terms.specs.Precondition.{deposits}
use Rattle.deal_payees.proofs.UsedLemmas.{left_any}
use Rattle.deal_payees.proofs.used.has_deposit.Goals as goal

pub returns : goal.returns
returns c keys known = c.is_any_left.ensures ∙ left_any keys c.args.brought.now known c.args.party.now (deposits c.args.pre.now)
