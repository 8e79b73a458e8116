use Rattle.bm_ledger.proofs.Witnesses.{rest_is_items}
use Rattle.bm_ledger.proofs.inputs.items_of.Goals as goal

pub returns-in-Some : goal.returns-in-Some
returns-in-Some c = rest_is_items c.args.witness.now c.in-Some.field-0-0.now c.in-Some.items.now c.in-Some.ensures.cases
