use Rattle.std.proofs.Common.{◌∙◌, ◌^◌, ap, not, subst}
use Rattle.bm_ledger.specs.Ordered.{AreInOrder}
use Rattle.bm_ledger.proofs.Telling.{repeat-told}
use Rattle.bm_ledger.proofs.outputs.indexed.Live.is_spent_twice.Goals as goal

pub returns : goal.returns
returns c =
    let order = subst (AreInOrder 0 (2 ^ 32)) c.self.view_is c.self.invariant.in_order in
    ap not c.are_distinct.ensures ∙ repeat-told c.args.self.now c.args.inputs.now c.args.numbers.now order c.requires.live c.requires.numbers
