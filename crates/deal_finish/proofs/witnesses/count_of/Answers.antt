use Rattle.std.proofs.Common.{length, sym, ap, ◌∙◌}
use Rattle.deal_finish.proofs.Choosing.{choice_count}
use Rattle.deal_finish.proofs.witnesses.count_of.Goals as goal

pub returns : goal.returns
returns c = ap (λ bs. length bs) c.as_slice.ensures.value ∙ sym (choice_count c.args.choice.now)
