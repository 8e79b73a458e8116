use Rattle.theory_deal_text.proofs.FilledDeal.{filled_keys}
use Rattle.theory_deal_text.proofs.filled_keys_are_taken.Goals as goal

pub returns : goal.returns
returns c = filled_keys c.paths_in_order.ensures
