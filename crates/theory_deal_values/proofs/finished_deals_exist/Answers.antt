use Rattle.theory_deal_values.proofs.FinishedDeal.{finished_deal}
use Rattle.theory_deal_values.proofs.finished_deals_exist.Goals as goal

pub returns : goal.returns
returns c = finished_deal
