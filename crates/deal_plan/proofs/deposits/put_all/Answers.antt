use Rattle.deal_plan.proofs.deposits.put_all.Goals as goal

pub put_deposits-requires : goal.put_deposits-requires
put_deposits-requires g c = rw c.pre_of.ensures c.requires
