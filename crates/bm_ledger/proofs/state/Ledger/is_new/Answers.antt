use Rattle.bm_ledger.proofs.state.Ledger.is_new.Goals as goal

pub returns : goal.returns
returns c = rw (← c.self.view_is) c.is_new.ensures
