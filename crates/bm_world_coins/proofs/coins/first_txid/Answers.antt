use Rattle.std.proofs.Common.{sym, ◌∙◌}
use Rattle.bm_world_coins.proofs.Sync.{first_id, no_first}
use Rattle.bm_world_coins.proofs.coins.first_txid.Goals as goal

pub returns-in-Some : goal.returns-in-Some
returns-in-Some c = λ id outputs same. first_id c.args.ledger.now.live id c.in-Some.place.txid c.in-Some.place.vout outputs same (sym c.place.ensures ∙ c.in-Some.is)

pub returns-in-None : goal.returns-in-None
returns-in-None c = λ id outputs same. no_first c.args.ledger.now.live id _ outputs same (sym c.place.ensures ∙ c.in-None.is)
