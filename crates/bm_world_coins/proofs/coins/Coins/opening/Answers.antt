use Rattle.std.proofs.Common.{◌≡◌, ap, ◌∙◌}
use Rattle.spec_bitcoin.specs.Digests.{txid, opening_transaction}
use Rattle.spec_bitcoin.specs.Live.{Chain}
use Rattle.spec_run.specs.Event.{holds_nothing}
use Rattle.spec_run.specs.Ledger.{made_from}
use Rattle.bm_world_coins.proofs.Sync.{opening_chained}
use Rattle.bm_world_coins.proofs.coins.Coins.opening.Goals as goal

pub invariant_of-result : goal.invariant_of-result
invariant_of-result g c =
    let id = txid (g.H.Hash32.digest_of c.args.trail.now.hasher) (opening_transaction c.args.outputs.now) in
    let made : c.in_ok-made.made.items ≡ made_from holds_nothing id 0 c.args.outputs.now =
    c.in_ok-made.ensures ∙ c.first_txid-txid.ensures id c.args.outputs.now (ap (λ (l : Chain). l.live) c.in_ok-ledger.ensures.opened) in
    opening_chained c.in_ok-ledger.ledger c.in_ok-made.made.items id c.args.outputs.now c.in_ok-ledger.ensures.opened made
