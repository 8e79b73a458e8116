-- The live outputs of a run are never worth more than the most there is.
use Rattle.std.proofs.Common.{ℕ, ◌≤◌, List, [], ◌∷◌, ap, arith}
use Rattle.spec_data.specs.Ranges.{max_money}
use Rattle.spec_bitcoin.specs.declared.tx.TxOut.{TxOut}
use Rattle.spec_bitcoin.specs.Digests.{txid, opening_transaction}
use Rattle.spec_run.specs.Setup.{Setup}
use Rattle.spec_run.specs.World.{World}
use Rattle.spec_run.specs.Owners.{paid_to}
use Rattle.spec_run.specs.Conditions.{IsSetup}
use Rattle.spec_run.specs.Pending.{Pending}
use Rattle.spec_run.specs.Values.{live_value}
use Rattle.spec_run.specs.Event.{Passed, holds_nothing, opening_outputs, opening_world}
use Rattle.spec_run.specs.Translation.{world_after}
use Rattle.theory_world.proofs.Tests.{sum_map}
use Rattle.theory_world.proofs.Ledger.Spend.{total-made}
use Rattle.theory_world.proofs.Ledger.Worth.{pending_keeps}
use Rattle.theory_run.proofs.Worlds.AllPassed.{AllPassed}

-- at the opening it is what the header's deposits are worth
pub opening_worth : (s : Setup) → IsSetup s → live_value (opening_world s) ≤ max_money
opening_worth s setup =
    let total = total-made holds_nothing (txid s.hash (opening_transaction (opening_outputs s))) 0 (opening_outputs s) in
    let sums = sum_map (λ (o : TxOut). o.value) (λ (d : List ℕ × ℕ). record { value = d.1; script = paid_to s (d.0) }) s.header.deposits in
    let money = setup.header.money in
    omega (arith, total, sums, money)

pub worth_after : (s : Setup) (ps : List Passed) (w : World) → AllPassed s w ps → live_value (world_after w ps) ≤ live_value w
worth_after s [] w h = omega arith
worth_after s (p ∷ ps) w h =
    let later = worth_after s ps p.world h.1 in
    let here = ap live_value h.0.world in
    let same = ap (λ (d : Pending). live_value d.world) h.0.pending in
    let keeps = pending_keeps s w p.event in
    let less = keeps.no_more in
    omega (arith, later, here, same, less)
