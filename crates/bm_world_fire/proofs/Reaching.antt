-- A transaction that reaches the ledger is the one that is fired.
use Rattle.std.proofs.Common.{◌≡◌, ℕ, List, Option, subst}
use Rattle.spec_bitcoin.specs.declared.tx.Tx.{Tx}
use Rattle.spec_run.specs.Setup.{Setup}
use Rattle.spec_run.specs.World.{World}
use Rattle.spec_run.specs.Firing.{reaches_if}
use Rattle.bm_hash.specs.declared.messages.TrailError.{TrailError}
use Rattle.bm_hash.specs.Trails.{Stops}
use Rattle.bm_world_board.specs.declared.pending_change.PendingChange.{PendingChange}
use Rattle.bm_world_board.specs.Prepares.{Prepares}

module _ (s : Setup) (w : World) (old new : List (List ℕ)) (o p : Option Tx) (same : o ≡ p) where
  pub prepares_same : (x : PendingChange) → Prepares s.hash w old new (reaches_if s w o) x → Prepares s.hash w old new (reaches_if s w p) x
  prepares_same x h = subst (λ t. Prepares s.hash w old new (reaches_if s w t) x) same h

  pub stops_same : (e : TrailError) → Stops s.hash old new ((reaches_if s w o).hashes) e → Stops s.hash old new ((reaches_if s w p).hashes) e
  stops_same e h = subst (λ t. Stops s.hash old new ((reaches_if s w t).hashes) e) same h
