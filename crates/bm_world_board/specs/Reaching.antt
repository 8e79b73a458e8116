-- The pending effect of a transaction that the ledger accepts, as code has it.
use Rattle.std.specs.Prelude.{◌≡◌, ℕ, List, ◌++◌, map, None}
use Rattle.spec_bitcoin.specs.declared.tx.Tx.{Tx}
use Rattle.spec_bitcoin.specs.Digests.{txid}
use Rattle.spec_bitcoin.specs.Live.{IsNewTxid}
use Rattle.spec_bitcoin.specs.Verdict.{refusal_of, spent_number}
use Rattle.spec_data.specs.Messages.{collision}
use Rattle.spec_run.specs.Setup.{Setup}
use Rattle.spec_run.specs.World.{World}
use Rattle.spec_run.specs.Ledger.{Kind, kind_of, new_position, begun_after, live_from, strings_of, items_of, accepted, reaches}
use Rattle.spec_run.specs.Pending.{Pending}
use Rattle.bm_world_coins.specs.Coined.{position_by}
use Rattle.bm_world_board.specs.declared.pending_change.Change.{Change}
use Rattle.bm_world_board.specs.declared.pending_change.PendingChange.{PendingChange}
use Rattle.bm_world_board.specs.declared.pending_change.Purpose.{Purpose}
use Rattle.bm_world_board.specs.Prepares.{as_pending, with_begun, IsReady}

-- the numbers of the outputs that a transaction spends
abbrev pub spent_in : World → Tx → List ℕ
spent_in w tx = map (spent_number (live_from 0 w.outputs)) tx.inputs

-- it is the purpose of a transaction of this kind
pub record IsPurposeOf (s : Setup) (kind : Kind) (p : Purpose) : Type 0 where
  pub positions : (k : ℕ) → position_by p.positions k ≡ new_position s kind k
  pub begins : (begun : List ℕ) → with_begun p.begins begun ≡ begun_after kind begun

-- it is what the transaction is to the contracts in this world
abbrev pub IsPurpose : Setup → World → Tx → Purpose → Type 0
IsPurpose s w tx p = IsPurposeOf s (kind_of s w tx (spent_in w tx)) p

-- it is the pending effect of the transaction, where the transaction has this id and this purpose
abbrev pub IsAcceptedPending : (List ℕ → List ℕ) → Setup → World → Tx → List ℕ → Purpose → PendingChange → Type 0
IsAcceptedPending hash s w tx id purpose d =
    id ≡ txid hash tx → IsPurpose s w tx purpose → as_pending w (strings_of s w tx ++ items_of tx) d ≡ accepted s w tx (spent_in w tx)

-- the change can be made, where the transaction has this id and passes
abbrev pub IsReadyIf : (List ℕ → List ℕ) → World → Tx → List ℕ → Change → Type 0
IsReadyIf hash w tx id change =
    id ≡ txid hash tx → refusal_of hash w.book w.tip (live_from 0 w.outputs) tx ≡ None → IsNewTxid (live_from 0 w.outputs) id → IsReady hash w change

-- a transaction reaches the ledger in a world that its event has signed nothing in
abbrev pub reaches_in : Setup → World → Tx → Pending
reaches_in s w tx = reaches s w w tx

-- where the transaction is accepted and its strings don't collide, no live output has its id
abbrev pub IsFresh : Setup → World → Tx → Type 0
IsFresh s w tx =
    refusal_of s.hash w.book w.tip (live_from 0 w.outputs) tx ≡ None → collision s.hash w.hashed (strings_of s w tx ++ items_of tx) ≡ None
    → IsNewTxid (live_from 0 w.outputs) (txid s.hash tx)
