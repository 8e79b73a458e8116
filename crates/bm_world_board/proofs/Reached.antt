-- A transaction that reaches the ledger, by its refusal.
use Rattle.std.proofs.Common.{◌≡◌, ℕ, List, [], ◌++◌, Option, Some, None, Result, Err, sym, subst}
use Rattle.spec_bitcoin.specs.declared.tx.Tx.{Tx}
use Rattle.spec_bitcoin.specs.declared.verdict.Refusal.{Refusal}
use Rattle.spec_bitcoin.specs.Digests.{txid}
use Rattle.spec_bitcoin.specs.Live.{IsNewTxid}
use Rattle.spec_data.specs.Messages.{collision}
use Rattle.spec_bitcoin.specs.Verdict.{refusal_of, verdict_for}
use Rattle.spec_run.specs.declared.outcome.Reason.TheVariants as reason
use Rattle.spec_run.specs.Event.{append_read}
use Rattle.spec_run.specs.Setup.{Setup}
use Rattle.spec_run.specs.World.{World}
use Rattle.spec_run.specs.Pending.{Pending, refused}
use Rattle.spec_run.specs.Ledger.{live_from, chain_of, strings_of, items_of, judged}
use Rattle.bm_hash.specs.declared.messages.TrailError.{TrailError}
use Rattle.bm_hash.specs.Messages.{evidence_of}
use Rattle.bm_hash.specs.Trails.{Hashed, Stops}
use Rattle.bm_hash.proofs.HashesLemmas.{hashed_none, Hashed-then, Stops-first, Stops-then}
use Rattle.bm_world_board.specs.declared.pending_change.Change.TheVariants.{Nothing}
use Rattle.bm_world_board.specs.declared.pending_change.PendingChange.{PendingChange}
use Rattle.bm_world_board.specs.declared.pending_change.Purpose.{Purpose}
use Rattle.bm_world_board.specs.Prepares.{as_pending, IsReady, Prepares}
use Rattle.bm_world_board.specs.Reaching.{IsAcceptedPending, IsReadyIf, IsPurpose, IsFresh, reaches_in}
use Rattle.bm_hash.proofs.Collisions.{hashed_adds}

module _ (s : Setup) (w : World) (tx : Tx) where
  abbrev pub refusal : Option Refusal
  refusal = refusal_of s.hash w.book w.tip (live_from 0 w.outputs) tx

  abbrev pub by_refusal : Option Refusal → Pending
  by_refusal o = judged s w w tx (verdict_for (chain_of w) tx o)

  pub stops_in_strings : (old new : List (List ℕ)) (e : TrailError) → Stops s.hash old new (strings_of s w tx) e
      → Stops s.hash old new ((reaches_in s w tx).hashes) e
  stops_in_strings old new e h = by_case refusal
    where
      by_case : (o : Option Refusal) → Stops s.hash old new ((by_refusal o).hashes) e
      by_case None = Stops-first s.hash old new (strings_of s w tx) (items_of tx) e h
      by_case (Some r) = h

  pub stops_in_items : (old mid new : List (List ℕ)) (e : TrailError) → refusal ≡ None → Hashed s.hash old mid (strings_of s w tx)
      → Stops s.hash mid new (items_of tx) e → Stops s.hash old new ((reaches_in s w tx).hashes) e
  stops_in_items old mid new e none a h =
      subst (λ o. Stops s.hash old new ((by_refusal o).hashes) e) (sym none) (Stops-then s.hash old mid new (strings_of s w tx) (items_of tx) e a h)

  pub reach_refused : (old new : List (List ℕ)) (r : Refusal) (x : PendingChange) → refusal ≡ Some r → Hashed s.hash old new (strings_of s w tx)
      → ((v : World) (hashes : List (List ℕ)) → as_pending v hashes x ≡ refused v hashes (reason.Ledger r)) → x.change ≡ Nothing
      → Prepares s.hash w old new (reaches_in s w tx) x
  reach_refused old new r x some h same nothing = subst (λ o. Prepares s.hash w old new (by_refusal o) x) (sym some) (record {
    same = same w (strings_of s w tx);
    hashed = h;
    ready = subst (IsReady s.hash w) (sym nothing) tt;
  })

  pub reach_accepted : (old mid new : List (List ℕ)) (id : List ℕ) (purpose : Purpose) (x : PendingChange) → w.hashed ≡ old
      → evidence_of s.hash old ≡ None → IsFresh s w tx → refusal ≡ None → Hashed s.hash old mid (strings_of s w tx) → Hashed s.hash mid new (items_of tx)
      → id ≡ txid s.hash tx → IsPurpose s w tx purpose → IsAcceptedPending s.hash s w tx id purpose x → IsReadyIf s.hash w tx id x.change
      → Prepares s.hash w old new (reaches_in s w tx) x
  reach_accepted old mid new id purpose x at clear fresh none a b is purposed pending ready =
      subst (λ o. Prepares s.hash w old new (by_refusal o) x) (sym none) (record {
        same = pending is purposed;
        hashed = Hashed-then s.hash old mid new (strings_of s w tx) (items_of tx) a b;
        ready = ready is none (subst (IsNewTxid (live_from 0 w.outputs)) (sym is)
            (fresh none (subst (λ l. collision s.hash l (strings_of s w tx ++ items_of tx) ≡ None) (sym at)
            (hashed_adds s.hash old new (strings_of s w tx ++ items_of tx) clear (Hashed-then s.hash old mid new (strings_of s w tx) (items_of tx) a b)).1)));
      })

-- bytes that spell no transaction
pub bad_prepares : (s : Setup) (w : World) (old : List (List ℕ)) (r : Result Tx ℕ) (place : ℕ) (x : PendingChange) → r ≡ Err place
    → ((v : World) (hashes : List (List ℕ)) → as_pending v hashes x ≡ refused v hashes (reason.BadTx place))
    → x.change ≡ Nothing → evidence_of s.hash old ≡ None → Prepares s.hash w old old (append_read s w r) x
bad_prepares s w old r place x is same nothing clear = subst (λ y. Prepares s.hash w old old (append_read s w y) x) (sym is) (record {
  same = same w [];
  hashed = hashed_none s.hash old clear;
  ready = subst (IsReady s.hash w) (sym nothing) tt;
})
