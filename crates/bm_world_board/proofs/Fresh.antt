-- A transaction that is accepted has a new id.
use Rattle.std.proofs.Common.{◌≡◌, ℕ, ◌++◌, length, map, Option, Some, None, refl, sym, ap}
use Rattle.spec_bitcoin.specs.declared.tx.OutPoint.{OutPoint}
use Rattle.spec_bitcoin.specs.declared.tx.TxOut.{TxOut}
use Rattle.spec_bitcoin.specs.declared.tx.Tx.{Tx}
use Rattle.spec_bitcoin.specs.Digests.{txid}
use Rattle.spec_bitcoin.specs.Live.{at_place}
use Rattle.spec_bitcoin.specs.Verdict.{verdict_for, spent_number, numbers_from}
use Rattle.spec_calculus.specs.Configuration.{Configuration}
use Rattle.spec_run.specs.Setup.{Setup}
use Rattle.spec_run.specs.World.{World}
use Rattle.spec_data.specs.Messages.{noted_all}
use Rattle.spec_run.specs.Conditions.{IsSetup}
use Rattle.spec_run.specs.Ledger.{live_from, chain_of, strings_of, items_of}
use Rattle.theory_world.proofs.Hashed.{no_collision, all_more, all_new, among_left}
use Rattle.theory_world.proofs.Same.{place-true}
use Rattle.theory_world.proofs.Ledger.Found.{found}
use Rattle.theory_world.specs.Transactions.{IsNumbered}
use Rattle.theory_world.proofs.Ledger.Worth.{accepted_by}
use Rattle.theory_world.proofs.Ledger.Accepting.{accepting}
use Rattle.theory_run.proofs.Accepted.Accept.{fresh}
use Rattle.theory_run.specs.KeptRuns.{KeptBooks}
use Rattle.theory_run.proofs.Facts.Bookkeeping.{fits, checks}
use Rattle.bm_world_board.specs.Reaching.{IsFresh}

module _ (s : Setup) (setup : IsSetup s) (g : Configuration) (w : World) (keeps : KeptBooks s g w) (tx : Tx) (fine : IsNumbered tx) where
  pub fresh_tx : IsFresh s w tx
  fresh_tx passed calm = λ k. by_entry k (at_place (live_from 0 w.outputs) (record { txid = txid s.hash tx; vout = k })) refl
    where
      by_entry : (k : ℕ) (r : Option (ℕ × TxOut)) → at_place (live_from 0 w.outputs) (record { txid = txid s.hash tx; vout = k }) ≡ r
          → r ≡ None
      by_entry k None e = refl
      by_entry k (Some q) e =
          let f = found w.outputs (record { txid = txid s.hash tx; vout = k }) 0 q e in
          let same = place-true (record { txid = txid s.hash tx; vout = k }) f.output.outpoint f.here in
          let accepted = accepted_by s w tx (map (spent_number (live_from 0 w.outputs)) tx.inputs)
          (numbers_from (length w.outputs) tx.outputs) (ap (verdict_for (chain_of w) tx) passed) in
          let new = noted_all w.hashed (strings_of s w tx ++ items_of tx) in
          absurd (fresh s setup.hash g w keeps.book (fits s setup g w keeps) (checks s setup g w keeps) new
          (no_collision s.hash w.hashed (strings_of s w tx ++ items_of tx) keeps.clear calm)
          (λ t h. all_more w.hashed (strings_of s w tx ++ items_of tx) t h)
          tx fine (map (spent_number (live_from 0 w.outputs)) tx.inputs) (accepting s w tx _ accepted)
          (record {
            heard = λ t h. all_new w.hashed (strings_of s w tx ++ items_of tx) t
                (among_left t (strings_of s w tx) (items_of tx) h);
          })
          f.number f.output f.there (sym (ap (λ (p : OutPoint). p.txid) same)))
