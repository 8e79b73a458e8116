-- What every run keeps is what the pending effects here ask of a world.
use Rattle.std.proofs.Common.{◌≡◌, ℕ, List, [], ◌++◌, length, map, Option, Some, None, refl, sym, ap}
use Rattle.spec_data.specs.Lists.{NoneTrue}
use Rattle.spec_data.specs.Messages.{noted_all}
use Rattle.spec_data.proofs.ListLemmas.{no_reason-none_true}
use Rattle.spec_bitcoin.specs.declared.tx.OutPoint.{OutPoint}
use Rattle.spec_bitcoin.specs.declared.tx.TxOut.{TxOut}
use Rattle.spec_bitcoin.specs.declared.tx.Tx.{Tx}
use Rattle.spec_bitcoin.specs.declared.verdict.Verdict.TheVariants as verdicts
use Rattle.spec_bitcoin.specs.Digests.{txid}
use Rattle.spec_bitcoin.specs.Live.{at_place}
use Rattle.spec_bitcoin.specs.Verdict.{verdict_for, spent_number, numbers_from}
use Rattle.spec_calculus.specs.Configuration.{Configuration}
use Rattle.spec_run.specs.Setup.{Setup}
use Rattle.spec_run.specs.World.{World}
use Rattle.spec_run.specs.Conditions.{IsSetup, IsGift}
use Rattle.spec_run.specs.Giving.{give_row, gift}
use Rattle.spec_run.specs.Ledger.{live_from, chain_of, verdict_in, strings_of, items_of}
use Rattle.theory_world.proofs.Hashed.{no_collision}
use Rattle.theory_world.proofs.Same.{place-true}
use Rattle.theory_world.proofs.Ledger.Found.{found}
use Rattle.theory_world.proofs.Ledger.Accepting.{accepting}
use Rattle.theory_world.proofs.Contracts.Standing.{term_choice}
use Rattle.theory_run.proofs.Accepted.Accept.{fresh}
use Rattle.theory_run.proofs.Events.Given.{is, all, signed_kept, gift_numbered}
use Rattle.theory_run.proofs.Events.Quiet.{IsActive, active}
use Rattle.theory_run.specs.KeptRuns.{KeptBooks}
use Rattle.theory_run.proofs.Facts.Bookkeeping.{fits, checks}
use Rattle.theory_run.specs.KeptBook.{HeldFine}
use Rattle.bm_world_spend.specs.Placed.{IsPlaced}
use Rattle.bm_world_spend.specs.Gifts.{LieApart, IsFreshGift, signed_world}

module _ (s : Setup) (g : Configuration) (w : World) (keeps : KeptBooks s g w) where
  -- contract outputs stand for positions of compiled contracts
  pub placed_kept : IsPlaced s w
  placed_kept = record {
    held = λ n held h.
        let at : IsActive w n held = active w n held h in
        let fine : HeldFine s w at.output held = keeps.book.held n at.output held at.there at.holds in
        record {
          instance = fine.instance;
          compiled = fine.compiled;
          choice = fine.choice;
          stands = term_choice s.hash fine.instance held.position fine.here fine.choice fine.stands;
        };
  }

  -- outputs lie apart
  pub apart_kept : LieApart w
  apart_kept = record { apart = keeps.book.apart }

-- no live output has the id of a gift that is accepted
module _ (s : Setup) (setup : IsSetup s) (g : Configuration) (w : World)
    (keeps : KeptBooks s g w) (party : List ℕ) (inputs : List ℕ) (outputs : List (List ℕ × ℕ)) (line : IsGift s party inputs outputs) where
  abbrev tx : Tx
  tx = gift s w party inputs outputs

  abbrev next : World
  next = signed_world s w party inputs outputs

  abbrev hs : List (List ℕ)
  hs = noted_all w.hashed (strings_of s next tx ++ items_of tx)

  abbrev heard : World
  heard = record next { hashed = hs }

  abbrev spent : List ℕ
  spent = map (spent_number (live_from 0 w.outputs)) tx.inputs

  abbrev made : List ℕ
  made = numbers_from (length w.outputs) tx.outputs

  pub fresh_gift : IsFreshGift s w party inputs outputs
  fresh_gift passed none calm = λ k. by_entry k (at_place (live_from 0 w.outputs) (record { txid = txid s.hash tx; vout = k })) refl
    where
      row : NoneTrue (give_row s w party inputs outputs)
      row = no_reason-none_true (give_row s w party inputs outputs) passed

      said : verdict_in s next tx ≡ verdicts.Accepted spent made
      said = ap (verdict_for (chain_of next) tx) none

      by_entry : (k : ℕ) (r : Option (ℕ × TxOut)) → at_place (live_from 0 w.outputs) (record { txid = txid s.hash tx; vout = k }) ≡ r → r ≡ None
      by_entry k None e = refl
      by_entry k (Some q) e =
          let f = found w.outputs (record { txid = txid s.hash tx; vout = k }) 0 q e in
          let same = place-true (record { txid = txid s.hash tx; vout = k }) f.output.outpoint f.here in
          let fit = fits s setup g w keeps in
          let check = checks s setup g w keeps in
          absurd (fresh s setup.hash g heard
          (signed_kept s setup.hash setup.few_contracts [] g w keeps.book fit check keeps.clear party line.giver inputs outputs
          line.few_outputs row spent made said calm)
          (record { initial = fit.initial; branch = fit.branch }) (record { checked = check.checked; committed = check.committed }) hs
          (no_collision s.hash w.hashed (strings_of s next tx ++ items_of tx) keeps.clear calm) (λ t h. h) tx
          (gift_numbered s setup.hash setup.few_contracts [] g w keeps.book fit check keeps.clear party line.giver inputs outputs line.few_outputs row)
          spent (accepting s heard tx spent (is s setup.hash setup.few_contracts [] g w keeps.book fit check keeps.clear party line.giver
          inputs outputs line.few_outputs row spent made said calm))
          (all s setup.hash setup.few_contracts [] g w keeps.book fit check keeps.clear party line.giver inputs outputs line.few_outputs row
          spent made said calm)
          f.number f.output f.there (sym (ap (λ (p : OutPoint). p.txid) same)))
