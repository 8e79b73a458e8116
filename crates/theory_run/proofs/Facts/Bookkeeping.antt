-- What every run keeps of signatures, outputs, contracts, commitments and messages holds at its opening, and is kept by every event.
use Rattle.std.proofs.Common.{◌≡◌, ℕ, List, None, refl}
use Rattle.spec_calculus.specs.Configuration.{Configuration}
use Rattle.spec_calculus.specs.Steps.{after_steps}
use Rattle.spec_run.specs.declared.event.Event.{Event}
use Rattle.spec_run.specs.declared.event.Event.TheVariants as events
use Rattle.spec_run.specs.Setup.{Setup}
use Rattle.spec_run.specs.World.{World}
use Rattle.spec_data.specs.Messages.{collision}
use Rattle.spec_run.specs.Conditions.{IsSetup, IsEvent}
use Rattle.spec_run.specs.Pending.{applied}
use Rattle.spec_run.specs.Event.{pending, opening_world, opening_collision}
use Rattle.spec_run.specs.Steps.{steps_of}
use Rattle.spec_run.specs.Translation.{opening_configuration}
use Rattle.theory_world.specs.KeptApart.{NoCollision}
use Rattle.theory_world.proofs.Hashed.{no_collision}
use Rattle.theory_run.proofs.Facts.Opening.{clear, opening_book}
use Rattle.theory_run.specs.KeptBook.{KeptBook}
use Rattle.theory_run.proofs.Accepted.Spending.{TransactionsFit, Checked}
use Rattle.theory_run.proofs.Widths.Putting.{transactions_fit}
use Rattle.theory_run.specs.KeptPromises.{KeptPromises}
use Rattle.theory_run.proofs.Facts.KeptCommitments.{opening_promises, checked_now}
use Rattle.theory_run.proofs.Facts.Undertakings.{promises_after}
use Rattle.theory_run.specs.KeptLabels.{KeptLabels}
use Rattle.theory_run.proofs.Facts.OwnLabels.{opening_labels, labels_after}
use Rattle.theory_run.proofs.Events.Quiet.{KeptAfter, endorse_after, init_after, authorise_after, reveal_after, posting_after, sign_after, mine_after}
use Rattle.theory_run.proofs.Events.Given.{gift_after}
use Rattle.theory_run.proofs.Events.Fired.{append_after, fire_init_after, fire_after}
use Rattle.theory_run.proofs.Events.AfterAdvert.{advertise_after}
use Rattle.theory_run.proofs.Events.AfterCommit.{commit_after}
use Rattle.theory_run.specs.KeptRuns.{KeptBooks}

-- its contracts have passed the check, and their transactions have numbers within their widths
pub checks : (s : Setup) → IsSetup s → (g : Configuration) (w : World) → KeptBooks s g w → Checked s w
checks s setup g w keeps = checked_now s setup w keeps.promises

pub fits : (s : Setup) → IsSetup s → (g : Configuration) (w : World) → KeptBooks s g w → TransactionsFit s w
fits s setup g w keeps = transactions_fit s setup g w keeps.book

pub opening_keeps : (s : Setup) → IsSetup s → opening_collision s ≡ None → KeptBooks s (opening_configuration s) (opening_world s)
opening_keeps s setup opens = record {
  book = opening_book s setup opens;
  promises = opening_promises s (opening_world s) refl;
  labels = opening_labels s (opening_world s) refl;
  clear = clear s setup opens;
}

module _ (s : Setup) (setup : IsSetup s) (strings : List (List ℕ)) (g : Configuration) (w : World) (keeps : KeptBooks s g w) where
  abbrev fit : TransactionsFit s w
  fit = fits s setup g w keeps

  abbrev check : Checked s w
  check = checks s setup g w keeps

  book_after : (e : Event) → IsEvent s e → KeptAfter s setup.hash setup.few_contracts strings g w keeps.book (checks s setup g w keeps)
      keeps.clear e (pending s w e)
  book_after (events.Advertise contract bindings) is =
      advertise_after s setup setup.hash setup.few_contracts strings g w keeps.book check keeps.clear keeps.promises.told contract bindings
  book_after (events.Commit contract party digests) is =
      commit_after s setup strings g w keeps.book check keeps.clear keeps.promises keeps.labels contract party digests is.1
  book_after (events.Endorse contract party) is =
      endorse_after s setup.hash setup.few_contracts strings g w keeps.book check keeps.clear (events.Endorse contract party) contract party is
  book_after (events.Init contract party) is = init_after s setup.hash setup.few_contracts strings g w keeps.book check keeps.clear contract party is
  book_after (events.Authorise party output branch) is =
      authorise_after s setup.hash setup.few_contracts strings g w keeps.book check keeps.clear party output branch
  book_after (events.Reveal contract party secret) is =
      reveal_after s setup.hash setup.few_contracts strings g w keeps.book check keeps.clear (events.Reveal contract party secret) contract party secret
  book_after (events.Post bytes) is = posting_after s setup.hash setup.few_contracts strings g w keeps.book check keeps.clear (events.Post bytes) bytes None
  book_after (events.Sign party label digest) is =
      sign_after s setup.hash setup.few_contracts strings g w keeps.book check keeps.clear (events.Sign party label digest) party label digest is.1
  book_after (events.Give party inputs outputs) is =
      gift_after s setup.hash setup.few_contracts strings g w keeps.book fit check keeps.clear party is.giver inputs outputs
      (events.Give party inputs outputs) is.few_outputs
  book_after (events.Append bytes) is =
      append_after s setup.hash setup.few_contracts strings g w keeps.book fit check keeps.clear (events.Append bytes) bytes is
  book_after (events.FireInit contract) is =
      fire_init_after s setup.hash setup.few_contracts strings g w keeps.book fit check keeps.clear (events.FireInit contract) contract
  book_after (events.Fire output branch) is =
      fire_after s setup.hash setup.few_contracts strings g w keeps.book fit check keeps.clear (events.Fire output branch) output branch
  book_after (events.Mine blocks) is = mine_after s setup.hash setup.few_contracts strings g w keeps.book check keeps.clear (events.Mine blocks) blocks

  -- every event that doesn't collide keeps all of it
  pub keeps_after : (e : Event) → IsEvent s e → collision s.hash w.hashed (pending s w e).hashes ≡ None
      → KeptBooks s (after_steps g (steps_of s strings g w (applied w (pending s w e)) e (pending s w e))) (applied w (pending s w e))
  keeps_after e is apart = record {
    book = book_after e is apart;
    promises = promises_after s setup.hash w keeps.promises e is;
    labels = labels_after s setup.hash setup.few_contracts g w keeps.book check keeps.clear keeps.labels e is;
    clear = no_collision s.hash w.hashed (pending s w e).hashes keeps.clear apart;
  }
