-- What is kept of honest parties throughout a run: they authorise only by their own events, and their deposits go only with their leave.
use Rattle.std.proofs.Common.{◌≡◌, ℕ, List, [], ◌∷◌, ◌++◌, None}
use Rattle.spec_calculus.specs.Configuration.{Configuration}
use Rattle.spec_calculus.specs.Steps.{after_steps}
use Rattle.spec_run.specs.declared.event.Event.{Event}
use Rattle.spec_run.specs.declared.outcome.Record.{Record}
use Rattle.spec_run.specs.Setup.{Setup}
use Rattle.spec_data.specs.Messages.{collision}
use Rattle.spec_run.specs.World.{World}
use Rattle.spec_run.specs.Conditions.{IsSetup, IsEvent}
use Rattle.spec_run.specs.Pending.{applied, guess}
use Rattle.spec_run.specs.Event.{pending, record_of, opening_world}
use Rattle.spec_run.specs.Steps.{steps_of}
use Rattle.spec_run.specs.Translation.{opening_configuration}
use Rattle.spec_run.specs.HonestDeposits.{SpendsWithLeave}
use Rattle.spec_run.specs.Licence.{Licensed}
use Rattle.spec_run.specs.Statements.{IsRun, spends_with_leave, licensed, HonestDepositsTheorem, LicenceTheorem}
use Rattle.theory_run.proofs.Facts.KeptSecrets.{Begins}
use Rattle.theory_run.proofs.Following.{Keeps, run_posts, holds_throughout}
use Rattle.theory_run.proofs.Facts.Bookkeeping.{checks, fits}
use Rattle.theory_run.specs.KeptRuns.{KeptRun}
use Rattle.theory_run.proofs.Simulated.{run_after, opening_run}
use Rattle.theory_run.proofs.Honest.Leaves.{KeptLeave, opening_leave}
use Rattle.theory_run.proofs.Honest.Left.{leave_after}
use Rattle.theory_run.proofs.Honest.HonestSpends.{leave_of_event}
use Rattle.theory_run.proofs.Honest.LicensedEvents.{licence_of_event}

-- what is kept of the run, and of what honest parties have let be spent
pub record KeptHonest (s : Setup) (z : List (List ℕ)) (before : List Record) (g : Configuration) (w : World) : Type 0 where
  pub run : KeptRun s z g w
  pub leave : KeptLeave s before g w

module _ (s : Setup) (setup : IsSetup s) (z : List (List ℕ)) (before : List Record) (g : Configuration) (w : World) (kept : KeptHonest s z before g w)
    (e : Event) (is : IsEvent s e) (calm : collision s.hash w.hashed (pending s w e).hashes ≡ None)
    (unguessed : guess s w.posted (pending s w e).posts (pending s w e).allowed ≡ None) (begins : Begins z (applied w (pending s w e)).posted) where
  pub honest_after : KeptHonest s z (before ++ record_of e (pending s w e) ∷ [])
      (after_steps g (steps_of s z g w (applied w (pending s w e)) e (pending s w e))) (applied w (pending s w e))
  honest_after =
      let books = kept.run.books in
      record {
        run = run_after s setup z g w kept.run e is calm unguessed begins;
        leave = leave_after s setup.hash setup.few_contracts z before g w books.book (fits s setup g w books) (checks s setup g w books)
            books.clear kept.leave e is calm;
      }

  pub left_with_leave : SpendsWithLeave s before w (record_of e (pending s w e)) (applied w (pending s w e))
  left_with_leave =
      let books = kept.run.books in
      leave_of_event s setup before g w books.book (fits s setup g w books) (checks s setup g w books) kept.leave books.clear e is calm

  by_own_event : Licensed s e (steps_of s z g w (applied w (pending s w e)) e (pending s w e))
  by_own_event =
      let books = kept.run.books in
      let tracks = kept.run.tracks in
      licence_of_event s setup z before g w books.book (fits s setup g w books) (checks s setup g w books) kept.leave tracks.secrets
      tracks.constant tracks.advertised e is calm unguessed begins

pub opening_honest : (s : Setup) (es : List Event) → IsRun s es → (z : List (List ℕ)) → KeptHonest s z [] (opening_configuration s) (opening_world s)
opening_honest s es run z = record { run = opening_run s es run z; leave = opening_leave s (opening_configuration s) }

keeps_leave : (s : Setup) → IsSetup s → (z : List (List ℕ)) → Keeps s (spends_with_leave s) (KeptHonest s z) z
keeps_leave s setup z = record {
  step = λ before g w e k is calm unguessed begins. (
    left_with_leave s setup z before g w k e is calm
        unguessed begins,
    honest_after s setup z before g w k e is calm unguessed begins,
  );
}

keeps_licence : (s : Setup) → IsSetup s → (z : List (List ℕ)) → Keeps s (licensed s) (KeptHonest s z) z
keeps_licence s setup z = record {
  step = λ before g w e k is calm unguessed begins. (
    by_own_event s setup z before g w k e is calm
        unguessed begins,
    honest_after s setup z before g w k e is calm unguessed begins,
  );
}

-- an honest party's live deposit goes only with its leave
pub honest_deposits : HonestDepositsTheorem
honest_deposits s es run =
    let z = run_posts s es in
    holds_throughout s (spends_with_leave s) (KeptHonest s z) es (keeps_leave s run.setup z) run.events (opening_honest s es run z)

-- honest parties authorise only by their own events
pub licence : LicenceTheorem
licence s es run =
    let z = run_posts s es in
    holds_throughout s (licensed s) (KeptHonest s z) es (keeps_licence s run.setup z) run.events (opening_honest s es run z)
