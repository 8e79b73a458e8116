-- Everything that a run keeps, from its opening to its end; and that what is offered at its end is kept.
use Rattle.std.proofs.Common.{◌≡◌, ℕ, List, [], ◌∷◌, ◌++◌, None, refl, sym, subst}
use Rattle.spec_calculus.specs.Configuration.{Configuration}
use Rattle.spec_calculus.specs.Steps.{after_steps}
use Rattle.spec_run.specs.declared.event.Event.{Event}
use Rattle.spec_run.specs.declared.outcome.Record.{Record}
use Rattle.spec_run.specs.Setup.{Setup}
use Rattle.spec_data.specs.Messages.{collision}
use Rattle.spec_run.specs.World.{World}
use Rattle.spec_run.specs.Conditions.{IsSetup, IsEvent}
use Rattle.spec_run.specs.Pending.{applied, guess}
use Rattle.spec_run.specs.Event.{pending, record_of, opening_world}
use Rattle.spec_run.specs.Steps.{steps_of}
use Rattle.spec_run.specs.Translation.{opening_configuration, last_configuration, last_world}
use Rattle.spec_run.specs.Agreement.{Agree}
use Rattle.spec_run.specs.Statements.{IsRun, spends_with_leave, OffersTheorem}
use Rattle.theory_run.proofs.Facts.KeptSecrets.{Begins}
use Rattle.theory_run.proofs.Steps.Followed.{agree_all}
use Rattle.theory_run.proofs.Following.{Keeps, run_posts, run_posts_last, kept_at_end}
use Rattle.theory_run.proofs.Facts.Growing.{grows}
use Rattle.theory_run.proofs.Facts.Bookkeeping.{checks}
use Rattle.theory_run.proofs.Honest.Throughout.{KeptHonest, honest_after, left_with_leave, opening_honest}
use Rattle.theory_offers.proofs.Endorsing.{KeptStarts, opening_starts, starts_after}
use Rattle.theory_offers.proofs.Basis.Offered.{KeptOffers}
use Rattle.theory_offers.proofs.Basis.Opening.{opening_kept}
use Rattle.theory_offers.proofs.OffersKept.{offers_kept}
use Rattle.theory_offers.proofs.Faithful.{offers_after}

-- what is kept of honest parties, of what they have started, and of what offers rest on
pub record KeptAll (s : Setup) (z : List (List ℕ)) (before : List Record) (g : Configuration) (w : World) : Type 0 where
  pub honest : KeptHonest s z before g w
  pub starts : KeptStarts s before w
  pub more : KeptOffers s g w

module _ (s : Setup) (setup : IsSetup s) (z : List (List ℕ)) (before : List Record) (g : Configuration) (w : World) (kept : KeptAll s z before g w)
    (e : Event) (is : IsEvent s e) (calm : collision s.hash w.hashed (pending s w e).hashes ≡ None)
    (unguessed : guess s w.posted (pending s w e).posts (pending s w e).allowed ≡ None) (begins : Begins z (applied w (pending s w e)).posted) where
  pub all_after : KeptAll s z (before ++ record_of e (pending s w e) ∷ [])
      (after_steps g (steps_of s z g w (applied w (pending s w e)) e (pending s w e))) (applied w (pending s w e))
  all_after =
      let books = kept.honest.run.books in
      record {
        honest = honest_after s setup z before g w kept.honest e is calm unguessed begins;
        starts = starts_after s before w kept.starts e (grows s g w books.book e);
        more = offers_after s setup z before g w books kept.honest.leave kept.starts kept.more e is calm;
      }

pub opening_all : (s : Setup) (es : List Event) → IsRun s es → (z : List (List ℕ)) → KeptAll s z [] (opening_configuration s) (opening_world s)
opening_all s es run z = record { honest = opening_honest s es run z; starts = opening_starts s (opening_world s); more = opening_kept s run.setup }

pub keeps_all : (s : Setup) → IsSetup s → (z : List (List ℕ)) → Keeps s (spends_with_leave s) (KeptAll s z) z
keeps_all s setup z = record {
  step = λ before g w e k is calm unguessed begins. (
    left_with_leave s setup z before g w k.honest e is calm
        unguessed begins,
    all_after s setup z before g w k e is calm unguessed begins,
  );
}

-- what is offered after a run is kept
pub kept_offers : OffersTheorem
kept_offers s es run offer there =
    let z = run_posts s es in
    let g = last_configuration s es in
    let w = last_world s es in
    let last = (kept_at_end s (spends_with_leave s) (KeptAll s z) es (keeps_all s run.setup z) run.events (opening_all s es run z)).holds in
    let tracks = last.honest.run.tracks in
    let books = last.honest.run.books in
    let agree : Agree s g w = agree_all s g w books.book z tracks.money tracks.secrets tracks.advertised in
    let begins : Begins z w.posted = subst (λ y. Begins z y) (sym (run_posts_last s es)) (record { first = λ p h. refl }) in
    offers_kept s run.setup z g w agree books.book (checks s run.setup g w books) tracks.secrets begins last.more offer there
