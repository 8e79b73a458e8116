-- What is kept of a run is kept where more was hashed.
use Rattle.std.proofs.Common.{◌≡◌, ℕ, List, [], None, refl, subst, append-nil, inl}
use Rattle.spec_data.specs.Messages.{noted_all, collision}
use Rattle.spec_calculus.specs.Configuration.{Configuration}
use Rattle.spec_run.specs.declared.event.Event.TheVariants as events
use Rattle.spec_run.specs.declared.outcome.Reason.TheVariants as reason
use Rattle.spec_run.specs.Setup.{Setup}
use Rattle.spec_run.specs.World.{World}
use Rattle.spec_run.specs.Conditions.{IsSetup}
use Rattle.theory_world.proofs.Hashed.{no_collision, all_more}
use Rattle.theory_run.specs.KeptBook.{KeptBook}
use Rattle.theory_run.proofs.Facts.KeptCommitments.{promises_stay}
use Rattle.theory_run.proofs.Facts.OwnLabels.{labels_later}
use Rattle.theory_run.specs.KeptRuns.{KeptBooks}
use Rattle.theory_run.proofs.Facts.Bookkeeping.{checks}
use Rattle.theory_run.proofs.Events.Quiet.{refused_after}
use Rattle.bm_world_board.specs.Playable.{Kept}

module _ (s : Setup) (setup : IsSetup s) (g : Configuration) (w : World) (keeps : KeptBooks s g w) (xs : List (List ℕ))
    (apart : collision s.hash w.hashed xs ≡ None) where
  abbrev heard : World
  heard = record w { hashed = noted_all w.hashed xs }

  -- a refused event leaves as much
  book_heard : KeptBook s g (record w { hashed = noted_all w.hashed xs })
  book_heard =
      subst (λ posted. KeptBook s g (record w { hashed = noted_all w.hashed xs; posted = posted })) (append-nil w.posted)
      (refused_after s setup.hash setup.few_contracts [] g w keeps.book (checks s setup g w keeps) keeps.clear (events.Mine 1) xs
      reason.NotActive apart)

  pub books_heard : KeptBooks s g (record w { hashed = noted_all w.hashed xs })
  books_heard = record {
    book = book_heard;
    promises = promises_stay s w heard keeps.promises refl (λ k h. h);
    labels = labels_later s w heard [] keeps.labels
        (record { hashed = λ t h. all_more w.hashed xs t h; adverts = λ k h. h; promises = λ k a h. h }) (λ k d h. inl h) (λ k d h. cc);
    clear = no_collision s.hash w.hashed xs keeps.clear apart;
  }

pub kept_heard : (s : Setup) (w : World) (xs : List (List ℕ)) → IsSetup s → Kept s w → collision s.hash w.hashed xs ≡ None
    → Kept s (record w { hashed = noted_all w.hashed xs })
kept_heard s w xs setup kept apart = record { config = kept.config; books = books_heard s setup kept.config w kept.books xs apart }
