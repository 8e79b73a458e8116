-- Every event's steps are legal, and the configuration tracks the world after them.
use Rattle.std.proofs.Common.{◌≡◌, ℕ, ◌≤◌, List, [], ◌++◌, length, true, Option, Some, None, Result, Ok, Err, refl}
use Rattle.spec_data.specs.Lists.{NoneTrue, first_reason}
use Rattle.spec_data.proofs.ListLemmas.{no_reason-none_true}
use Rattle.spec_bitcoin.specs.declared.tx.Tx.{Tx}
use Rattle.spec_bitcoin.specs.declared.verdict.Verdict.{Verdict}
use Rattle.spec_bitcoin.specs.declared.verdict.Verdict.TheVariants as verdicts
use Rattle.spec_bitcoin.specs.Keys.{Pair}
use Rattle.spec_bitcoin.specs.Reading.{transaction_of}
use Rattle.spec_calculus.specs.Configuration.{Configuration}
use Rattle.spec_run.specs.declared.event.Event.{Event}
use Rattle.spec_run.specs.declared.event.Event.TheVariants as events
use Rattle.spec_run.specs.declared.outcome.Reason.TheVariants as reason
use Rattle.spec_run.specs.Setup.{Setup, is_declared}
use Rattle.spec_data.specs.Messages.{noted_all}
use Rattle.spec_run.specs.World.{World, live_position_at}
use Rattle.spec_run.specs.Compiled.{compiled_instance}
use Rattle.spec_run.specs.Conditions.{IsSetup, IsEvent}
use Rattle.spec_run.specs.Secrets.{all_secrets}
use Rattle.spec_run.specs.Signing.{signed_all, with_pairs}
use Rattle.spec_run.specs.Giving.{give_row, given_pairs, gift, give_pending}
use Rattle.spec_run.specs.Firing.{initial_by, taking_of_position, reaches_if, fire_init_row, fire_row}
use Rattle.spec_run.specs.Ledger.{verdict_in, strings_of, items_of, judged, reaches}
use Rattle.spec_run.specs.Event.{append_read, pending}
use Rattle.theory_world.proofs.Hashed.{all_more}
use Rattle.theory_run.proofs.Facts.Secrets.{different_secrets}
use Rattle.theory_world.specs.Transactions.{IsNumbered}
use Rattle.theory_world.proofs.Ledger.Worth.{accepted_by}
use Rattle.theory_run.specs.KeptPromises.{PromisesNamed}
use Rattle.theory_run.specs.KeptBook.{KeptBook}
use Rattle.theory_run.proofs.Accepted.Spending.{TransactionsFit, Checked}
use Rattle.theory_run.proofs.Events.Fired.{piece_numbered, started_numbered, taken_numbered}
use Rattle.theory_run.proofs.Events.Given.{gift_numbered, signed_kept}
use Rattle.theory_run.specs.Tracks.{Tracks}
use Rattle.theory_run.proofs.Tracking.Tracked.{Tracked, refused_tracked, unless_tracked, endorse_tracked, sign_tracked, mine_tracked}
use Rattle.theory_run.proofs.Tracking.Signs.{authorise_tracked, init_tracked}
use Rattle.theory_run.proofs.Tracking.Secrets.{post_tracked, reveal_tracked, commit_tracked}
use Rattle.theory_run.proofs.Tracking.Adverts.{advertise_tracked}
use Rattle.theory_run.proofs.Tracking.Accepted.{accepted_tracked}

module _ (s : Setup) (setup : IsSetup s) (z : List (List ℕ)) (apart : different_secrets (all_secrets s) ≡ true) (g : Configuration)
    (w : World) (tracks : Tracks s z g w)
    (kept : KeptBook s g w) (fit : TransactionsFit s w) (check : Checked s w) (named : PromisesNamed s w.promises) where
  -- ---- a transaction reaches the ledger

  reaches_tracked : (e : Event) (tx : Tx) → IsNumbered tx → Tracked s z g w e (reaches s w w tx)
  reaches_tracked e tx fits = by_verdict (verdict_in s w tx) refl
    where
      by_verdict : (v : Verdict) → verdict_in s w tx ≡ v → Tracked s z g w e (judged s w w tx v)
      by_verdict (verdicts.Refused r) h = refused_tracked s z apart g w tracks e (strings_of s w tx) (reason.Ledger r)
      by_verdict (verdicts.Accepted spent made) h = λ clear unguessed begins.
          accepted_tracked s setup z apart g w tracks w.book w.hashed kept fit check named tx fits spent (accepted_by s w tx spent made h)
          clear unguessed (λ t k. all_more w.hashed (strings_of s w tx ++ items_of tx) t k) begins e

  reaches_if_tracked : (e : Event) (o : Option Tx) → ((tx : Tx) → o ≡ Some tx → IsNumbered tx) → Tracked s z g w e (reaches_if s w o)
  reaches_if_tracked e None fits = refused_tracked s z apart g w tracks e [] reason.NotCompiled
  reaches_if_tracked e (Some tx) fits = reaches_tracked e tx (fits tx refl)

  append_tracked : (e : Event) (r : Result Tx ℕ) → ((tx : Tx) → r ≡ Ok tx → IsNumbered tx) → Tracked s z g w e (append_read s w r)
  append_tracked e (Ok tx) fits = reaches_tracked e tx (fits tx refl)
  append_tracked e (Err place) fits = refused_tracked s z apart g w tracks e [] (reason.BadTx place)

  -- a gift, whose signatures come with it
  module _ (party : List ℕ) (inputs : List ℕ) (outputs : List (List ℕ × ℕ)) (declared : is_declared s party ≡ true) (few : length outputs ≤ 262144) where
    abbrev giving : Event
    giving = events.Give party inputs outputs

    abbrev pairs : List Pair
    pairs = given_pairs s w party inputs outputs

    abbrev given : Tx
    given = gift s w party inputs outputs

    given_tracked : NoneTrue (give_row s w party inputs outputs) → (v : Verdict) → verdict_in s (with_pairs w pairs) given ≡ v
        → Tracked s z g w giving (judged s w (with_pairs w pairs) given v)
    given_tracked row (verdicts.Refused r) h = refused_tracked s z apart g w tracks giving (strings_of s (with_pairs w pairs) given) (reason.Ledger r)
    given_tracked row (verdicts.Accepted spent made) h = λ clear unguessed begins.
        let hs = noted_all w.hashed (strings_of s w given ++ items_of given) in
        let signed : KeptBook s g (record w { book = signed_all w.book pairs; hashed = hs }) =
        signed_kept s setup.hash setup.few_contracts z g w kept fit check tracks.secrets.clear party declared inputs outputs few row spent made h clear in
        accepted_tracked s setup z apart g w tracks (signed_all w.book pairs) hs signed
        (record { initial = fit.initial; branch = fit.branch }) (record { checked = check.checked; committed = check.committed }) named given
        (gift_numbered s setup.hash setup.few_contracts z g w kept fit check tracks.secrets.clear party declared inputs outputs few row)
        spent (accepted_by s (record w { book = signed_all w.book pairs; hashed = hs }) given spent made h) clear unguessed (λ t k. k) begins giving

    give_tracked : Tracked s z g w giving (give_pending s w party inputs outputs)
    give_tracked = unless_tracked s z apart g w tracks giving (first_reason (give_row s w party inputs outputs)) []
        (reaches s w (with_pairs w pairs) given)
        (λ r. given_tracked (no_reason-none_true (give_row s w party inputs outputs) r) (verdict_in s (with_pairs w pairs) given) refl)

  -- ---- every event

  pub tracked_after : (e : Event) → IsEvent s e → Tracked s z g w e (pending s w e)
  tracked_after (events.Advertise k bs) is = advertise_tracked s setup z apart g w tracks k bs
  tracked_after (events.Commit k party ds) is = commit_tracked s z apart g w tracks k party ds
  tracked_after (events.Endorse k party) is = endorse_tracked s z apart g w tracks k party
  tracked_after (events.Init k party) is = init_tracked s z apart g w tracks check k party
  tracked_after (events.Authorise party n j) is = authorise_tracked s z apart g w tracks party n j
  tracked_after (events.Reveal k party name) is = reveal_tracked s z apart g w tracks k party name
  tracked_after (events.Post string) is = post_tracked s z apart g w tracks string
  tracked_after (events.Sign party label digest) is = sign_tracked s z apart g w tracks party label digest
  tracked_after (events.Give party inputs outputs) is = give_tracked party inputs outputs is.giver is.few_outputs
  tracked_after (events.Append bytes) is = append_tracked (events.Append bytes) (transaction_of bytes) (λ tx h. piece_numbered bytes is tx h)
  tracked_after (events.FireInit k) is =
      unless_tracked s z apart g w tracks (events.FireInit k) (first_reason (fire_init_row s w k)) [] (reaches_if s w (initial_by s (compiled_instance s w k)))
      (λ r. reaches_if_tracked (events.FireInit k) (initial_by s (compiled_instance s w k))
      (started_numbered s setup.hash setup.few_contracts z g w kept fit check tracks.secrets.clear k))
  tracked_after (events.Fire n j) is =
      unless_tracked s z apart g w tracks (events.Fire n j) (first_reason (fire_row s w n j)) []
      (reaches_if s w (taking_of_position s w (live_position_at w n) j))
      (λ r. reaches_if_tracked (events.Fire n j) (taking_of_position s w (live_position_at w n) j)
      (taken_numbered s setup.hash setup.few_contracts z g w kept fit check tracks.secrets.clear n j))
  tracked_after (events.Mine blocks) is = mine_tracked s z apart g w tracks blocks is
