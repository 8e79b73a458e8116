-- Honest deposits go only with leave, and offers are kept: what every run keeps besides.
use Rattle.std.proofs.Common.{◌≡◌, ℕ, List, [], ◌++◌, false, Option, Some, None, Result, Ok, Err, refl, sym, subst}
use Rattle.spec_data.specs.Lists.{NoneTrue, first_reason}
use Rattle.spec_data.proofs.ListLemmas.{no_reason-none_true}
use Rattle.spec_bitcoin.specs.declared.tx.Tx.{Tx}
use Rattle.spec_bitcoin.specs.declared.verdict.Verdict.{Verdict}
use Rattle.spec_bitcoin.specs.declared.verdict.Verdict.TheVariants as verdicts
use Rattle.spec_bitcoin.specs.Keys.{Pair}
use Rattle.spec_bitcoin.specs.Reading.{transaction_of}
use Rattle.spec_calculus.specs.Configuration.{Configuration}
use Rattle.spec_run.specs.declared.event.Event.{Event}
use Rattle.spec_run.specs.declared.event.Event.TheVariants as events
use Rattle.spec_run.specs.declared.outcome.Record.{Record}
use Rattle.spec_run.specs.declared.outcome.Reason.{Reason}
use Rattle.spec_run.specs.declared.outcome.Reason.TheVariants as reason
use Rattle.spec_run.specs.Setup.{Setup}
use Rattle.spec_data.specs.Messages.{noted_all, collision}
use Rattle.spec_run.specs.World.{World, live_position_at}
use Rattle.spec_run.specs.Compiled.{compiled_instance}
use Rattle.spec_run.specs.Conditions.{IsSetup, IsEvent, IsGift}
use Rattle.spec_run.specs.Pending.{applied, unless}
use Rattle.spec_run.specs.Signing.{signed_all, with_pairs}
use Rattle.spec_run.specs.Giving.{give_row, given_pairs, gift, give_pending}
use Rattle.spec_run.specs.Firing.{initial_by, taking_of_position, reaches_if, fire_init_row, fire_row}
use Rattle.spec_run.specs.Ledger.{verdict_in, strings_of, items_of, accepted, judged, reaches, initial_of}
use Rattle.spec_run.specs.HonestDeposits.{gives, SpendsWithLeave}
use Rattle.spec_run.specs.Event.{append_read, pending, record_of}
use Rattle.theory_world.proofs.Ledger.Worth.{accepted_by}
use Rattle.theory_run.specs.KeptBook.{KeptBook}
use Rattle.theory_run.proofs.Accepted.WhatItIs.{initial_is}
use Rattle.theory_run.proofs.Events.Given.{signed_kept}
use Rattle.theory_run.proofs.Accepted.ScriptsApart.{gift_starts_nothing}
use Rattle.theory_run.specs.KeptRuns.{KeptBooks}
use Rattle.theory_run.proofs.Facts.Bookkeeping.{checks, fits}
use Rattle.theory_run.proofs.Honest.Leaves.{KeptLeave}
use Rattle.theory_run.proofs.Honest.HonestSpends.{leave_of_event}
use Rattle.theory_offers.proofs.Endorsing.{KeptStarts}
use Rattle.theory_offers.proofs.Basis.Offered.{KeptOffers}
use Rattle.theory_offers.proofs.Basis.EveryEvent.{OffersKept, refused_offers, endorse_every, sign_every, mine_every, authorise_every, init_every, post_every, reveal_every, advertise_every, commit_every}
use Rattle.theory_offers.proofs.Basis.Reached.{BeginsEndorsed, accepted_every, given_accepted}
use Rattle.theory_offers.proofs.Basis.Begun.{begins_endorsed}

module _ (s : Setup) (setup : IsSetup s) (z : List (List ℕ)) (before : List Record) (g : Configuration)
    (w : World) (books : KeptBooks s g w) (leave : KeptLeave s before g w) (starts : KeptStarts s before w) (more : KeptOffers s g w) where
  -- ---- a transaction reaches the ledger

  -- in an event whose signatures were there before
  module _ (e : Event) (is : IsEvent s e) (no_gift : (a : List ℕ) (n : ℕ) → gives a n e ≡ false) where
    -- a contract that begins by an accepted transaction is endorsed
    pub begins_ready : (tx : Tx) (spent made : List ℕ) → verdict_in s w tx ≡ verdicts.Accepted spent made → pending s w e ≡ accepted s w tx spent
        → collision s.hash w.hashed (accepted s w tx spent).hashes ≡ None → BeginsEndorsed s w tx
    begins_ready tx spent made h d c =
        let left : SpendsWithLeave s before w (record_of e (pending s w e)) (applied w (pending s w e)) =
        leave_of_event s setup before g w books.book (fits s setup g w books)
        (checks s setup g w books) leave books.clear e is (subst (λ x. collision s.hash w.hashed x.hashes ≡ None) (sym d) c) in
        let went : SpendsWithLeave s before w (record_of e (accepted s w tx spent)) (applied w (accepted s w tx spent)) =
        subst (λ x. SpendsWithLeave s before w (record_of e x) (applied w x)) d left in
        begins_endorsed s g w books.book (checks s setup g w books) books.clear before starts e tx spent (accepted_by s w tx spent made h) went no_gift

    reaches_offers : (tx : Tx) → pending s w e ≡ reaches s w w tx → collision s.hash w.hashed (reaches s w w tx).hashes ≡ None
        → OffersKept s z g w books.book more e (reaches s w w tx)
    reaches_offers tx same calm = by_verdict (verdict_in s w tx) refl same calm
      where
        by_verdict : (v : Verdict) → verdict_in s w tx ≡ v → pending s w e ≡ judged s w w tx v
            → collision s.hash w.hashed (judged s w w tx v).hashes ≡ None → OffersKept s z g w books.book more e (judged s w w tx v)
        by_verdict (verdicts.Refused r) h d c = refused_offers s z g w books.book more e (strings_of s w tx) (reason.Ledger r)
        by_verdict (verdicts.Accepted spent made) h d c =
            accepted_every s z g w books.book more tx spent (accepted_by s w tx spent made h) e (begins_ready tx spent made h d c)

    reaches_if_offers : (o : Option Tx) → pending s w e ≡ reaches_if s w o → collision s.hash w.hashed (reaches_if s w o).hashes ≡ None
        → OffersKept s z g w books.book more e (reaches_if s w o)
    reaches_if_offers None same calm = refused_offers s z g w books.book more e [] reason.NotCompiled
    reaches_if_offers (Some tx) same calm = reaches_offers tx same calm

    append_offers : (r : Result Tx ℕ) → pending s w e ≡ append_read s w r → collision s.hash w.hashed (append_read s w r).hashes ≡ None
        → OffersKept s z g w books.book more e (append_read s w r)
    append_offers (Ok tx) same calm = reaches_offers tx same calm
    append_offers (Err place) same calm = refused_offers s z g w books.book more e [] (reason.BadTx place)

  unless_reached : (e : Event) → IsEvent s e → ((a : List ℕ) (n : ℕ) → gives a n e ≡ false) → (reached : Option Tx) (r : Option Reason)
      → pending s w e ≡ unless r w [] (reaches_if s w reached)
      → collision s.hash w.hashed (pending s w e).hashes ≡ None → OffersKept s z g w books.book more e (unless r w [] (reaches_if s w reached))
  unless_reached e is no_gift reached None same calm =
      reaches_if_offers e is no_gift reached same (subst (λ x. collision s.hash w.hashed x.hashes ≡ None) same calm)
  unless_reached e is no_gift reached (Some r) same calm = refused_offers s z g w books.book more e [] r

  -- a gift, whose signatures come with it
  module _ (party : List ℕ) (inputs : List ℕ) (outputs : List (List ℕ × ℕ)) (is : IsGift s party inputs outputs) where
    abbrev giving : Event
    giving = events.Give party inputs outputs

    abbrev pairs : List Pair
    pairs = given_pairs s w party inputs outputs

    abbrev given : Tx
    given = gift s w party inputs outputs

    pub starts_nothing : initial_of s w given ≡ None
    starts_nothing = by_found (initial_of s w given) refl
      where
        by_found : (o : Option ℕ) → initial_of s w given ≡ o → o ≡ None
        by_found None h = refl
        by_found (Some k) h =
            let it = initial_is s w given k h in
            absurd (gift_starts_nothing s setup.hash setup.few_contracts g w books.book (checks s setup g w books) books.clear k it.instance
            it.compiled party inputs outputs is.takers is.some_output it.is)

    given_offers : NoneTrue (give_row s w party inputs outputs) → (v : Verdict) → verdict_in s (with_pairs w pairs) given ≡ v
        → collision s.hash w.hashed (judged s w (with_pairs w pairs) given v).hashes ≡ None
        → OffersKept s z g w books.book more giving (judged s w (with_pairs w pairs) given v)
    given_offers row (verdicts.Refused r) h calm = refused_offers s z g w books.book more giving (strings_of s (with_pairs w pairs) given) (reason.Ledger r)
    given_offers row (verdicts.Accepted spent made) h calm =
        let hs = noted_all w.hashed (strings_of s w given ++ items_of given) in
        let signed : KeptBook s g (record w { book = signed_all w.book pairs; hashed = hs }) =
        signed_kept s setup.hash setup.few_contracts z g w books.book
        (fits s setup g w books) (checks s setup g w books) books.clear party is.giver inputs outputs is.few_outputs row spent made h calm in
        given_accepted s z g w books.book more pairs hs signed giving given spent
        (accepted_by s (record w { book = signed_all w.book pairs; hashed = hs }) given spent made h) starts_nothing

    give_offers : collision s.hash w.hashed (give_pending s w party inputs outputs).hashes ≡ None
        → OffersKept s z g w books.book more giving (give_pending s w party inputs outputs)
    give_offers = by_reason (first_reason (give_row s w party inputs outputs)) refl
      where
        by_reason : (r : Option Reason) → first_reason (give_row s w party inputs outputs) ≡ r
            → collision s.hash w.hashed (unless r w [] (reaches s w (with_pairs w pairs) given)).hashes ≡ None
            → OffersKept s z g w books.book more giving (unless r w [] (reaches s w (with_pairs w pairs) given))
        by_reason (Some r) e calm = refused_offers s z g w books.book more giving [] r
        by_reason None e calm = given_offers (no_reason-none_true (give_row s w party inputs outputs) e) (verdict_in s (with_pairs w pairs) given) refl calm

  -- ---- every event

  pub offers_after : (e : Event) → IsEvent s e → collision s.hash w.hashed (pending s w e).hashes ≡ None → OffersKept s z g w books.book more e (pending s w e)
  offers_after (events.Advertise k bs) is calm = advertise_every s z g w books.book more k bs
  offers_after (events.Commit k party ds) is calm = commit_every s z g w books.book more k party ds
  offers_after (events.Endorse k party) is calm = endorse_every s z g w books.book more k party
  offers_after (events.Init k party) is calm = init_every s z g w books.book more (checks s setup g w books) k party
  offers_after (events.Authorise party n j) is calm = authorise_every s z g w books.book more party n j
  offers_after (events.Reveal k party name) is calm = reveal_every s z g w books.book more k party name
  offers_after (events.Post string) is calm = post_every s z g w books.book more string
  offers_after (events.Sign party label digest) is calm = sign_every s z g w books.book more party label digest
  offers_after (events.Give party inputs outputs) is calm = give_offers party inputs outputs is calm
  offers_after (events.Append bytes) is calm = append_offers (events.Append bytes) is (λ a n. refl) (transaction_of bytes) refl calm
  offers_after (events.FireInit k) is calm =
      unless_reached (events.FireInit k) is (λ a n. refl) (initial_by s (compiled_instance s w k)) (first_reason (fire_init_row s w k)) refl calm
  offers_after (events.Fire n j) is calm =
      unless_reached (events.Fire n j) is (λ a m. refl) (taking_of_position s w (live_position_at w n) j) (first_reason (fire_row s w n j)) refl calm
  offers_after (events.Mine blocks) is calm = mine_every s z g w books.book more blocks
