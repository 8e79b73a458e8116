-- What an event leaves of what the parties tell each other.
use Rattle.std.proofs.Common.{◌≡◌, ℕ, ◌+◌, List, [], ◌∷◌, ◌++◌, false, Option, Some, None, Result, Ok, Err, refl, sym, append-nil}
use Rattle.std.specs.Prelude.{is_some}
use Rattle.spec_data.specs.Lists.{first_reason}
use Rattle.spec_data.proofs.ListLemmas.{no_reason-none_true}
use Rattle.spec_bitcoin.specs.declared.tx.Tx.{Tx}
use Rattle.spec_bitcoin.specs.declared.verdict.Verdict.{Verdict}
use Rattle.spec_bitcoin.specs.declared.verdict.Verdict.TheVariants as verdicts
use Rattle.spec_bitcoin.specs.Keys.{Pair, key_of, label_text}
use Rattle.spec_bitcoin.specs.Reading.{transaction_of}
use Rattle.spec_calculus.specs.declared.parts.Advertised.{Advertised}
use Rattle.spec_run.specs.declared.event.Event.{Event}
use Rattle.spec_run.specs.declared.event.Event.TheVariants as events
use Rattle.spec_run.specs.declared.outcome.Outcome.{Outcome}
use Rattle.spec_run.specs.declared.outcome.Outcome.TheVariants as outcomes
use Rattle.spec_run.specs.declared.outcome.Reason.{Reason}
use Rattle.spec_run.specs.declared.outcome.Reason.TheVariants as reason
use Rattle.spec_run.specs.Setup.{Setup}
use Rattle.spec_run.specs.World.{Promise, World, is_advertised, has_promised, live_position_at}
use Rattle.spec_run.specs.Compiled.{compiled_instance}
use Rattle.spec_run.specs.Pending.{Pending, done, posting, refused, unless}
use Rattle.spec_run.specs.Advertising.{arranged, deposit_names, advertise_row}
use Rattle.spec_run.specs.Committing.{secrets_at, committed_digests, committed_strings, bad_secret, commit_row, digest_row, with_promise, committed_pending, commit_pending}
use Rattle.spec_run.specs.Signing.{with_pairs, endorsing_pairs, endorse_row, initial_pairs, init_row, authorising_pairs, authorise_row, sign_row}
use Rattle.spec_run.specs.Revealing.{own_secret, reveal_row}
use Rattle.spec_run.specs.Giving.{give_row, given_pairs, gift}
use Rattle.spec_run.specs.Firing.{initial_by, taking_of_position, reaches_if, fire_init_row, fire_row}
use Rattle.spec_run.specs.Ledger.{verdict_in, strings_of, judged, reaches}
use Rattle.spec_run.specs.Event.{append_read, mine_row, pending}
use Rattle.bm_translate.specs.Shown.{posts_by}

-- ---- what an event tells

abbrev pub promise_of : Setup → ℕ → List ℕ → List (List ℕ × List ℕ) → Promise
promise_of s contract party digests = record {
  contract = contract;
  party = party;
  digests = arranged [] (secrets_at s contract party) (committed_digests s contract party digests);
}

abbrev pub done_promises : Setup → Event → List Promise
done_promises s (events.Commit contract party digests) = promise_of s contract party digests ∷ []
done_promises s _ = []

abbrev pub promises_by : Setup → Event → Outcome → List Promise
promises_by s e outcomes.Done = done_promises s e
promises_by s e (outcomes.Accepted spent made lock) = []
promises_by s e (outcomes.Refused reason) = []

abbrev pub told_of : Setup → ℕ → List (List ℕ × ℕ) → Advertised
told_of s contract bindings = record { contract = contract; bindings = arranged 0 (deposit_names s contract) bindings }

abbrev pub done_adverts : Setup → Event → List Advertised
done_adverts s (events.Advertise contract bindings) = told_of s contract bindings ∷ []
done_adverts s _ = []

abbrev pub adverts_by : Setup → Event → Outcome → List Advertised
adverts_by s e outcomes.Done = done_adverts s e
adverts_by s e (outcomes.Accepted spent made lock) = []
adverts_by s e (outcomes.Refused reason) = []

-- nobody tells anything twice, and an honest party's secrets have the size of one
abbrev pub DoneFresh : Setup → World → Event → Type 0
DoneFresh s w (events.Commit contract party digests) =
    (has_promised w contract party ≡ false) × (is_some (bad_secret s contract party) ≡ false)
DoneFresh s w (events.Advertise contract bindings) = is_advertised w contract ≡ false
DoneFresh s w _ = Unit {0}

abbrev pub IsFresh : Setup → World → Event → Outcome → Type 0
IsFresh s w e outcomes.Done = DoneFresh s w e
IsFresh s w e (outcomes.Accepted spent made lock) = Unit {0}
IsFresh s w e (outcomes.Refused reason) = Unit {0}

pub record Left (s : Setup) (w : World) (e : Event) (d : Pending) : Type 0 where
  pub posts : d.posts ≡ posts_by s.header.secrets e d.tx d.outcome
  pub promises : d.world.promises ≡ w.promises ++ promises_by s e d.outcome
  pub advertised : d.world.advertised ≡ w.advertised ++ adverts_by s e d.outcome
  pub fresh : IsFresh s w e d.outcome

module _ (s : Setup) (w : World) where
  refusal : (e : Event) (hashes : List (List ℕ)) (r : Reason) → Left s w e (refused w hashes r)
  refusal e hashes r =
      record { posts = refl; promises = sym (append-nil w.promises); advertised = sym (append-nil w.advertised); fresh = tt }

  if_done : (e : Event) (r : Option Reason) (hashes : List (List ℕ)) (d : Pending) → (r ≡ None → Left s w e d) → Left s w e (unless r w hashes d)
  if_done e None hashes d h = h refl
  if_done e (Some r) hashes d h = refusal e hashes r

  -- a transaction reaches the ledger, with what was signed for it
  reaching : (e : Event) (pairs : List Pair) (tx : Tx) → Left s w e (reaches s w (with_pairs w pairs) tx)
  reaching e pairs tx = by_verdict (verdict_in s (with_pairs w pairs) tx)
    where
      by_verdict : (v : Verdict) → Left s w e (judged s w (with_pairs w pairs) tx v)
      by_verdict (verdicts.Refused r) = refusal e (strings_of s (with_pairs w pairs) tx) (reason.Ledger r)
      by_verdict (verdicts.Accepted spent made) =
          record { posts = refl; promises = sym (append-nil w.promises); advertised = sym (append-nil w.advertised); fresh = tt }

  reaching_if : (e : Event) (o : Option Tx) → Left s w e (reaches_if s w o)
  reaching_if e None = refusal e [] reason.NotCompiled
  reaching_if e (Some tx) = reaching e [] tx

  reading : (e : Event) (r : Result Tx ℕ) → Left s w e (append_read s w r)
  reading e (Ok tx) = reaching e [] tx
  reading e (Err place) = refusal e [] (reason.BadTx place)

  committing : (k : ℕ) (party : List ℕ) (ds : List (List ℕ × List ℕ)) → Left s w (events.Commit k party ds) (commit_pending s w k party ds)
  committing k party ds =
      let e = events.Commit k party ds in
      let strings = committed_strings s k party in
      let last = committed_pending s (with_promise s w k party ds) k party strings in
      if_done e (first_reason (commit_row s w k party ds)) [] _ (λ none.
      let row = no_reason-none_true (commit_row s w k party ds) none in
      if_done e (first_reason (digest_row s w k party ds)) strings last (λ fresh.
      record { posts = refl; promises = refl; advertised = sym (append-nil w.advertised); fresh = (row.1.1.1.0, row.1.1.1.1.1.1.0) }))

  pub left : (e : Event) → Left s w e (pending s w e)
  left (events.Advertise k bs) =
      if_done (events.Advertise k bs) (first_reason (advertise_row s w k bs)) []
      (done (record w { advertised = w.advertised ++ told_of s k bs ∷ [] }) []) (λ none.
      let row = no_reason-none_true (advertise_row s w k bs) none in
      record { posts = refl; promises = sym (append-nil w.promises); advertised = refl; fresh = row.1.0 })
  left (events.Commit k party ds) = committing k party ds
  left (events.Endorse k party) =
      if_done (events.Endorse k party) (first_reason (endorse_row s w k party)) []
      (done (with_pairs w (endorsing_pairs s party (compiled_instance s w k))) []) (λ r.
      record { posts = refl; promises = sym (append-nil w.promises); advertised = sym (append-nil w.advertised); fresh = tt })
  left (events.Init k party) =
      if_done (events.Init k party) (first_reason (init_row s w k party)) []
      (done (with_pairs w (initial_pairs s party (compiled_instance s w k))) []) (λ r.
      record { posts = refl; promises = sym (append-nil w.promises); advertised = sym (append-nil w.advertised); fresh = tt })
  left (events.Authorise party n j) =
      if_done (events.Authorise party n j) (first_reason (authorise_row s w party n j)) []
      (done (with_pairs w (authorising_pairs s w party (live_position_at w n) j)) []) (λ r.
      record { posts = refl; promises = sym (append-nil w.promises); advertised = sym (append-nil w.advertised); fresh = tt })
  left (events.Reveal k party name) =
      if_done (events.Reveal k party name) (first_reason (reveal_row s w k party name)) []
      (posting w (own_secret s party name) (Some (party, name))) (λ r.
      record { posts = refl; promises = sym (append-nil w.promises); advertised = sym (append-nil w.advertised); fresh = tt })
  left (events.Post string) =
      record { posts = refl; promises = sym (append-nil w.promises); advertised = sym (append-nil w.advertised); fresh = tt }
  left (events.Sign party label digest) =
      if_done (events.Sign party label digest) (first_reason (sign_row s party label)) []
      (done (with_pairs w ((key_of s.hash label, digest) ∷ [])) (label_text label ∷ [])) (λ r.
      record { posts = refl; promises = sym (append-nil w.promises); advertised = sym (append-nil w.advertised); fresh = tt })
  left (events.Give party inputs outputs) =
      if_done (events.Give party inputs outputs) (first_reason (give_row s w party inputs outputs)) []
      (reaches s w (with_pairs w (given_pairs s w party inputs outputs)) (gift s w party inputs outputs)) (λ r.
      reaching (events.Give party inputs outputs) (given_pairs s w party inputs outputs) (gift s w party inputs outputs))
  left (events.Append bytes) = reading (events.Append bytes) (transaction_of bytes)
  left (events.FireInit k) =
      if_done (events.FireInit k) (first_reason (fire_init_row s w k)) [] (reaches_if s w (initial_by s (compiled_instance s w k))) (λ r.
      reaching_if (events.FireInit k) (initial_by s (compiled_instance s w k)))
  left (events.Fire n j) =
      if_done (events.Fire n j) (first_reason (fire_row s w n j)) []
      (reaches_if s w (taking_of_position s w (live_position_at w n) j)) (λ r.
      reaching_if (events.Fire n j) (taking_of_position s w (live_position_at w n) j))
  left (events.Mine blocks) =
      if_done (events.Mine blocks) (first_reason (mine_row w blocks)) [] (done (record w { tip = w.tip + blocks }) []) (λ r.
      record { posts = refl; promises = sym (append-nil w.promises); advertised = sym (append-nil w.advertised); fresh = tt })
