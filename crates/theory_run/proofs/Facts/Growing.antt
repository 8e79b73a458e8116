-- Every event leaves outputs, signatures, messages and compiled contracts where they were.
use Rattle.std.proofs.Common.{◌≡◌, ℕ, ◌+◌, List, [], ◌∷◌, ◌++◌, true, false, Option, Some, None, Result, Ok, Err, refl, sym, ap, ◌∙◌, subst, append-nil}
use Rattle.std.specs.Prelude.{◌==◌}
use Rattle.std.specs.List.{list_any}
use Rattle.std.proofs.lemmas.Bool.{not-false, both_ways, eqb-true, false_from_ne_true}
use Rattle.spec_data.specs.Lists.{is_among, first_reason}
use Rattle.spec_data.proofs.ListLemmas.{no_reason-none_true}
use Rattle.spec_terms.specs.Parties.{participants}
use Rattle.spec_bitcoin.specs.declared.tx.Tx.{Tx}
use Rattle.spec_bitcoin.specs.declared.verdict.Verdict.{Verdict}
use Rattle.spec_bitcoin.specs.declared.verdict.Verdict.TheVariants as verdicts
use Rattle.spec_bitcoin.specs.Keys.{Pair, key_of, label_text, has_signed}
use Rattle.spec_bitcoin.specs.Digests.{txid}
use Rattle.spec_bitcoin.specs.Reading.{transaction_of}
use Rattle.spec_calculus.specs.Configuration.{Configuration}
use Rattle.spec_calculus.specs.declared.parts.Advertised.{Advertised}
use Rattle.spec_compiler.specs.Instance.{Instance}
use Rattle.spec_run.specs.declared.event.Event.{Event}
use Rattle.spec_run.specs.declared.event.Event.TheVariants as events
use Rattle.spec_run.specs.declared.outcome.Reason.{Reason}
use Rattle.spec_run.specs.declared.outcome.Reason.TheVariants as reason
use Rattle.spec_run.specs.Setup.{Setup, people_of, people_at}
use Rattle.spec_run.specs.World.{Promise, World, bindings_at, is_advertised, has_promised}
use Rattle.spec_run.specs.Compiled.{compiled_instance}
use Rattle.spec_run.specs.Pending.{Pending, done, posting, refused, unless, applied}
use Rattle.spec_run.specs.Advertising.{arranged, deposit_names, advertise_row}
use Rattle.spec_run.specs.Committing.{secrets_at, committed_digests, committed_strings, commit_row, digest_row, with_promise, committed_pending, commit_pending}
use Rattle.spec_run.specs.Signing.{with_pairs, endorsing_pairs, endorse_row, initial_pairs, init_row, authorising_pairs, authorise_row, sign_row}
use Rattle.spec_run.specs.Revealing.{own_secret, reveal_row}
use Rattle.spec_run.specs.Giving.{give_row, given_pairs, gift}
use Rattle.spec_run.specs.Firing.{initial_by, taking_of_position, reaches_if, fire_init_row, fire_row}
use Rattle.spec_run.specs.Ledger.{verdict_in, strings_of, accepted, judged, reaches, new_position, kind_of, made_from}
use Rattle.spec_run.specs.World as world
use Rattle.spec_run.specs.Event.{append_read, mine_row, pending}
use Rattle.theory_calculus.proofs.Names.{all_among}
use Rattle.theory_world.proofs.Hashed.{all_more}
use Rattle.theory_run.specs.KeptBook.{KeptBook}
use Rattle.theory_world.proofs.Later.{Lasts, lasts_refl, lasts_spent, compiled_is, compiled_stays, bindings-more}
use Rattle.theory_world.proofs.Book.{signed_more}

pub record Grows (s : Setup) (w next : World) : Type 0 where
  pub outputs : Lasts w.outputs next.outputs
  pub book : (k d : List ℕ) → has_signed w.book k d ≡ true → has_signed next.book k d ≡ true
  pub hashed : (t : List ℕ) → is_among t w.hashed ≡ true → is_among t next.hashed ≡ true
  pub compiled : (k : ℕ) (st : Instance) → compiled_instance s w k ≡ Some st → compiled_instance s next k ≡ Some st
  pub bindings : (k : ℕ) → is_advertised w k ≡ true → bindings_at next.advertised k ≡ bindings_at w.advertised k

module _ (s : Setup) (g : Configuration) (w : World) (kept : KeptBook s g w) where
  grows_by : (next : World) (new : List Advertised) (ps : List Promise) → next.advertised ≡ w.advertised ++ new → next.promises ≡ w.promises
      ++ ps → Lasts w.outputs next.outputs
      → ((k : ℕ) (st : Instance) → compiled_instance s w k ≡ Some st → list_any (λ (p : Promise). p.contract == k) ps ≡ false)
      → ((k d : List ℕ) → has_signed w.book k d ≡ true → has_signed next.book k d ≡ true)
      → ((t : List ℕ) → is_among t w.hashed ≡ true → is_among t next.hashed ≡ true) → Grows s w next
  grows_by next new ps ea ep l other book hashed = record {
    outputs = l;
    book = book;
    hashed = hashed;
    compiled = λ k st h. compiled_stays s w next new ps k st ea ep l (kept.adverts k (compiled_is s w k st h).advertised).made (other k st h) h;
    bindings = λ k h. ap (λ xs. bindings_at xs k) ea ∙ bindings-more w.advertised new k h;
  }

  -- pairs may be signed, the height may change, strings may be hashed and posted
  still : (tip : ℕ) (pairs : List Pair) (hashes posts : List (List ℕ))
      → Grows s w (applied w (record (done (record (with_pairs w pairs) { tip = tip }) hashes) { posts = posts }))
  still tip pairs hashes posts =
      grows_by (applied w (record (done (record (with_pairs w pairs) { tip = tip }) hashes) { posts = posts })) [] []
      (sym (append-nil w.advertised)) (sym (append-nil w.promises)) (lasts_refl w.outputs) (λ k st h. refl)
      (λ k d h. signed_more w.book pairs k d h) (λ t h. all_more w.hashed hashes t h)

  refusal : (hashes : List (List ℕ)) (r : Reason) → Grows s w (applied w (refused w hashes r))
  refusal hashes r = still w.tip [] hashes []

  if_done : (r : Option Reason) (hashes : List (List ℕ)) (d : Pending) → (r ≡ None → Grows s w (applied w d)) → Grows s w (applied w (unless r w hashes d))
  if_done None hashes d h = h refl
  if_done (Some r) hashes d h = refusal hashes r

  -- a transaction reaches the ledger, with what was signed for it
  reaching : (pairs : List Pair) (tx : Tx) → Grows s w (applied w (reaches s w (with_pairs w pairs) tx))
  reaching pairs tx = by_verdict (verdict_in s (with_pairs w pairs) tx)
    where
      by_verdict : (v : Verdict) → Grows s w (applied w (judged s w (with_pairs w pairs) tx v))
      by_verdict (verdicts.Refused r) = refusal (strings_of s (with_pairs w pairs) tx) (reason.Ledger r)
      by_verdict (verdicts.Accepted spent made) =
          let d = accepted s (with_pairs w pairs) tx spent in
          grows_by (applied w d) [] [] (sym (append-nil w.advertised)) (sym (append-nil w.promises))
          (lasts_spent spent w.outputs (made_from (new_position s (kind_of s (with_pairs w pairs) tx spent)) (txid s.hash tx) 0
          tx.outputs)) (λ k st h. refl)
          (λ k d h. signed_more w.book pairs k d h) (λ t h. all_more w.hashed d.hashes t h)

  reaching_if : (o : Option Tx) → Grows s w (applied w (reaches_if s w o))
  reaching_if None = refusal [] reason.NotCompiled
  reaching_if (Some tx) = reaching [] tx

  reading : (r : Result Tx ℕ) → Grows s w (applied w (append_read s w r))
  reading (Ok tx) = reaching [] tx
  reading (Err place) = refusal [] (reason.BadTx place)

  -- nobody commits to what is compiled
  not_again : (k : ℕ) (party : List ℕ) → is_among party (people_at s k) ≡ true → has_promised w k party ≡ false → (j : ℕ) (st : Instance)
      → compiled_instance s w j ≡ Some st → (k == j) ≡ false
  not_again k party part fresh j st h = false_from_ne_true (k == j) (λ e.
      let c = compiled_is s w j st h in
      let same : k ≡ j = eqb-true k j e in
      let here : is_among party (participants c.advert) ≡ true =
      subst (λ o. is_among party (people_of o) ≡ true) c.there (subst (λ n. is_among party (people_at s n) ≡ true) same part) in
      both_ways _ fresh (subst (λ n. has_promised w n party ≡ true) (sym same) (all_among (has_promised w j) (participants c.advert) party c.promised here)))

  committing : (k : ℕ) (party : List ℕ) (ds : List (List ℕ × List ℕ)) → Grows s w (applied w (commit_pending s w k party ds))
  committing k party ds =
      let strings = committed_strings s k party in
      let last = committed_pending s (with_promise s w k party ds) k party strings in
      let promise : Promise = record { contract = k; party = party; digests = arranged [] (secrets_at s k party) (committed_digests s k party ds) } in
      if_done (first_reason (commit_row s w k party ds)) [] _ (λ none.
      let row = no_reason-none_true (commit_row s w k party ds) none in
      if_done (first_reason (digest_row s w k party ds)) strings last (λ fresh.
      grows_by (applied w last) [] (promise ∷ []) (sym (append-nil w.advertised)) refl (lasts_refl w.outputs)
      (λ j st h. let e = not_again k party (not-false _ row.1.1.0) row.1.1.1.0 j st h in rw e refl)
      (λ x d h. h) (λ t h. all_more w.hashed last.hashes t h)))

  pub grows : (e : Event) → Grows s w (applied w (pending s w e))
  grows (events.Advertise k bs) =
      let new : Advertised = record { contract = k; bindings = arranged 0 (deposit_names s k) bs } in
      let d = done (record w { advertised = w.advertised ++ new ∷ [] }) [] in
      if_done (first_reason (advertise_row s w k bs)) [] d
      (λ r. grows_by (applied w d) (new ∷ []) [] refl (sym (append-nil w.promises)) (lasts_refl w.outputs) (λ j st h. refl) (λ x y h. h) (λ t h. h))
  grows (events.Commit k party ds) = committing k party ds
  grows (events.Endorse k party) =
      if_done (first_reason (endorse_row s w k party)) [] (done (with_pairs w (endorsing_pairs s party (compiled_instance s w k))) [])
      (λ r. still w.tip (endorsing_pairs s party (compiled_instance s w k)) [] [])
  grows (events.Init k party) =
      if_done (first_reason (init_row s w k party)) [] (done (with_pairs w (initial_pairs s party (compiled_instance s w k))) [])
      (λ r. still w.tip (initial_pairs s party (compiled_instance s w k)) [] [])
  grows (events.Authorise party n j) =
      if_done (first_reason (authorise_row s w party n j)) []
      (done (with_pairs w (authorising_pairs s w party (world.live_position_at w n) j)) [])
      (λ r. still w.tip (authorising_pairs s w party (world.live_position_at w n) j) [] [])
  grows (events.Reveal k party name) =
      if_done (first_reason (reveal_row s w k party name)) [] (posting w (own_secret s party name) (Some (party, name)))
      (λ r. still w.tip [] (own_secret s party name ∷ []) (own_secret s party name ∷ []))
  grows (events.Post string) = still w.tip [] (string ∷ []) (string ∷ [])
  grows (events.Sign party label digest) =
      if_done (first_reason (sign_row s party label)) [] (done (with_pairs w ((key_of s.hash label, digest) ∷ [])) (label_text label ∷ []))
      (λ r. still w.tip ((key_of s.hash label, digest) ∷ []) (label_text label ∷ []) [])
  grows (events.Give party inputs outputs) =
      if_done (first_reason (give_row s w party inputs outputs)) []
      (reaches s w (with_pairs w (given_pairs s w party inputs outputs)) (gift s w party inputs outputs))
      (λ r. reaching (given_pairs s w party inputs outputs) (gift s w party inputs outputs))
  grows (events.Append bytes) = reading (transaction_of bytes)
  grows (events.FireInit k) = if_done (first_reason (fire_init_row s w k)) [] (reaches_if s w (initial_by s (compiled_instance s w k)))
      (λ r. reaching_if (initial_by s (compiled_instance s w k)))
  grows (events.Fire n j) = if_done (first_reason (fire_row s w n j)) []
      (reaches_if s w (taking_of_position s w (world.live_position_at w n) j)) (λ r. reaching_if (taking_of_position s w (world.live_position_at w n) j))
  grows (events.Mine blocks) =
      if_done (first_reason (mine_row w blocks)) [] (done (record w { tip = w.tip + blocks }) []) (λ r. still (w.tip + blocks) [] [] [])
