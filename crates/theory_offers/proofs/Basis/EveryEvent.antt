-- What the offers rest on, after every event that hands nothing to the ledger.
use Rattle.std.proofs.Common.{◌≡◌, ℕ, ◌+◌, List, [], ◌∷◌, ◌++◌, true, Option, Some, None, refl}
use Rattle.std.specs.Prelude.{slice_get, is_some}
use Rattle.std.proofs.lemmas.Bool.{not-false}
use Rattle.std.proofs.lemmas.Bool.{leb-true}
use Rattle.spec_data.specs.Lists.{first_reason}
use Rattle.spec_data.specs.Ranges.{last_height}
use Rattle.spec_data.proofs.ListLemmas.{no_reason-none_true}
use Rattle.spec_bitcoin.specs.declared.label.Label.{Label}
use Rattle.spec_bitcoin.specs.Keys.{key_of, label_text}
use Rattle.spec_calculus.specs.Configuration.{Configuration}
use Rattle.spec_calculus.specs.Steps.{after_steps}
use Rattle.spec_compiler.specs.Instance.{Instance}
use Rattle.spec_run.specs.declared.event.Event.{Event}
use Rattle.spec_run.specs.declared.event.Event.TheVariants as events
use Rattle.spec_run.specs.declared.outcome.Reason.{Reason}
use Rattle.spec_run.specs.Setup.{Setup}
use Rattle.spec_data.specs.Messages.{noted_all}
use Rattle.spec_run.specs.World.{ContractPosition, Output, World, output_at, live_position, live_position_at}
use Rattle.spec_run.specs.Compiled.{compiled_instance}
use Rattle.spec_run.specs.Pending.{Pending, done, posting, refused, unless, applied}
use Rattle.spec_run.specs.Advertising.{arranged, deposit_names, advertise_row, advertise_pending}
use Rattle.spec_run.specs.Committing.{committed_digests, committed_strings, commit_row, digest_row, with_promise, strings_compiled, committed_pending, commit_pending}
use Rattle.spec_run.specs.Revealing.{own_secret, reveal_row, reveal_pending}
use Rattle.spec_run.specs.Secrets.{newly_shown}
use Rattle.spec_run.specs.Signing.{with_pairs, endorsing_pairs, endorse_row, endorse_pending, initial_pairs, init_row, init_pending, authorising_pairs, authorise_row, authorise_pending, sign_row, sign_pending}
use Rattle.spec_run.specs.Event.{mine_row, mine_pending}
use Rattle.spec_run.specs.Steps.{commit_lengths, steps_of}
use Rattle.theory_calculus.proofs.Names.{different_names, persistent_different}
use Rattle.theory_run.specs.KeptBook.{KeptBook}
use Rattle.theory_run.proofs.Accepted.Spending.{Checked}
use Rattle.theory_offers.proofs.Basis.Offered.{KeptOffers}
use Rattle.theory_offers.proofs.Basis.Events.{signed_offers, posted_offers, committed_offers, waited_offers}
use Rattle.theory_offers.proofs.Basis.Told.{advertise_offers}
use Rattle.theory_offers.proofs.Basis.Signed.{authorise_offers, init_offers}

held_there : (o : Option Output) (held : ContractPosition) → live_position o ≡ Some held → is_some o ≡ true
held_there None held h = cc
held_there (Some o) held h = refl

held_is_there : (w : World) (n : ℕ) → is_some (live_position_at w n) ≡ true → is_some (output_at w n) ≡ true
held_is_there w n h = by_held (live_position_at w n) refl h
  where
    by_held : (o : Option ContractPosition) → live_position_at w n ≡ o → is_some o ≡ true → is_some (output_at w n) ≡ true
    by_held None e q = cc
    by_held (Some held) e q = held_there (slice_get w.outputs n) held e

module _ (s : Setup) (z : List (List ℕ)) (g : Configuration) (w : World) (kept : KeptBook s g w) (more : KeptOffers s g w) where
  -- the event comes to this pending effect
  abbrev pub OffersKept : Event → Pending → Type 0
  OffersKept e d = KeptOffers s (after_steps g (steps_of s z g w (applied w d) e d)) (applied w d)

  pub refused_offers : (e : Event) (hashes : List (List ℕ)) (r : Reason) → OffersKept e (refused w hashes r)
  refused_offers e hashes r = signed_offers s g w [] (noted_all w.hashed hashes) (w.posted ++ []) more

  pub unless_offers : (e : Event) (r : Option Reason) (hashes : List (List ℕ)) (d : Pending) → (r ≡ None → OffersKept e d) → OffersKept e (unless r w hashes d)
  unless_offers e None hashes d h = h refl
  unless_offers e (Some r) hashes d h = refused_offers e hashes r

  pub endorse_every : (k : ℕ) (party : List ℕ) → OffersKept (events.Endorse k party) (endorse_pending s w k party)
  endorse_every k party = unless_offers (events.Endorse k party) (first_reason (endorse_row s w k party)) []
      (done (with_pairs w (endorsing_pairs s party (compiled_instance s w k))) [])
      (λ r. signed_offers s g w (endorsing_pairs s party (compiled_instance s w k)) w.hashed (w.posted ++ []) more)

  pub sign_every : (party : List ℕ) (label : Label) (digest : List ℕ) → OffersKept (events.Sign party label digest) (sign_pending s w party label digest)
  sign_every party label digest =
      unless_offers (events.Sign party label digest) (first_reason (sign_row s party label)) []
      (done (with_pairs w ((key_of s.hash label, digest) ∷ [])) (label_text label ∷ []))
      (λ r. signed_offers s g w ((key_of s.hash label, digest) ∷ []) (noted_all w.hashed (label_text label ∷ [])) (w.posted ++ []) more)

  pub mine_every : (blocks : ℕ) → OffersKept (events.Mine blocks) (mine_pending w blocks)
  mine_every blocks = unless_offers (events.Mine blocks) (first_reason (mine_row w blocks)) [] (done (record w { tip = w.tip + blocks }) []) (λ r.
      let row = no_reason-none_true (mine_row w blocks) r in
      waited_offers s g w blocks w.hashed (w.posted ++ []) more (leb-true (w.tip + blocks) last_height (not-false _ row.0)))

  pub authorise_every : (party : List ℕ) (n j : ℕ) → OffersKept (events.Authorise party n j) (authorise_pending s w party n j)
  authorise_every party n j = unless_offers (events.Authorise party n j) (first_reason (authorise_row s w party n j)) []
      (done (with_pairs w (authorising_pairs s w party (live_position_at w n) j)) []) (λ r.
      let row = no_reason-none_true (authorise_row s w party n j) r in
      authorise_offers s g w party n j w.hashed (w.posted ++ []) more (held_is_there w n (not-false _ row.0)))

  pub init_every : Checked s w → (k : ℕ) (party : List ℕ) → OffersKept (events.Init k party) (init_pending s w k party)
  init_every check k party = unless_offers (events.Init k party) (first_reason (init_row s w k party)) []
      (done (with_pairs w (initial_pairs s party (compiled_instance s w k))) []) (λ r.
      let row = no_reason-none_true (init_row s w k party) r in
      by_compiled (compiled_instance s w k) refl (not-false _ row.1.1.0))
    where
      by_compiled : (o : Option Instance) → compiled_instance s w k ≡ o → is_some o ≡ true
          → OffersKept (events.Init k party) (done (with_pairs w (initial_pairs s party (compiled_instance s w k))) [])
      by_compiled None c h = cc
      by_compiled (Some st) c h =
          init_offers s g w k party w.hashed (w.posted ++ []) more st c (persistent_different st.advert.pre (different_names st.advert (check.checked k st c)))

  pub post_every : (string : List ℕ) → OffersKept (events.Post string) (posting w string None)
  post_every string =
      posted_offers s g w (newly_shown s w (applied w (posting w string None))) (noted_all w.hashed (string ∷ [])) (w.posted ++ string ∷ []) more

  pub reveal_every : (k : ℕ) (party name : List ℕ) → OffersKept (events.Reveal k party name) (reveal_pending s w k party name)
  reveal_every k party name =
      let string = own_secret s party name in
      let d = posting w string (Some (party, name)) in
      unless_offers (events.Reveal k party name) (first_reason (reveal_row s w k party name)) [] d
      (λ r. posted_offers s g w (newly_shown s w (applied w d)) (noted_all w.hashed (string ∷ [])) (w.posted ++ string ∷ []) more)

  pub advertise_every : (k : ℕ) (bs : List (List ℕ × ℕ)) → OffersKept (events.Advertise k bs) (advertise_pending s w k bs)
  advertise_every k bs = unless_offers (events.Advertise k bs) (first_reason (advertise_row s w k bs)) []
      (done (record w { advertised = w.advertised ++ record { contract = k; bindings = arranged 0 (deposit_names s k) bs } ∷ [] }) [])
      (λ r. advertise_offers s g w k (arranged 0 (deposit_names s k) bs) w.hashed (w.posted ++ []) kept more)

  pub commit_every : (k : ℕ) (party : List ℕ) (ds : List (List ℕ × List ℕ)) → OffersKept (events.Commit k party ds) (commit_pending s w k party ds)
  commit_every k party ds =
      let strings = committed_strings s k party in
      let last = committed_pending s (with_promise s w k party ds) k party strings in
      unless_offers (events.Commit k party ds) (first_reason (commit_row s w k party ds)) [] _ (λ none.
      let row = no_reason-none_true (commit_row s w k party ds) none in
      unless_offers (events.Commit k party ds) (first_reason (digest_row s w k party ds)) strings last (λ fresh.
      committed_offers s g w k party (committed_digests s k party ds) (commit_lengths s z k party ds) (newly_shown s w (applied w last))
      (noted_all w.hashed (strings ++ strings_compiled s (compiled_instance s (with_promise s w k party ds) k))) (w.posted ++ []) kept more
      (not-false _ row.1.0) (not-false _ row.1.1.0) row.1.1.1.0))
