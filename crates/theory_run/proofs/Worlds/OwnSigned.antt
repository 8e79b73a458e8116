-- The pairs under the keys of a party's labels are those that the party itself signs, event by event.
use Rattle.std.proofs.Common.{◌≡◌, ℕ, ◌≤◌, List, [], ◌∷◌, length, Bool, true, false, Option, Some, None, Result, Ok, Err}
use Rattle.std.proofs.Common.{refl, sym, ap, ◌∙◌, subst, inl, inr}
use Rattle.std.specs.Prelude.{◌||◌, if◌then◌else◌}
use Rattle.std.specs.Str.{bytes_eq}
use Rattle.std.proofs.lemmas.Bool.{both_ways, not-false, false_from_ne_true}
use Rattle.spec_data.specs.Lists.{is_among, first_reason}
use Rattle.spec_data.proofs.ListLemmas.{no_reason-none_true}
use Rattle.spec_bitcoin.specs.declared.label.Label.{Label}
use Rattle.spec_bitcoin.specs.declared.tx.Tx.{Tx}
use Rattle.spec_bitcoin.specs.declared.verdict.Verdict.{Verdict}
use Rattle.spec_bitcoin.specs.declared.verdict.Verdict.TheVariants as verdicts
use Rattle.spec_bitcoin.specs.Keys.{Pair, IsLabel, key_of, label_text, has_signed}
use Rattle.spec_bitcoin.specs.Reading.{transaction_of}
use Rattle.spec_calculus.specs.Configuration.{Configuration}
use Rattle.spec_run.specs.declared.event.Event.{Event}
use Rattle.spec_run.specs.declared.event.Event.TheVariants as events
use Rattle.spec_run.specs.declared.outcome.Reason.{Reason}
use Rattle.spec_run.specs.Setup.{Setup}
use Rattle.spec_run.specs.World.{World, live_position_at}
use Rattle.spec_run.specs.Compiled.{compiled_instance}
use Rattle.spec_run.specs.Conditions.{HashesBytes, IsEvent}
use Rattle.spec_run.specs.Pending.{Pending, done, unless, applied}
use Rattle.spec_run.specs.Signing.{with_pairs, signed_all, endorse_row, init_row}
use Rattle.spec_run.specs.Signing.{authorise_row, label_party, sign_row}
use Rattle.spec_run.specs.Advertising.{advertise_row}
use Rattle.spec_run.specs.Committing.{committed_strings, commit_row, digest_row}
use Rattle.spec_run.specs.Revealing.{reveal_row}
use Rattle.spec_run.specs.Giving.{given_pairs, give_row, gift}
use Rattle.spec_run.specs.Firing.{initial_by, taking_of_position, reaches_if, fire_init_row, fire_row}
use Rattle.spec_run.specs.Ledger.{verdict_in, judged}
use Rattle.spec_run.specs.Values.{is_refused}
use Rattle.spec_run.specs.Event.{append_read, mine_row, pending}
use Rattle.theory_run.specs.OwnSignatures.{is_signer, event_pairs, signed_pairs, own_pairs}
use Rattle.theory_bitcoin.proofs.Labels.{one_label}
use Rattle.theory_calculus.proofs.Names.{bytes-true, bytes_refl}
use Rattle.theory_world.specs.KeptApart.{NoCollision}
use Rattle.theory_world.proofs.Hashed.{all_new, among_head}
use Rattle.theory_world.proofs.Book.{key-apart, signed_more, signed_new, signed_back}
use Rattle.theory_run.specs.KeptBook.{KeptBook}
use Rattle.theory_run.proofs.Accepted.Spending.{Checked}
use Rattle.theory_run.proofs.Facts.Labelled.{one_pair}
use Rattle.theory_run.specs.KeptLabels.{KeptLabels}
use Rattle.theory_run.proofs.Facts.OwnLabels.{IsKeyOf, endorsed_labels, started_labels, authorised_labels, given_labels}

-- ---- the book after an event

pub signed_all-or : (book ps : List Pair) (k d : List ℕ) → has_signed (signed_all book ps) k d ≡ (has_signed book k d || has_signed ps k d)
signed_all-or book ps k d = by_tests (has_signed book k d) (has_signed ps k d) refl refl
  where
    by_tests : (b c : Bool) → has_signed book k d ≡ b → has_signed ps k d ≡ c → has_signed (signed_all book ps) k d ≡ (b || c)
    by_tests true c e f = signed_more book ps k d e
    by_tests false true e f = signed_new book ps k d f
    by_tests false false e f = false_from_ne_true (has_signed (signed_all book ps) k d) (λ h. elim (signed_back book ps k d h) [
      | inl x ↦ both_ways _ e x
      | inr y ↦ both_ways _ f y
    ])

module _ (s : Setup) (w : World) where
  -- the pending effect's book has what the event signs
  abbrev BookIs : Event → Pending → Type 0
  BookIs e d = d.world.book ≡ signed_all w.book (signed_pairs s w e d.outcome)

  unless_book : (e : Event) (r : Option Reason) (hashes : List (List ℕ)) (d : Pending) → BookIs e d → BookIs e (unless r w hashes d)
  unless_book e None hashes d h = h
  unless_book e (Some r) hashes d h = refl

  judged_book : (e : Event) (ps : List Pair) → ps ≡ event_pairs s w e → (tx : Tx) (v : Verdict)
      → BookIs e (judged s w (with_pairs w ps) tx v)
  judged_book e ps q tx (verdicts.Refused r) = refl
  judged_book e ps q tx (verdicts.Accepted spent made) = ap (signed_all w.book) q

  reached_book : (e : Event) → [] ≡ event_pairs s w e → (o : Option Tx) → BookIs e (reaches_if s w o)
  reached_book e q None = refl
  reached_book e q (Some tx) = judged_book e [] q tx (verdict_in s w tx)

  read_book : (e : Event) → [] ≡ event_pairs s w e → (r : Result Tx ℕ) → BookIs e (append_read s w r)
  read_book e q (Ok tx) = judged_book e [] q tx (verdict_in s w tx)
  read_book e q (Err place) = refl

  pub book_is : (e : Event) → BookIs e (pending s w e)
  book_is (events.Advertise k bs) = unless_book (events.Advertise k bs) (first_reason (advertise_row s w k bs)) [] _ refl
  book_is (events.Commit k a ds) =
      unless_book (events.Commit k a ds) (first_reason (commit_row s w k a ds)) [] _
      (unless_book (events.Commit k a ds) (first_reason (digest_row s w k a ds)) (committed_strings s k a) _ refl)
  book_is (events.Endorse k a) = unless_book (events.Endorse k a) (first_reason (endorse_row s w k a)) [] _ refl
  book_is (events.Init k a) = unless_book (events.Init k a) (first_reason (init_row s w k a)) [] _ refl
  book_is (events.Authorise a n j) = unless_book (events.Authorise a n j) (first_reason (authorise_row s w a n j)) [] _ refl
  book_is (events.Reveal k a name) = unless_book (events.Reveal k a name) (first_reason (reveal_row s w k a name)) [] _ refl
  book_is (events.Post string) = refl
  book_is (events.Sign a label digest) = unless_book (events.Sign a label digest) (first_reason (sign_row s a label)) [] _ refl
  book_is (events.Give a inputs outputs) =
      let ps = given_pairs s w a inputs outputs in
      let tx = gift s w a inputs outputs in
      unless_book (events.Give a inputs outputs) (first_reason (give_row s w a inputs outputs)) [] _
      (judged_book (events.Give a inputs outputs) ps refl tx (verdict_in s (with_pairs w ps) tx))
  book_is (events.Append bytes) = read_book (events.Append bytes) refl (transaction_of bytes)
  book_is (events.FireInit k) =
      unless_book (events.FireInit k) (first_reason (fire_init_row s w k)) [] _
      (reached_book (events.FireInit k) refl (initial_by s (compiled_instance s w k)))
  book_is (events.Fire n j) =
      unless_book (events.Fire n j) (first_reason (fire_row s w n j)) [] _
      (reached_book (events.Fire n j) refl (taking_of_position s w (live_position_at w n) j))
  book_is (events.Mine blocks) = unless_book (events.Mine blocks) (first_reason (mine_row w blocks)) [] _ refl

-- ---- whose keys it signs by

-- the key is of a label of the event's signer, and the label was heard
pub record IsSigners (s : Setup) (hs : List (List ℕ)) (e : Event) (key : List ℕ) : Type 0 where
  pub label : Label
  pub fine : IsLabel label
  pub heard : is_among (label_text label) hs ≡ true
  pub is : key_of s.hash label ≡ key
  pub whose : is_signer (label_party label) e ≡ true

module _ (s : Setup) (size : HashesBytes s.hash) (few_contracts : length s.contracts ≤ 16) (g : Configuration) (w : World)
    (kept : KeptBook s g w) (check : Checked s w) (clear : NoCollision s.hash w.hashed) (own : KeptLabels s w)
    (hs : List (List ℕ)) (sub : (t : List ℕ) → is_among t w.hashed ≡ true → is_among t hs ≡ true) where
  by_party : (e : Event) (a : List ℕ) → is_signer a e ≡ true → (key : List ℕ) → IsKeyOf s w a key → IsSigners s hs e key
  by_party e a signs key k = record {
    label = k.known.label;
    fine = k.known.fine;
    heard = sub _ k.known.heard;
    is = k.known.is;
    whose = subst (λ x. is_signer x e ≡ true) (sym k.whose) signs;
  }

  some_signed : (b : Bool) (ps : List Pair) (key x : List ℕ) → has_signed (if b then [] else ps) key x ≡ true → has_signed ps key x ≡ true
  some_signed true ps key x h = cc
  some_signed false ps key x h = h

  -- where the pending effect isn't refused for a reason
  unless_signed : (e : Event) (r : Option Reason) (d : Pending) (key x : List ℕ)
      → has_signed (signed_pairs s w e (unless r w [] d).outcome) key x ≡ true
      → (r ≡ None → has_signed (event_pairs s w e) key x ≡ true → IsSigners s hs e key) → IsSigners s hs e key
  unless_signed e None d key x h go = go refl (some_signed (is_refused d.outcome) (event_pairs s w e) key x h)
  unless_signed e (Some r) d key x h go = cc

  nothing : (e : Event) (d : Pending) (key x : List ℕ) → event_pairs s w e ≡ [] → has_signed (signed_pairs s w e d.outcome) key x ≡ true
      → IsSigners s hs e key
  nothing e d key x none h =
      let y = some_signed (is_refused d.outcome) (event_pairs s w e) key x h in
      let z : has_signed [] key x ≡ true = subst (λ ps. has_signed ps key x ≡ true) none y in
      absurd (both_ways _ refl z)

  pub signers : (e : Event) → IsEvent s e → ((t : List ℕ) → is_among t (applied w (pending s w e)).hashed ≡ true → is_among t hs ≡ true)
      → (key x : List ℕ) → has_signed (signed_pairs s w e (pending s w e).outcome) key x ≡ true → IsSigners s hs e key
  signers (events.Endorse k a) is new key x h = unless_signed (events.Endorse k a) (first_reason (endorse_row s w k a)) _ key x h (λ r y.
      by_party (events.Endorse k a) a (bytes_refl a) key
      (endorsed_labels s size few_contracts g w kept check clear own a is k (compiled_instance s w k) refl key x y))
  signers (events.Init k a) is new key x h = unless_signed (events.Init k a) (first_reason (init_row s w k a)) _ key x h (λ r y.
      by_party (events.Init k a) a (bytes_refl a) key
      (started_labels s size few_contracts g w kept check clear own a is (compiled_instance s w k) key x y))
  signers (events.Authorise a n j) is new key x h =
      unless_signed (events.Authorise a n j) (first_reason (authorise_row s w a n j)) _ key x h (λ r y.
      let row = no_reason-none_true (authorise_row s w a n j) r in
      by_party (events.Authorise a n j) a (bytes_refl a) key
      (authorised_labels s size few_contracts g w kept check clear own a n j (live_position_at w n) refl
      (not-false _ row.1.0) (not-false _ row.1.1.0) key x y))
  signers (events.Sign a label digest) is new key x h = unsigned (first_reason (sign_row s a label)) refl h new
    where
      e : Event
      e = events.Sign a label digest

      ps : List Pair
      ps = (key_of s.hash label, digest) ∷ []

      signing : Pending
      signing = done (with_pairs w ps) (label_text label ∷ [])

      unsigned : (r : Option Reason) → first_reason (sign_row s a label) ≡ r
          → has_signed (signed_pairs s w e (unless r w [] signing).outcome) key x ≡ true
          → ((t : List ℕ) → is_among t (applied w (unless r w [] signing)).hashed ≡ true → is_among t hs ≡ true) → IsSigners s hs e key
      unsigned (Some r) q y more = cc
      unsigned None q y more =
          let row = no_reason-none_true (sign_row s a label) q in
          let text = label_text label in
          record {
            label = label;
            fine = is.1;
            heard = more text (all_new w.hashed (text ∷ []) text (among_head text []));
            is = (one_pair (key_of s.hash label) digest key x y).0;
            whose = subst (λ p. bytes_eq a p ≡ true) (sym (bytes-true (label_party label) a (not-false _ row.1.0))) (bytes_refl a);
          }
  signers (events.Give a inputs outputs) is new key x h =
      unless_signed (events.Give a inputs outputs) (first_reason (give_row s w a inputs outputs)) _ key x h (λ r y.
      by_party (events.Give a inputs outputs) a (bytes_refl a) key
      (given_labels s size few_contracts g w kept check clear own a is.giver inputs outputs key x y))
  signers (events.Advertise k bs) is new key x h = nothing (events.Advertise k bs) (pending s w (events.Advertise k bs)) key x refl h
  signers (events.Commit k a ds) is new key x h = nothing (events.Commit k a ds) (pending s w (events.Commit k a ds)) key x refl h
  signers (events.Reveal k a name) is new key x h = nothing (events.Reveal k a name) (pending s w (events.Reveal k a name)) key x refl h
  signers (events.Post string) is new key x h = nothing (events.Post string) (pending s w (events.Post string)) key x refl h
  signers (events.Append bytes) is new key x h = nothing (events.Append bytes) (pending s w (events.Append bytes)) key x refl h
  signers (events.FireInit k) is new key x h = nothing (events.FireInit k) (pending s w (events.FireInit k)) key x refl h
  signers (events.Fire n j) is new key x h = nothing (events.Fire n j) (pending s w (events.Fire n j)) key x refl h
  signers (events.Mine blocks) is new key x h = nothing (events.Mine blocks) (pending s w (events.Mine blocks)) key x refl h

  -- what the event signs under a party's key is what the party signs
  module _ (clear_hs : NoCollision s.hash hs) (e : Event) (is : IsEvent s e)
      (new : (t : List ℕ) → is_among t (applied w (pending s w e)).hashed ≡ true → is_among t hs ≡ true)
      (l : Label) (fine : IsLabel l) (heard : is_among (label_text l) hs ≡ true) (x : List ℕ) where
    abbrev all : List Pair
    all = signed_pairs s w e (pending s w e).outcome

    only_own : has_signed all (key_of s.hash l) x ≡ has_signed (own_pairs s (label_party l) w e (pending s w e).outcome) (key_of s.hash l) x
    only_own = by_test (is_signer (label_party l) e) refl
      where
        by_test : (b : Bool) → is_signer (label_party l) e ≡ b
            → has_signed all (key_of s.hash l) x ≡ has_signed (if b then all else []) (key_of s.hash l) x
        by_test true q = refl
        by_test false q = false_from_ne_true (has_signed all (key_of s.hash l) x) (λ h.
            let k = signers e is new (key_of s.hash l) x h in
            let same : k.label ≡ l = one_label k.label l k.fine fine (key-apart s.hash hs k.label l clear_hs k.heard heard k.is) in
            both_ways _ q (subst (λ y. is_signer (label_party y) e ≡ true) same k.whose))

    pub signed_step : has_signed (applied w (pending s w e)).book (key_of s.hash l) x
        ≡ (has_signed w.book (key_of s.hash l) x || has_signed (own_pairs s (label_party l) w e (pending s w e).outcome) (key_of s.hash l) x)
    signed_step =
        ap (λ b. has_signed b (key_of s.hash l) x) (book_is s w e)
        ∙ signed_all-or w.book all (key_of s.hash l) x
        ∙ ap (λ c. has_signed w.book (key_of s.hash l) x || c) only_own
