-- An honest party's live deposit goes only with its leave, whatever the event.
use Rattle.std.proofs.Common.{◌≡◌, ℕ, ◌+◌, List, [], ◌∷◌, ◌++◌, Bool, true, false, Option, Some, None, Result, Ok, Err, refl, sym, ap, ◌∙◌, subst, arith, inl, inr}
use Rattle.std.specs.Prelude.{◌==◌, ◌||◌, ◌⊎◌, slice_get, is_some, if◌then◌else◌}
use Rattle.std.specs.Option.{is_none}
use Rattle.std.specs.Str.{bytes_eq}
use Rattle.std.proofs.lemmas.Bool.{and_parts, and_from, or_left, or_right, or_cases, both_ways, eqb-true}
use Rattle.spec_data.specs.Lists.{is_among, has_number, first_reason, NoneTrue}
use Rattle.spec_data.proofs.ListLemmas.{no_reason-none_true}
use Rattle.spec_bitcoin.specs.declared.tx.Tx.{Tx}
use Rattle.spec_bitcoin.specs.declared.verdict.Verdict.{Verdict}
use Rattle.spec_bitcoin.specs.declared.verdict.Verdict.TheVariants as verdicts
use Rattle.spec_bitcoin.specs.Digests.{txid}
use Rattle.spec_bitcoin.specs.Keys.{key_of, label_text}
use Rattle.spec_bitcoin.specs.Reading.{transaction_of}
use Rattle.spec_calculus.specs.declared.step.Owner.TheVariants.{Party, Outside}
use Rattle.spec_calculus.specs.Configuration.{Configuration}
use Rattle.spec_calculus.specs.Same.{owner_eq}
use Rattle.spec_run.specs.declared.event.Event.{Event}
use Rattle.spec_run.specs.declared.event.Event.TheVariants as events
use Rattle.spec_run.specs.declared.outcome.Reason.{Reason}
use Rattle.spec_run.specs.declared.outcome.Reason.TheVariants as reason
use Rattle.spec_run.specs.declared.outcome.Record.{Record}
use Rattle.spec_run.specs.Setup.{Setup, is_declared}
use Rattle.spec_run.specs.World.{Output, World, output_at, is_deposit, live_position_at}
use Rattle.spec_data.specs.Messages.{noted_all, collision}
use Rattle.spec_run.specs.Owners.{paid_to, owner_among, owner_by, owner_of}
use Rattle.spec_run.specs.Compiled.{compiled_instance}
use Rattle.spec_run.specs.Conditions.{IsSetup, IsEvent, IsGift}
use Rattle.spec_run.specs.Pending.{Pending, done, posting, refused, unless, applied}
use Rattle.spec_run.specs.Advertising.{arranged, deposit_names, advertise_row}
use Rattle.spec_run.specs.Committing.{committed_strings, commit_row, digest_row, with_promise, committed_pending}
use Rattle.spec_run.specs.Signing.{with_pairs, endorsing_pairs, endorse_row, initial_pairs, init_row, authorising_pairs, authorise_row, sign_row}
use Rattle.spec_run.specs.Revealing.{own_secret, reveal_row}
use Rattle.spec_run.specs.Giving.{first_foreign, give_row, given_pairs, gift}
use Rattle.spec_run.specs.Firing.{initial_by, taking_of_position, reaches_if, fire_init_row, fire_row}
use Rattle.spec_run.specs.Ledger.{verdict_in, strings_of, items_of, accepted, judged, reaches, spend_from, made_from, kind_of, new_position}
use Rattle.spec_run.specs.HonestDeposits.{gives, by_transaction, SpendsWithLeave}
use Rattle.spec_run.specs.Event.{append_read, mine_row, pending, record_of}
use Rattle.theory_calculus.proofs.Names.{bytes-true, bytes_refl}
use Rattle.theory_run.proofs.Events.Advertised.{none_is}
use Rattle.theory_world.specs.KeptApart.{NoCollision}
use Rattle.theory_world.proofs.Hashed.{no_collision, among_left, all_more, all_new}
use Rattle.theory_world.proofs.Ledger.Worth.{accepted_by}
use Rattle.theory_world.proofs.Later.{get-spent, get-prefix}
use Rattle.theory_world.specs.Transactions.{IsNumbered}
use Rattle.theory_world.proofs.Ledger.Accepting.{Accepting, accepting, HeardAll}
use Rattle.theory_run.specs.KeptBook.{KeptBook}
use Rattle.theory_run.proofs.Accepted.Spending.{TransactionsFit, Checked}
use Rattle.theory_run.proofs.Events.Fired.{piece_numbered, started_numbered, taken_numbered}
use Rattle.theory_run.proofs.Events.Given.{spent_is}
use Rattle.theory_run.proofs.Honest.Leaves.{KeptLeave}
use Rattle.theory_run.proofs.Honest.Deposits.{input_for, taken_with_leave}

-- ---- whose a deposit is

-- an output that is a live deposit of a declared party
pub record Owns (s : Setup) (w : World) (a : List ℕ) (n : ℕ) : Type 0 where
  pub output : Output
  pub there : slice_get w.outputs n ≡ Some output
  pub deposit : is_deposit (Some output) ≡ true
  pub declared : is_declared s a ≡ true
  pub paid : output.script ≡ paid_to s a

paid_among : (s : Setup) (ps : List (List ℕ)) (script a : List ℕ) → owner_among s ps script ≡ Party a → (is_among a ps ≡ true) × (script ≡ paid_to s a)
paid_among s [] script a h = cc
paid_among s (p ∷ ps) script a h = by_test (bytes_eq (paid_to s p) script) refl h (λ q. paid_among s ps script a q)
  where
    by_test : (t : Bool) → bytes_eq (paid_to s p) script ≡ t → (if t then Party p else owner_among s ps script) ≡ Party a
        → (owner_among s ps script ≡ Party a → (is_among a ps ≡ true) × (script ≡ paid_to s a)) → ((bytes_eq p a || is_among a ps) ≡ true)
        × (script ≡ paid_to s a)
    by_test true e q ih =
        let z : p ≡ a = cc in
        (or_left _ _ (subst (λ y. bytes_eq p y ≡ true) z (bytes_refl p)), sym (bytes-true (paid_to s p) script e) ∙ ap (paid_to s) z)
    by_test false e q ih = let r = ih q in (or_right (bytes_eq p a) _ r.0, r.1)

pub owns : (s : Setup) (w : World) (a : List ℕ) (n : ℕ) → owner_of s (output_at w n) ≡ Party a → Owns s w a n
owns s w a n h = by_output (slice_get w.outputs n) refl h
  where
    by_deposit : (o : Output) → slice_get w.outputs n ≡ Some o → (b : Bool) → is_deposit (Some o) ≡ b
        → (if b then owner_by s o.script else Outside) ≡ Party a → Owns s w a n
    by_deposit o e true d q = let r = paid_among s s.header.parties o.script a q in record { output = o; there = e; deposit = d; declared = r.0; paid = r.1 }
    by_deposit o e false d q = cc

    by_output : (o : Option Output) → slice_get w.outputs n ≡ o → owner_of s o ≡ Party a → Owns s w a n
    by_output None e q = cc
    by_output (Some o) e q = by_deposit o e (is_deposit (Some o)) refl q

-- what isn't live any more after a transaction was spent by it
pub gone_spent : (os news : List Output) (spent : List ℕ) (n : ℕ) (o : Output) → slice_get os n ≡ Some o → is_deposit (Some o) ≡ true
    → is_deposit (slice_get (spend_from 0 spent os ++ news) n) ≡ false → has_number n spent ≡ true
gone_spent os news spent n o there live gone = by_test (has_number n spent) refl
  where
    z : n + 0 ≡ n
    z = omega arith

    by_test : (b : Bool) → has_number n spent ≡ b → b ≡ true
    by_test true e = refl
    by_test false e =
        let t : has_number (n + 0) spent ≡ false = ap (λ k. has_number k spent) z ∙ e in
        let g : slice_get (spend_from 0 spent os) n ≡ Some o = get-spent 0 n spent os ∙ rw (there, t) refl in
        let f = get-prefix (spend_from 0 spent os) news n o g in
        absurd (both_ways _ (sym (ap is_deposit f) ∙ gone) live)

module _ (s : Setup) (setup : IsSetup s) (before : List Record) (g : Configuration) (w : World) (kept : KeptBook s g w)
    (fit : TransactionsFit s w) (check : Checked s w) (leave : KeptLeave s before g w) (clear : NoCollision s.hash w.hashed) where
  -- the claim of one event that comes to this pending effect, unless it collides
  abbrev Claims : Event → Pending → Type 0
  Claims e d = collision s.hash w.hashed d.hashes ≡ None → SpendsWithLeave s before w (record_of e d) (applied w d)

  -- where no output is spent
  still : (e : Event) (d : Pending) → d.world.outputs ≡ w.outputs → Claims e d
  still e d same apart = λ a n honest own gone.
      let o = owns s w a n own in
      absurd (both_ways _ gone (ap (λ os. is_deposit (slice_get os n)) same ∙ ap is_deposit o.there ∙ o.deposit))

  unless_still : (e : Event) (r : Option Reason) (hashes : List (List ℕ)) (d : Pending) → (r ≡ None → Claims e d) → Claims e (unless r w hashes d)
  unless_still e None hashes d h = h refl
  unless_still e (Some r) hashes d h = still e (refused w hashes r) refl

  accepted_claim : (e : Event) (tx : Tx) → IsNumbered tx → (spent made : List ℕ) → verdict_in s w tx ≡ verdicts.Accepted spent made
      → Claims e (accepted s w tx spent)
  accepted_claim e tx fits spent made v apart = λ a n honest own gone.
      let o = owns s w a n own in
      let hs = noted_all w.hashed (strings_of s w tx ++ items_of tx) in
      let acc : Accepting s w tx spent = accepting s w tx spent (accepted_by s w tx spent made v) in
      let all : HeardAll s w hs tx =
      record { heard = λ t h. all_new w.hashed (strings_of s w tx ++ items_of tx) t (among_left t (strings_of s w tx) (items_of tx) h) } in
      let number = gone_spent w.outputs
      (made_from (new_position s (kind_of s w tx spent)) (txid s.hash tx) 0 tx.outputs) spent n o.output o.there o.deposit gone in
      let i = input_for s w tx spent tx.inputs n acc.spends number in
      let sp = i.2 in
      let e1 : (let x : Option Output = Some sp.output in x) ≡ Some o.output = sym sp.there ∙ o.there in
      let f : sp.output ≡ o.output = cc in
      let paid = ap (λ (x : Output). x.script) f ∙ o.paid in
      let free = ap (λ (x : Output). x.holds) f ∙ none_is o.output.holds (and_parts o.output.live (is_none o.output.holds) o.deposit).1 in
      or_right (gives a n e) (by_transaction s w before a n spent (Some tx))
      (taken_with_leave s setup before g w kept fit check leave clear hs
      (no_collision s.hash w.hashed (strings_of s w tx ++ items_of tx) clear apart)
      (λ t h. all_more w.hashed (strings_of s w tx ++ items_of tx) t h) tx fits spent acc all
      a o.declared n i.0 i.1 sp paid free honest)

  reaches_claim : (e : Event) (tx : Tx) → IsNumbered tx → Claims e (reaches s w w tx)
  reaches_claim e tx fits = by_verdict (verdict_in s w tx) refl
    where
      by_verdict : (v : Verdict) → verdict_in s w tx ≡ v → Claims e (judged s w w tx v)
      by_verdict (verdicts.Refused r) h = still e (refused w (strings_of s w tx) (reason.Ledger r)) refl
      by_verdict (verdicts.Accepted spent made) h = accepted_claim e tx fits spent made h

  reaches_if_claim : (e : Event) (o : Option Tx) → ((tx : Tx) → o ≡ Some tx → IsNumbered tx) → Claims e (reaches_if s w o)
  reaches_if_claim e None fine = still e (refused w [] reason.NotCompiled) refl
  reaches_if_claim e (Some tx) fine = reaches_claim e tx (fine tx refl)

  append_claim : (e : Event) (r : Result Tx ℕ) → ((tx : Tx) → r ≡ Ok tx → IsNumbered tx) → Claims e (append_read s w r)
  append_claim e (Ok tx) fine = reaches_claim e tx (fine tx refl)
  append_claim e (Err place) fine = still e (refused w [] (reason.BadTx place)) refl

  -- ---- gifts

  -- what is given is the giver's
  pub own_given : (party : List ℕ) (ns : List ℕ) (n : ℕ) (a : List ℕ) → is_some (first_foreign s w party ns) ≡ false → has_number n ns
      ≡ true → owner_of s (output_at w n) ≡ Party a → party ≡ a
  own_given party [] n a h i o = cc
  own_given party (m ∷ ns) n a h i o =
      by_test (owner_eq (owner_of s (output_at w m)) (Party party)) refl h (or_cases (m == n) (has_number n ns) i) (λ q x. own_given party ns n a q x o)
    where
      by_test : (b : Bool) → owner_eq (owner_of s (output_at w m)) (Party party) ≡ b
          → is_some (if b then first_foreign s w party ns else Some m) ≡ false → ((m == n) ≡ true) ⊎ (has_number n ns ≡ true)
          → (is_some (first_foreign s w party ns) ≡ false → has_number n ns ≡ true → party ≡ a) → party ≡ a
      by_test true e q (inl x) ih =
          let own : owner_of s (output_at w m) ≡ Party a = ap (λ k. owner_of s (output_at w k)) (eqb-true m n x) ∙ o in
          let t : bytes_eq a party ≡ true = subst (λ y. owner_eq y (Party party) ≡ true) own e in
          sym (bytes-true a party t)
      by_test true e q (inr x) ih = ih q x
      by_test false e q x ih = cc

  give_claim : (party : List ℕ) (inputs : List ℕ) (outputs : List (List ℕ × ℕ)) → IsGift s party inputs outputs
      → Claims (events.Give party inputs outputs)
      (unless (first_reason (give_row s w party inputs outputs)) w []
      (reaches s w (with_pairs w (given_pairs s w party inputs outputs)) (gift s w party inputs outputs)))
  give_claim party inputs outputs is =
      unless_still (events.Give party inputs outputs) (first_reason (give_row s w party inputs outputs)) []
      (reaches s w (with_pairs w (given_pairs s w party inputs outputs)) (gift s w party inputs outputs)) (λ r.
      by_verdict (no_reason-none_true (give_row s w party inputs outputs) r)
      (verdict_in s (with_pairs w (given_pairs s w party inputs outputs)) (gift s w party inputs outputs)) refl)
    where
      by_verdict : NoneTrue (give_row s w party inputs outputs) → (v : Verdict)
          → verdict_in s (with_pairs w (given_pairs s w party inputs outputs)) (gift s w party inputs outputs) ≡ v
          → Claims (events.Give party inputs outputs) (judged s w (with_pairs w (given_pairs s w party inputs outputs)) (gift s w party inputs outputs) v)
      by_verdict row (verdicts.Refused r) h =
          still (events.Give party inputs outputs)
          (refused w (strings_of s (with_pairs w (given_pairs s w party inputs outputs)) (gift s w party inputs outputs)) (reason.Ledger r)) refl
      by_verdict row (verdicts.Accepted spent made) h = λ apart a n honest own gone.
          let tx = gift s w party inputs outputs in
          let next = with_pairs w (given_pairs s w party inputs outputs) in
          let o = owns s w a n own in
          let number = gone_spent w.outputs
          (made_from (new_position s (kind_of s next tx spent)) (txid s.hash tx) 0 tx.outputs) spent n o.output o.there o.deposit gone in
          let same = spent_is s setup.hash setup.few_contracts
          [] g w kept fit check clear party is.giver inputs outputs is.few_outputs row spent made h apart in
          let given : has_number n inputs ≡ true = subst (λ ns. has_number n ns ≡ true) same number in
          let giver = own_given party inputs n a row.1.0 given own in
          or_left (gives a n (events.Give party inputs outputs)) (by_transaction s w before a n spent (Some tx))
          (and_from _ _ (subst (λ y. bytes_eq party y ≡ true) giver (bytes_refl party)) given)

  -- ---- all events

  commit_claim : (k : ℕ) (party : List ℕ) (ds : List (List ℕ × List ℕ)) → Claims (events.Commit k party ds) (pending s w (events.Commit k party ds))
  commit_claim k party ds =
      let e = events.Commit k party ds in
      let strings = committed_strings s k party in
      let last = committed_pending s (with_promise s w k party ds) k party strings in
      unless_still e (first_reason (commit_row s w k party ds)) [] (unless (first_reason (digest_row s w k party ds)) w strings last)
      (λ r. unless_still e (first_reason (digest_row s w k party ds)) strings last (λ q. still e last refl))

  pub leave_of_event : (e : Event) → IsEvent s e → collision s.hash w.hashed (pending s w e).hashes ≡ None
      → SpendsWithLeave s before w (record_of e (pending s w e)) (applied w (pending s w e))
  leave_of_event (events.Advertise k bs) is =
      let d = done (record w { advertised = w.advertised ++ record { contract = k; bindings = arranged 0 (deposit_names s k) bs } ∷ [] }) [] in
      unless_still (events.Advertise k bs) (first_reason (advertise_row s w k bs)) [] d (λ r. still (events.Advertise k bs) d refl)
  leave_of_event (events.Commit k party ds) is = commit_claim k party ds
  leave_of_event (events.Endorse k party) is =
      let d = done (with_pairs w (endorsing_pairs s party (compiled_instance s w k))) [] in
      unless_still (events.Endorse k party) (first_reason (endorse_row s w k party)) [] d (λ r. still (events.Endorse k party) d refl)
  leave_of_event (events.Init k party) is =
      let d = done (with_pairs w (initial_pairs s party (compiled_instance s w k))) [] in
      unless_still (events.Init k party) (first_reason (init_row s w k party)) [] d (λ r. still (events.Init k party) d refl)
  leave_of_event (events.Authorise party n j) is =
      let d = done (with_pairs w (authorising_pairs s w party (live_position_at w n) j)) [] in
      unless_still (events.Authorise party n j) (first_reason (authorise_row s w party n j)) [] d (λ r. still (events.Authorise party n j) d refl)
  leave_of_event (events.Reveal k party name) is =
      let d = posting w (own_secret s party name) (Some (party, name)) in
      unless_still (events.Reveal k party name) (first_reason (reveal_row s w k party name)) [] d (λ r. still (events.Reveal k party name) d refl)
  leave_of_event (events.Post string) is = still (events.Post string) (posting w string None) refl
  leave_of_event (events.Sign party label digest) is =
      let d = done (with_pairs w ((key_of s.hash label, digest) ∷ [])) (label_text label ∷ []) in
      unless_still (events.Sign party label digest) (first_reason (sign_row s party label)) [] d (λ r. still (events.Sign party label digest) d refl)
  leave_of_event (events.Give party inputs outputs) is = give_claim party inputs outputs is
  leave_of_event (events.Append bytes) is = append_claim (events.Append bytes) (transaction_of bytes) (λ tx h. piece_numbered bytes is tx h)
  leave_of_event (events.FireInit k) is =
      unless_still (events.FireInit k) (first_reason (fire_init_row s w k)) [] (reaches_if s w (initial_by s (compiled_instance s w k)))
      (λ r. reaches_if_claim (events.FireInit k) (initial_by s (compiled_instance s w k))
      (started_numbered s setup.hash setup.few_contracts [] g w kept fit check clear k))
  leave_of_event (events.Fire n j) is =
      unless_still (events.Fire n j) (first_reason (fire_row s w n j)) [] (reaches_if s w (taking_of_position s w (live_position_at w n) j))
      (λ r. reaches_if_claim (events.Fire n j) (taking_of_position s w (live_position_at w n) j)
      (taken_numbered s setup.hash setup.few_contracts [] g w kept fit check clear n j))
  leave_of_event (events.Mine blocks) is =
      let d = done (record w { tip = w.tip + blocks }) [] in
      unless_still (events.Mine blocks) (first_reason (mine_row w blocks)) [] d (λ r. still (events.Mine blocks) d refl)
