-- Honest parties' steps come only with their own events, whatever the event.
use Rattle.std.proofs.Common.{◌≡◌, ℕ, ◌+◌, List, [], ◌∷◌, ◌++◌, map, true, Option, Some, None, Result, Ok, Err, refl, sym, ap, ◌∙◌, subst, inl}
use Rattle.std.specs.Prelude.{◌&&◌}
use Rattle.std.specs.List.{list_all}
use Rattle.std.specs.Option.{is_none}
use Rattle.std.specs.Str.{bytes_eq}
use Rattle.std.proofs.lemmas.Bool.{and_parts, not-false}
use Rattle.spec_data.specs.Lists.{is_among, has_number, first_reason, NoneTrue}
use Rattle.spec_data.proofs.ListLemmas.{no_reason-none_true}
use Rattle.spec_terms.specs.Precondition.{Holding, persistent}
use Rattle.spec_bitcoin.specs.declared.tx.Tx.{Tx}
use Rattle.spec_bitcoin.specs.declared.verdict.Verdict.{Verdict}
use Rattle.spec_bitcoin.specs.declared.verdict.Verdict.TheVariants as verdicts
use Rattle.spec_bitcoin.specs.Keys.{key_of, label_text}
use Rattle.spec_bitcoin.specs.Reading.{transaction_of}
use Rattle.spec_calculus.specs.Configuration.{Configuration}
use Rattle.spec_calculus.specs.Steps.{owned}
use Rattle.spec_calculus.specs.declared.parts.Revealed.{Revealed}
use Rattle.spec_calculus.specs.declared.step.Step.TheVariants as steps
use Rattle.spec_run.specs.declared.event.Event.{Event}
use Rattle.spec_run.specs.declared.event.Event.TheVariants as events
use Rattle.spec_run.specs.declared.outcome.Reason.{Reason}
use Rattle.spec_run.specs.declared.outcome.Record.{Record}
use Rattle.spec_run.specs.Setup.{Setup, is_declared, is_honest, held_secret, pre_at}
use Rattle.spec_run.specs.World.{World, live_position_at, live_position}
use Rattle.spec_data.specs.Messages.{noted_all, collision}
use Rattle.spec_run.specs.Secrets.{digest_at}
use Rattle.spec_run.specs.Compiled.{compiled_instance}
use Rattle.spec_run.specs.Conditions.{IsSetup, IsEvent, IsGift}
use Rattle.spec_run.specs.Pending.{Pending, done, posting, unless, guess, applied}
use Rattle.spec_run.specs.Advertising.{arranged, deposit_names, advertise_row}
use Rattle.spec_run.specs.Committing.{committed_strings, commit_row, digest_row, with_promise, strings_compiled, committed_pending}
use Rattle.spec_run.specs.Signing.{with_pairs, endorsing_pairs, endorse_row, initial_pairs, init_row, authorising_pairs, authorise_row, sign_row}
use Rattle.spec_run.specs.Revealing.{own_secret, reveal_row}
use Rattle.spec_run.specs.Giving.{give_row, given_output, given_pairs, gift}
use Rattle.spec_run.specs.Firing.{initial_by, taking_of_position, reaches_if, fire_init_row, fire_row}
use Rattle.spec_run.specs.Ledger.{verdict_in, strings_of, items_of, accepted, judged, reaches, initial_of, first_position, Moves, kind_by, kind_of}
use Rattle.spec_run.specs.Event.{append_read, mine_row, pending}
use Rattle.spec_run.specs.Steps.{parties_once, moved_output, move_of, auth_move, owners_of, reveals, kind_steps, is_of_party, is_bound_live, steps_of}
use Rattle.spec_run.specs.Licence.{IsRevealOf, Licensed}
use Rattle.theory_calculus.proofs.Names.{bytes-true}
use Rattle.theory_calculus.specs.Members.{Is_in}
use Rattle.theory_calculus.proofs.Members.{in_filter}
use Rattle.theory_run.proofs.Events.Advertised.{none_is}
use Rattle.theory_world.specs.KeptApart.{NoCollision}
use Rattle.theory_world.proofs.Hashed.{no_collision, among_left, among_right, all_more, all_new}
use Rattle.theory_world.proofs.Ledger.Worth.{accepted_by}
use Rattle.theory_world.specs.Transactions.{IsNumbered}
use Rattle.theory_world.proofs.Ledger.Accepting.{Accepting, accepting, HeardAll}
use Rattle.theory_run.proofs.Facts.AllSecrets.{all_different}
use Rattle.theory_run.specs.KeptSecrets.{KeptSecrets}
use Rattle.theory_run.proofs.Facts.KeptSecrets.{Begins}
use Rattle.theory_run.proofs.Facts.Posting.{allows, IsRevealer, is_own-some, revealed_by}
use Rattle.theory_run.specs.Tracks.{Constant}
use Rattle.theory_run.proofs.Steps.CommitSteps.{none_shown}
use Rattle.theory_run.specs.KeptBook.{KeptBook}
use Rattle.theory_run.proofs.Accepted.Spending.{TransactionsFit, Checked}
use Rattle.theory_run.proofs.Accepted.WhatItIs.{initial_is}
use Rattle.theory_run.proofs.Facts.Owned.{owner_paid}
use Rattle.theory_run.proofs.Accepted.ScriptsApart.{gift_starts_nothing}
use Rattle.theory_run.proofs.Events.Fired.{piece_numbered, started_numbered, taken_numbered}
use Rattle.theory_run.proofs.Events.Given.{is_given, spent_is}
use Rattle.theory_run.proofs.Honest.Leaves.{KeptLeave}
use Rattle.theory_run.proofs.Honest.HonestSpends.{own_given}
use Rattle.theory_run.proofs.Honest.LicensedSteps.{licensed_append, licensed_reveals, licensed_moves, licensed_inits, owner_spent, kind_licensed}

module _ (s : Setup) (setup : IsSetup s) (strings : List (List ℕ)) (before : List Record) (g : Configuration) (w : World)
    (kept : KeptBook s g w) (fit : TransactionsFit s w) (check : Checked s w) (leave : KeptLeave s before g w)
    (secrets : KeptSecrets s strings g w) (constant : Constant s g) (advertised : g.advertised ≡ w.advertised) where
  clear : NoCollision s.hash w.hashed
  clear = secrets.clear

  -- the claim of one event that comes to this pending effect, unless it collides or guesses
  abbrev Claims : Event → Pending → Type 0
  Claims e d = collision s.hash w.hashed d.hashes ≡ None → guess s w.posted d.posts d.allowed ≡ None → Begins strings (applied w d).posted
      → Licensed s e (steps_of s strings g w (applied w d) e d)

  unless_claim : (e : Event) (r : Option Reason) (hashes : List (List ℕ)) (d : Pending) → (r ≡ None → Claims e d) → Claims e (unless r w hashes d)
  unless_claim e None hashes d h = h refl
  unless_claim e (Some r) hashes d h = λ apart unguessed begins. tt

  -- ---- what is posted by nobody's leave

  nobody : (e : Event) (d : Pending) → d.world.promises ≡ w.promises → d.allowed ≡ None
      → ((t : List ℕ) → is_among t d.posts ≡ true → is_among t d.hashes ≡ true)
      → collision s.hash w.hashed d.hashes ≡ None → guess s w.posted d.posts d.allowed ≡ None → Licensed s e (reveals s w (applied w d))
  nobody e d same none heard apart unguessed =
      licensed_reveals s e w (applied w d) (λ x sh hid honest.
      let r = revealed_by s strings g w (applied w d) d.hashes d.posts d.allowed secrets same refl refl apart unguessed heard x sh hid honest in
      let f : allows None x.party x.secret ≡ true = ap (λ o. allows o x.party x.secret) (sym none) ∙ r.allowed in
      cc)

  -- ---- transactions

  accepted_claim : (e : Event) (tx : Tx) → IsNumbered tx → (spent made : List ℕ) → verdict_in s w tx ≡ verdicts.Accepted spent made
      → Claims e (accepted s w tx spent)
  accepted_claim e tx fits spent made v apart unguessed begins =
      let d = accepted s w tx spent in
      let hs = noted_all w.hashed (strings_of s w tx ++ items_of tx) in
      let acc : Accepting s w tx spent = accepting s w tx spent (accepted_by s w tx spent made v) in
      let all : HeardAll s w hs tx =
      record { heard = λ t h. all_new w.hashed (strings_of s w tx ++ items_of tx) t (among_left t (strings_of s w tx) (items_of tx) h) } in
      licensed_append s e (reveals s w (applied w d)) (kind_steps s g w tx spent (kind_of s w tx spent))
      (nobody e d refl refl (λ t h. among_right t (strings_of s w tx) (items_of tx) h) apart unguessed)
      (kind_licensed s setup before g w kept fit check leave clear hs
      (no_collision s.hash w.hashed (strings_of s w tx ++ items_of tx) clear apart)
      (λ t h. all_more w.hashed (strings_of s w tx ++ items_of tx) t h) tx fits spent acc all e)

  reaches_claim : (e : Event) (tx : Tx) → IsNumbered tx → Claims e (reaches s w w tx)
  reaches_claim e tx fits = by_verdict (verdict_in s w tx) refl
    where
      by_verdict : (v : Verdict) → verdict_in s w tx ≡ v → Claims e (judged s w w tx v)
      by_verdict (verdicts.Refused r) h = λ apart unguessed begins. tt
      by_verdict (verdicts.Accepted spent made) h = accepted_claim e tx fits spent made h

  reaches_if_claim : (e : Event) (o : Option Tx) → ((tx : Tx) → o ≡ Some tx → IsNumbered tx) → Claims e (reaches_if s w o)
  reaches_if_claim e None fine = λ apart unguessed begins. tt
  reaches_if_claim e (Some tx) fine = reaches_claim e tx (fine tx refl)

  append_claim : (e : Event) (r : Result Tx ℕ) → ((tx : Tx) → r ≡ Ok tx → IsNumbered tx) → Claims e (append_read s w r)
  append_claim e (Ok tx) fine = reaches_claim e tx (fine tx refl)
  append_claim e (Err place) fine = λ apart unguessed begins. tt

  -- ---- gifts

  paid_owned : (os : List (List ℕ × ℕ)) → list_all (λ o. is_declared s (o.0)) os ≡ true → map (moved_output s) (map (given_output s) os) ≡ owned os
  paid_owned [] h = refl
  paid_owned (o ∷ os) h =
      let p = and_parts (is_declared s (o.0)) (list_all (λ x. is_declared s (x.0)) os) h in
      let a = owner_paid s g w kept w.hashed clear (λ t i. i) (o.0) p.0 in
      let b = paid_owned os p.1 in
      λ j. (a j, o.1) ∷ b j

  module _ (party : List ℕ) (inputs : List ℕ)
      (outputs : List (List ℕ × ℕ)) (is : IsGift s party inputs outputs) (row : NoneTrue (give_row s w party inputs outputs)) where
    abbrev tx : Tx
    tx = gift s w party inputs outputs

    abbrev next : World
    next = with_pairs w (given_pairs s w party inputs outputs)

    no_start : initial_of s w tx ≡ None
    no_start = by_initial (initial_of s w tx) refl
      where
        by_initial : (o : Option ℕ) → initial_of s w (gift s w party inputs outputs) ≡ o → o ≡ None
        by_initial None x = refl
        by_initial (Some k) x =
            let i = initial_is s w (gift s w party inputs outputs) k x in
            absurd (gift_starts_nothing s setup.hash setup.few_contracts g w kept check clear k i.instance i.compiled party inputs outputs
            is.takers is.some_output i.is)

    free_first : (ns : List ℕ) → ((n : ℕ) → Is_in n ns → Is_in n inputs) → first_position w ns ≡ None
    free_first [] h = refl
    free_first (n ∷ ns) h =
        let v = is_given w inputs row.0 n (h n (inl refl)) in
        let p = and_parts v.output.live (is_none v.output.holds) v.deposit in
        ap live_position v.there ∙ rw p.0 (none_is v.output.holds p.1)

    give_accepted : (spent made : List ℕ) → verdict_in s (with_pairs w (given_pairs s w party inputs outputs))
        (gift s w party inputs outputs) ≡ verdicts.Accepted spent made
        → Claims (events.Give party inputs outputs) (accepted s (with_pairs w (given_pairs s w party inputs outputs)) (gift s w party inputs outputs) spent)
    give_accepted spent made v apart unguessed begins =
        let e = events.Give party inputs outputs in
        let d = accepted s next tx spent in
        let same = spent_is s setup.hash setup.few_contracts [] g w kept fit check clear party is.giver inputs outputs is.few_outputs row spent made v apart in
        let free : first_position w spent ≡ None = ap (first_position w) same ∙ free_first inputs (λ n i. i) in
        let k : kind_of s w tx spent ≡ Moves = λ j. kind_by s tx spent (no_start j) (free j) in
        let action = move_of s tx spent in
        let ps = parties_once (owners_of s w spent) in
        let outs = paid_owned outputs is.takers in
        let moves : Licensed s e (kind_steps s g w tx spent Moves) =
        licensed_append s e (map (auth_move action) ps) (steps.Move action ∷ []) (licensed_moves s e action ps (λ p i honest.
        let r = owner_spent s w spent p i in
        let giver = own_given s setup before g w kept fit check leave clear party inputs r.0 p row.1.0 (subst (λ ns. has_number r.0 ns ≡ true) same r.1) r.2 in
        (sym giver, same, outs))) (tt, tt) in
        licensed_append s e (reveals s w (applied w d)) (kind_steps s g w tx spent (kind_of s w tx spent))
        (nobody e d refl refl (λ t h. among_right t (strings_of s next tx) (items_of tx) h) apart unguessed)
        (subst (λ x. Licensed s e (kind_steps s g w tx spent x)) (sym k) moves)

  give_claim : (party : List ℕ) (inputs : List ℕ) (outputs : List (List ℕ × ℕ)) → IsGift s party inputs outputs
      → Claims (events.Give party inputs outputs)
      (unless (first_reason (give_row s w party inputs outputs)) w []
      (reaches s w (with_pairs w (given_pairs s w party inputs outputs)) (gift s w party inputs outputs)))
  give_claim party inputs outputs is =
      unless_claim (events.Give party inputs outputs) (first_reason (give_row s w party inputs outputs)) []
      (reaches s w (with_pairs w (given_pairs s w party inputs outputs)) (gift s w party inputs outputs)) (λ r.
      by_verdict (no_reason-none_true (give_row s w party inputs outputs) r)
      (verdict_in s (with_pairs w (given_pairs s w party inputs outputs)) (gift s w party inputs outputs)) refl)
    where
      by_verdict : NoneTrue (give_row s w party inputs outputs) → (v : Verdict)
          → verdict_in s (with_pairs w (given_pairs s w party inputs outputs)) (gift s w party inputs outputs) ≡ v
          → Claims (events.Give party inputs outputs) (judged s w (with_pairs w (given_pairs s w party inputs outputs)) (gift s w party inputs outputs) v)
      by_verdict row (verdicts.Refused r) h = λ apart unguessed begins. tt
      by_verdict row (verdicts.Accepted spent made) h = give_accepted party inputs outputs is row spent made h

  -- ---- secrets

  reveal_claim : (k : ℕ) (party name : List ℕ) → Claims (events.Reveal k party name) (pending s w (events.Reveal k party name))
  reveal_claim k party name =
      unless_claim (events.Reveal k party name) (first_reason (reveal_row s w k party name)) []
      (posting w (own_secret s party name) (Some (party, name))) (λ none apart unguessed begins.
      let row = no_reason-none_true (reveal_row s w k party name) none in
      let next = applied w (posting w (own_secret s party name) (Some (party, name))) in
      licensed_reveals s (events.Reveal k party name) w next (λ x sh hid honest.
      by_revealer row x honest (revealed_by s strings g w next (own_secret s party name ∷ []) (own_secret s party name ∷ [])
      (Some (party, name)) secrets refl refl refl apart unguessed (λ t h. h) x sh hid honest)))
    where
      by_revealer : NoneTrue (reveal_row s w k party name) → (x : Revealed) → is_honest s x.party ≡ true
          → IsRevealer s w (Some (party, name)) x → IsRevealOf (events.Reveal k party name) x.contract x.party x.secret
      by_revealer row x honest r =
          let y : Revealed = record { contract = k; party = party; secret = name } in
          let p = and_parts (bytes_eq party x.party) (bytes_eq name x.secret) r.allowed in
          let a = bytes-true party x.party p.0 in
          let n = bytes-true name x.secret p.1 in
          let there = secrets.full y (not-false _ row.1.1.1.0) (not-false _ row.1.1.0) in
          let own = is_own-some s w.hashed (held_secret s party name) (digest_at w.promises y) (secrets.own y (not-false _ row.1.0)) there in
          let one : (let z : Option (List ℕ) = Some own.secret in z) ≡ Some r.secret = sym own.own ∙ (λ j. held_secret s (a j) (n j)) ∙ r.own in
          let t : own.secret ≡ r.secret = cc in
          let same = secrets.once.one x y (s.hash r.secret) r.digest (own.digest ∙ ap (λ z. Some (s.hash z)) t) in
          (ap (λ (z : Revealed). z.contract) same, ap (λ (z : Revealed). z.party) same, ap (λ (z : Revealed). z.secret) same)

  commit_claim : (k : ℕ) (party : List ℕ) (ds : List (List ℕ × List ℕ)) → Claims (events.Commit k party ds) (pending s w (events.Commit k party ds))
  commit_claim k party ds =
      let e = events.Commit k party ds in
      let own = committed_strings s k party in
      let promised = with_promise s w k party ds in
      let last = committed_pending s promised k party own in
      unless_claim e (first_reason (commit_row s w k party ds)) [] (unless (first_reason (digest_row s w k party ds)) w own last) (λ none.
      unless_claim e (first_reason (digest_row s w k party ds)) own last (λ fresh apart unguessed begins.
      let next = applied w last in
      let hashes = own ++ strings_compiled s (compiled_instance s promised k) in
      let heard : (t : List ℕ) → is_among t own ≡ true → is_among t hashes ≡ true =
      λ t h. among_left t own (strings_compiled s (compiled_instance s promised k)) h in (
        (λ honest. (refl, refl)),
        licensed_reveals s e w next (λ x sh hid honest. absurd
            (none_shown s strings (all_different s setup.contracts) g w constant advertised secrets k party ds none fresh hashes next refl
            refl refl apart heard begins x sh hid honest)),
      )))

  -- ---- all events

  pub licence_of_event : (e : Event) → IsEvent s e → Claims e (pending s w e)
  licence_of_event (events.Advertise k bs) is =
      let d = done (record w { advertised = w.advertised ++ record { contract = k; bindings = arranged 0 (deposit_names s k) bs } ∷ [] }) [] in
      unless_claim (events.Advertise k bs) (first_reason (advertise_row s w k bs)) [] d (λ r apart unguessed begins. (tt, tt))
  licence_of_event (events.Commit k party ds) is = commit_claim k party ds
  licence_of_event (events.Endorse k party) is =
      unless_claim (events.Endorse k party) (first_reason (endorse_row s w k party)) []
      (done (with_pairs w (endorsing_pairs s party (compiled_instance s w k))) []) (λ r apart unguessed begins. tt)
  licence_of_event (events.Init k party) is =
      unless_claim (events.Init k party) (first_reason (init_row s w k party)) []
      (done (with_pairs w (initial_pairs s party (compiled_instance s w k))) []) (λ r apart unguessed begins.
      licensed_inits s (events.Init k party) k _ (λ d i honest.
      let f = in_filter (λ (x : List ℕ × Holding). is_of_party party x && is_bound_live w k x) (persistent (pre_at s k)) d i in
      (refl, bytes-true (d.1).owner party (and_parts (is_of_party party d) (is_bound_live w k d) f.1).0)))
  licence_of_event (events.Authorise party n j) is =
      unless_claim (events.Authorise party n j) (first_reason (authorise_row s w party n j)) []
      (done (with_pairs w (authorising_pairs s w party (live_position_at w n) j)) []) (λ r apart unguessed begins. ((λ honest. (refl, refl, refl)), tt))
  licence_of_event (events.Reveal k party name) is = reveal_claim k party name
  licence_of_event (events.Post string) is = λ apart unguessed begins. nobody (events.Post string) (posting w string None) refl refl (λ t h. h) apart unguessed
  licence_of_event (events.Sign party label digest) is =
      unless_claim (events.Sign party label digest) (first_reason (sign_row s party label)) []
      (done (with_pairs w ((key_of s.hash label, digest) ∷ [])) (label_text label ∷ [])) (λ r apart unguessed begins. tt)
  licence_of_event (events.Give party inputs outputs) is = give_claim party inputs outputs is
  licence_of_event (events.Append bytes) is = append_claim (events.Append bytes) (transaction_of bytes) (λ tx h. piece_numbered bytes is tx h)
  licence_of_event (events.FireInit k) is =
      unless_claim (events.FireInit k) (first_reason (fire_init_row s w k)) [] (reaches_if s w (initial_by s (compiled_instance s w k)))
      (λ r. reaches_if_claim (events.FireInit k) (initial_by s (compiled_instance s w k))
      (started_numbered s setup.hash setup.few_contracts [] g w kept fit check clear k))
  licence_of_event (events.Fire n j) is =
      unless_claim (events.Fire n j) (first_reason (fire_row s w n j)) [] (reaches_if s w (taking_of_position s w (live_position_at w n) j))
      (λ r. reaches_if_claim (events.Fire n j) (taking_of_position s w (live_position_at w n) j)
      (taken_numbered s setup.hash setup.few_contracts [] g w kept fit check clear n j))
  licence_of_event (events.Mine blocks) is =
      unless_claim (events.Mine blocks) (first_reason (mine_row w blocks)) [] (done (record w { tip = w.tip + blocks }) [])
      (λ r apart unguessed begins. (tt, tt))
