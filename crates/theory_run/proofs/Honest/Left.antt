-- Which leave stands behind each signature of an honest party's deposit is kept by every event.
use Rattle.std.proofs.Common.{◌≡◌, ℕ, ◌+◌, ◌≤◌, List, [], ◌∷◌, ◌++◌, length, true, Option, Some, None, Result, Ok, Err, refl, sym, ap, ◌∙◌, subst}
use Rattle.std.specs.Prelude.{slice_get, is_some}
use Rattle.std.specs.Str.{bytes_eq}
use Rattle.std.proofs.lemmas.Bool.{and_from, eq-eqb, not-false}
use Rattle.spec_data.specs.Lists.{is_among, first_reason, NoneTrue}
use Rattle.spec_data.proofs.ListLemmas.{no_reason-none_true}
use Rattle.spec_terms.specs.Term as term
use Rattle.spec_terms.specs.Term.{branches}
use Rattle.spec_terms.specs.Paths.{at}
use Rattle.spec_terms.specs.declared.path.PathStep.TheVariants.{Branch as To}
use Rattle.spec_bitcoin.specs.declared.label.Label.{Label}
use Rattle.spec_bitcoin.specs.declared.tx.Tx.{Tx}
use Rattle.spec_bitcoin.specs.declared.verdict.Verdict.{Verdict}
use Rattle.spec_bitcoin.specs.declared.verdict.Verdict.TheVariants as verdicts
use Rattle.spec_bitcoin.specs.Keys.{Pair, IsLabel, key_of, label_text, has_signed}
use Rattle.spec_bitcoin.specs.Reading.{transaction_of}
use Rattle.spec_calculus.specs.Configuration.{Configuration}
use Rattle.spec_calculus.specs.Steps.{after_steps}
use Rattle.spec_calculus.specs.declared.step.Step.{Step}
use Rattle.spec_calculus.specs.declared.step.Step.TheVariants as steps
use Rattle.spec_compiler.specs.Instance.{Instance, deposit_key, people}
use Rattle.spec_run.specs.declared.event.Event.{Event}
use Rattle.spec_run.specs.declared.event.Event.TheVariants as events
use Rattle.spec_run.specs.declared.outcome.Reason.TheVariants as reason
use Rattle.spec_run.specs.declared.outcome.Record.{Record}
use Rattle.spec_run.specs.Setup.{Setup, is_declared}
use Rattle.spec_run.specs.World.{ContractPosition, World, live_position_at}
use Rattle.spec_data.specs.Messages.{noted_all, collision}
use Rattle.spec_run.specs.Compiled.{compiled_instance}
use Rattle.spec_run.specs.Conditions.{HashesBytes, IsEvent}
use Rattle.spec_run.specs.Pending.{Pending, done, posting, refused, unless, applied}
use Rattle.spec_run.specs.HonestDeposits.{is_init, is_endorse}
use Rattle.spec_run.specs.Advertising.{arranged, deposit_names, advertise_row}
use Rattle.spec_run.specs.Committing.{committed_strings, commit_row, digest_row, with_promise, committed_pending, commit_pending}
use Rattle.spec_run.specs.Signing.{with_pairs, endorsing_pairs, endorse_row, endorse_pending, initial_pairs, init_row, init_pending, asked_by, branch_if_live, authorising_pairs, authorise_row, authorise_pending, label_party, sign_row, sign_pending}
use Rattle.spec_run.specs.Revealing.{own_secret, reveal_row}
use Rattle.spec_run.specs.Giving.{give_row, given_pairs, gift, give_pending}
use Rattle.spec_run.specs.Firing.{initial_by, taking_of_position, reaches_if, fire_init_row, fire_row}
use Rattle.spec_run.specs.Ledger.{verdict_in, strings_of, items_of, accepted, judged, reaches, position_branch, position_path, branch_in}
use Rattle.spec_run.specs.Event.{append_read, mine_row, pending, record_of}
use Rattle.spec_run.specs.Steps.{init_steps, steps_of}
use Rattle.theory_calculus.proofs.Names.{bytes-true, bytes_refl}
use Rattle.theory_world.specs.KeptApart.{NoCollision}
use Rattle.theory_world.proofs.Hashed.{no_collision, among_head, all_more, all_new}
use Rattle.theory_world.proofs.Book.{signed_back}
use Rattle.theory_world.proofs.Contracts.Standing.{term_branches}
use Rattle.theory_world.proofs.Contracts.Mentions.{branch_named, asked_mentioned}
use Rattle.theory_run.specs.KeptBook.{KeptBook, HeldFine}
use Rattle.theory_run.proofs.Facts.Kept.{Frame, gave_later}
use Rattle.theory_run.proofs.Accepted.Spending.{TransactionsFit, Checked}
use Rattle.theory_run.proofs.Facts.Labelled.{lie_deposit, pairs_are, authorised_deposit}
use Rattle.theory_run.proofs.Events.AfterSigning.{endorse_needed, start_started}
use Rattle.theory_world.proofs.Staying.{inits_stay, asked_stay, branch_new}
use Rattle.theory_run.proofs.Events.Quiet.{IsActive, active, held_contract, now_authorised}
use Rattle.theory_run.proofs.Events.Given.{given_deposit, heard, given_cause, given_dead}
use Rattle.theory_run.proofs.Honest.Leaves.{Leave, by_gift, by_endorsement, by_start, KeptLeave, was_new, LeaveAfter, frame_of, leave_by, quiet_leave, unless_leave}

-- no deposit's key is among the pairs of a branch
asked_pairs : (s : Setup) (size : HashesBytes s.hash) (few_contracts : length s.contracts ≤ 16) (g : Configuration) (w : World)
    (kept : KeptBook s g w) (check : Checked s w) (clear : NoCollision s.hash w.hashed) (party : List ℕ) (n j : ℕ) (held : ContractPosition)
    → live_position_at w n ≡ Some held
    → is_some (position_branch s held j) ≡ true → is_among party (asked_by (position_branch s held j)) ≡ true → (a d : List ℕ)
    → is_declared s a ≡ true → has_signed (authorising_pairs s w party (Some held) j) (deposit_key s.hash a) d ≡ true → ⊥
asked_pairs s size few_contracts g w kept check clear party n j held e b asks a d decl x = by_branch (position_branch s held j) refl b asks
  where
    act : IsActive w n held
    act = active w n held e

    hf : HeldFine s w act.output held
    hf = kept.held n act.output held act.there act.holds

    by_branch : (o : Option term.Guarded) → position_branch s held j ≡ o → is_some o ≡ true → is_among party (asked_by o) ≡ true → ⊥
    by_branch None u v k = cc
    by_branch (Some c) u v k =
        let text : at hf.instance.advert.root (held.position ++ To j ∷ []) ≡ Some c =
        ap (λ o. branch_in o (position_path held j)) (sym (held_contract s w held act.output hf)) ∙ u in
        let has : slice_get (branches hf.choice) j ≡ Some c = sym (term_branches s.hash hf.instance held.position hf.here hf.choice j hf.stands) ∙ text in
        let part : is_among party (people hf.instance) ≡ true =
        branch_named hf.instance.advert (held.position ++ To j ∷ []) c party text (asked_mentioned c party k) in
        let g' = after_steps g (steps.AuthBranch party n j ∷ []) in
        let now = branch_new g.branch_authorised party n j in
        let y = subst (λ ps. has_signed ps (deposit_key s.hash a) d ≡ true)
        (pairs_are s size few_contracts g w kept check w.hashed clear (λ t i. i) g' w refl party n act.output held act.there hf j c has part now) x in
        authorised_deposit s size few_contracts g w kept check w.hashed clear (λ t i. i) g' w refl party n act.output held act.there hf j c
        has part now a d decl y

-- a gift that has been made
given_leave : (s : Setup) (size : HashesBytes s.hash) (few_contracts : length s.contracts ≤ 16) (strings : List (List ℕ))
    (before : List Record) (g : Configuration) (w : World) (kept : KeptBook s g w) (fit : TransactionsFit s w) (check : Checked s w)
    (clear : NoCollision s.hash w.hashed) (leave : KeptLeave s before g w)
    (party : List ℕ) (declared : is_declared s party ≡ true) (inputs : List ℕ) (outputs : List (List ℕ × ℕ)) (few : length outputs ≤ 262144)
    (row : NoneTrue (give_row s w party inputs outputs)) (spent made : List ℕ)
    → (let next = with_pairs w (given_pairs s w party inputs outputs) in
    let tx = gift s w party inputs outputs in let d = accepted s next tx spent in let e = events.Give party inputs outputs in
    verdict_in s next tx ≡ verdicts.Accepted spent made → collision s.hash w.hashed (strings_of s next tx ++ items_of tx) ≡ None
    → give_pending s w party inputs outputs ≡ d
    → KeptLeave s (before ++ record_of e d ∷ []) (after_steps g (steps_of s strings g w (applied w d) e d)) (applied w d))
unfolding gave_later given_cause
given_leave s size few_contracts strings before g w kept fit check clear leave party declared inputs outputs few row spent made v apart q =
    let pairs = given_pairs s w party inputs outputs in
    let tx = gift s w party inputs outputs in
    let d = accepted s (with_pairs w pairs) tx spent in
    let e = events.Give party inputs outputs in
    let own : World = heard s size few_contracts strings g w kept fit check clear party declared inputs outputs few row spent made v apart in
    let f = frame_of s strings before g w kept leave e d q in
    let xs = steps_of s strings g w (applied w d) e d in
    let later : Frame s g (after_steps g xs) own (applied w d) = record {
      outputs = f.outputs;
      book = λ k x h. h;
      hashed = λ t h. h;
      compiled = f.compiled;
      bindings = f.bindings;
      inits = inits_stay xs g;
      asked = asked_stay xs g;
    } in
    leave_by s strings before g w kept leave e d q pairs (λ k x h. signed_back w.book pairs k x h) (λ a x decl honest h.
    let same = given_deposit s size few_contracts strings g w kept fit check clear party declared inputs outputs a x decl h in
    let cause = given_cause s size few_contracts strings g w kept fit check clear party declared inputs outputs few row spent made v apart x
    (subst (λ p. has_signed pairs (deposit_key s.hash p) x ≡ true) (sym same) h) in
    subst (λ p. Leave s (before ++ record_of e d ∷ []) (after_steps g xs) (applied w d) p x) same
    (by_gift (gave_later s g (after_steps g xs) own (applied w d) later party x cause)
    (given_dead s size few_contracts strings g w kept fit check clear party declared inputs outputs few row spent made v apart)))

module _ (s : Setup) (size : HashesBytes s.hash) (few_contracts : length s.contracts ≤ 16)
    (strings : List (List ℕ)) (before : List Record) (g : Configuration) (w : World) (kept : KeptBook s g w)
    (fit : TransactionsFit s w) (check : Checked s w) (clear : NoCollision s.hash w.hashed) (leave : KeptLeave s before g w) where
  abbrev After : Event → Pending → Type 0
  After e d = LeaveAfter s strings before g w kept leave e d

  -- ---- parties sign

  endorse_leave : (contract : ℕ) (party : List ℕ) → is_declared s party ≡ true → After (events.Endorse contract party) (endorse_pending s w contract party)
  endorse_leave contract party declared =
      unless_leave s strings before g w kept leave e (first_reason (endorse_row s w contract party)) []
      (done (with_pairs w (endorsing_pairs s party (compiled_instance s w contract))) []) refl (λ r q. by_compiled (compiled_instance s w contract) refl q)
    where
      e : Event
      e = events.Endorse contract party

      by_compiled : (o : Option Instance) → compiled_instance s w contract ≡ o → endorse_pending s w contract party
          ≡ done (with_pairs w (endorsing_pairs s party o)) [] → After (events.Endorse contract party) (done (with_pairs w (endorsing_pairs s party o)) [])
      by_compiled None c q = quiet_leave s strings before g w kept leave (events.Endorse contract party) (done (with_pairs w []) []) q refl
      by_compiled (Some st) c q = λ apart.
          let pairs = endorsing_pairs s party (Some st) in
          let d = done (with_pairs w pairs) [] in
          let xs = steps_of s strings g w (applied w d) (events.Endorse contract party) d in
          leave_by s strings before g w kept leave (events.Endorse contract party) d q pairs (λ k x h. signed_back w.book pairs k x h) (λ a x decl honest h.
          let r = endorse_needed s size few_contracts g w kept check w.hashed clear
          (λ t i. i) (after_steps g xs) w.tip (w.posted ++ []) (inits_stay xs g) (asked_stay xs g) party declared contract st c a x decl h in
          by_endorsement r.0 (was_new (is_endorse r.0.contract a) before (record_of (events.Endorse contract party) d) refl
          (and_from _ _ (eq-eqb contract r.0.contract (sym r.1)) (subst (λ y. bytes_eq party y ≡ true) r.2 (bytes_refl party)))))

  init_leave : (contract : ℕ) (party : List ℕ) → is_declared s party ≡ true → After (events.Init contract party) (init_pending s w contract party)
  init_leave contract party declared =
      unless_leave s strings before g w kept leave (events.Init contract party) (first_reason (init_row s w contract party)) []
      (done (with_pairs w (initial_pairs s party (compiled_instance s w contract))) []) refl (λ r q. by_compiled (compiled_instance s w contract) refl q)
    where
      xs : List Step
      xs = init_steps s w contract party

      by_compiled : (o : Option Instance) → compiled_instance s w contract ≡ o → init_pending s w contract party
          ≡ done (with_pairs w (initial_pairs s party o)) [] → After (events.Init contract party) (done (with_pairs w (initial_pairs s party o)) [])
      by_compiled None c q = quiet_leave s strings before g w kept leave (events.Init contract party) (done (with_pairs w []) []) q refl
      by_compiled (Some st) c q = λ apart.
          let pairs = initial_pairs s party (Some st) in
          let d = done (with_pairs w pairs) [] in
          leave_by s strings before g w kept leave (events.Init contract party) d q pairs (λ k x h. signed_back w.book pairs k x h) (λ a x decl honest h.
          let r = start_started s size few_contracts g w kept check w.hashed clear (λ t i. i) (after_steps g xs) w.tip
          (w.posted ++ []) (inits_stay xs g) (asked_stay xs g) party declared contract st c (now_authorised s g w contract party) a x decl h in
          by_start r.0 (was_new (is_init r.0.contract a) before (record_of (events.Init contract party) d) refl
          (and_from _ _ (eq-eqb contract r.0.contract (sym r.1)) (subst (λ y. bytes_eq party y ≡ true) r.2 (bytes_refl party)))))

  authorise_leave : (party : List ℕ) (n j : ℕ) → After (events.Authorise party n j) (authorise_pending s w party n j)
  authorise_leave party n j =
      unless_leave s strings before g w kept leave (events.Authorise party n j) (first_reason (authorise_row s w party n j)) []
      (done (with_pairs w (authorising_pairs s w party (live_position_at w n) j)) []) refl (λ r q.
      let row = no_reason-none_true (authorise_row s w party n j) r in
      by_asked (live_position_at w n) refl (not-false _ row.1.0) (not-false _ row.1.1.0) q)
    where
      by_asked : (o : Option ContractPosition) → live_position_at w n ≡ o → is_some (branch_if_live s o j) ≡ true
          → is_among party (asked_by (branch_if_live s o j)) ≡ true → authorise_pending s w party n j ≡ done (with_pairs w (authorising_pairs s w party o j)) []
          → After (events.Authorise party n j) (done (with_pairs w (authorising_pairs s w party o j)) [])
      by_asked None e b a q = cc
      by_asked (Some held) e b a q = λ apart.
          let k = asked_pairs s size few_contracts g w kept check clear party n j held e b a in
          let pairs = authorising_pairs s w party (Some held) j in
          leave_by s strings before g w kept leave (events.Authorise party n j) (done (with_pairs w pairs) []) q pairs
          (λ y x h. signed_back w.book pairs y x h) (λ p x decl honest h. absurd (k p x decl h))

  sign_leave : (party : List ℕ) (label : Label) (digest : List ℕ) → IsLabel label → After (events.Sign party label digest) (sign_pending s w party label digest)
  sign_leave party label digest fine =
      unless_leave s strings before g w kept leave (events.Sign party label digest) (first_reason (sign_row s party label)) []
      (done (with_pairs w pairs) (label_text label ∷ [])) refl (λ r q apart.
      let row = no_reason-none_true (sign_row s party label) r in
      leave_by s strings before g w kept leave (events.Sign party label digest) (done (with_pairs w pairs) (label_text label ∷ [])) q pairs
      (λ y x h. signed_back w.book pairs y x h) (λ p x decl honest h.
      absurd (lie_deposit s size few_contracts g w kept check hs (no_collision s.hash w.hashed (label_text label ∷ []) clear apart)
      (λ t i. all_more w.hashed (label_text label ∷ []) t i) g w party label digest row.0 (bytes-true (label_party label) party (not-false _ row.1.0))
      (record { fine = fine; heard = all_new w.hashed (label_text label ∷ []) (label_text label) (among_head (label_text label) []) }) p x decl honest h)))
    where
      pairs : List Pair
      pairs = (key_of s.hash label, digest) ∷ []

      hs : List (List ℕ)
      hs = noted_all w.hashed (label_text label ∷ [])

  -- ---- transactions

  give_leave : (party : List ℕ) → is_declared s party ≡ true → (inputs : List ℕ) (outputs : List (List ℕ × ℕ)) → length outputs ≤ 262144
      → After (events.Give party inputs outputs) (give_pending s w party inputs outputs)
  give_leave party declared inputs outputs few =
      unless_leave s strings before g w kept leave (events.Give party inputs outputs) (first_reason (give_row s w party inputs outputs)) []
      (reaches s w (with_pairs w pairs) tx) refl (λ r q.
      by_verdict (no_reason-none_true (give_row s w party inputs outputs) r) (verdict_in s (with_pairs w pairs) tx) refl q)
    where
      pairs : List Pair
      pairs = given_pairs s w party inputs outputs

      tx : Tx
      tx = gift s w party inputs outputs

      by_verdict : NoneTrue (give_row s w party inputs outputs) → (v : Verdict)
          → verdict_in s (with_pairs w (given_pairs s w party inputs outputs)) (gift s w party inputs outputs) ≡ v
          → give_pending s w party inputs outputs ≡ judged s w (with_pairs w (given_pairs s w party inputs outputs)) (gift s w party inputs outputs) v
          → After (events.Give party inputs outputs) (judged s w (with_pairs w (given_pairs s w party inputs outputs)) (gift s w party inputs outputs) v)
      by_verdict row (verdicts.Refused r) v q =
          quiet_leave s strings before g w kept leave (events.Give party inputs outputs) (refused w _ (reason.Ledger r)) q refl
      by_verdict row (verdicts.Accepted spent made) v q = λ apart.
          given_leave s size few_contracts strings before g w kept fit check clear leave party declared inputs outputs few row spent made v apart q

  reaches_leave : (e : Event) (tx : Tx) → pending s w e ≡ reaches s w w tx → After e (reaches s w w tx)
  reaches_leave e tx q = by_verdict (verdict_in s w tx) q
    where
      by_verdict : (v : Verdict) → pending s w e ≡ judged s w w tx v → After e (judged s w w tx v)
      by_verdict (verdicts.Refused r) q = quiet_leave s strings before g w kept leave e (refused w (strings_of s w tx) (reason.Ledger r)) q refl
      by_verdict (verdicts.Accepted spent made) q = quiet_leave s strings before g w kept leave e (accepted s w tx spent) q refl

  reaches_if_leave : (e : Event) (o : Option Tx) → pending s w e ≡ reaches_if s w o → After e (reaches_if s w o)
  reaches_if_leave e None q = quiet_leave s strings before g w kept leave e (refused w [] reason.NotCompiled) q refl
  reaches_if_leave e (Some tx) q = reaches_leave e tx q

  append_leave : (e : Event) (r : Result Tx ℕ) → pending s w e ≡ append_read s w r → After e (append_read s w r)
  append_leave e (Ok tx) q = reaches_leave e tx q
  append_leave e (Err place) q = quiet_leave s strings before g w kept leave e (refused w [] (reason.BadTx place)) q refl

  -- ---- all events

  commit_leave : (k : ℕ) (party : List ℕ) (ds : List (List ℕ × List ℕ)) → After (events.Commit k party ds) (commit_pending s w k party ds)
  commit_leave k party ds =
      let strings' = committed_strings s k party in
      let last = committed_pending s (with_promise s w k party ds) k party strings' in
      unless_leave s strings before g w kept leave (events.Commit k party ds) (first_reason (commit_row s w k party ds)) []
      (unless (first_reason (digest_row s w k party ds)) w strings' last) refl (λ r q.
      unless_leave s strings before g w kept leave (events.Commit k party ds) (first_reason (digest_row s w k party ds)) strings' last q
      (λ r2 q2. quiet_leave s strings before g w kept leave (events.Commit k party ds) last q2 refl))

  pub leave_after : (e : Event) → IsEvent s e → After e (pending s w e)
  leave_after (events.Advertise k bs) is =
      let d = done (record w { advertised = w.advertised ++ record { contract = k; bindings = arranged 0 (deposit_names s k) bs } ∷ [] }) [] in
      unless_leave s strings before g w kept leave (events.Advertise k bs) (first_reason (advertise_row s w k bs)) [] d refl
      (λ r q. quiet_leave s strings before g w kept leave (events.Advertise k bs) d q refl)
  leave_after (events.Commit k party ds) is = commit_leave k party ds
  leave_after (events.Endorse k party) is = endorse_leave k party is
  leave_after (events.Init k party) is = init_leave k party is
  leave_after (events.Authorise party n j) is = authorise_leave party n j
  leave_after (events.Reveal k party name) is =
      let d = posting w (own_secret s party name) (Some (party, name)) in
      unless_leave s strings before g w kept leave (events.Reveal k party name) (first_reason (reveal_row s w k party name)) [] d refl
      (λ r q. quiet_leave s strings before g w kept leave (events.Reveal k party name) d q refl)
  leave_after (events.Post string) is = quiet_leave s strings before g w kept leave (events.Post string) (posting w string None) refl refl
  leave_after (events.Sign party label digest) is = sign_leave party label digest is.1
  leave_after (events.Give party inputs outputs) is = give_leave party is.giver inputs outputs is.few_outputs
  leave_after (events.Append bytes) is = append_leave (events.Append bytes) (transaction_of bytes) refl
  leave_after (events.FireInit k) is =
      unless_leave s strings before g w kept leave (events.FireInit k) (first_reason (fire_init_row s w k)) []
      (reaches_if s w (initial_by s (compiled_instance s w k))) refl
      (λ r q. reaches_if_leave (events.FireInit k) (initial_by s (compiled_instance s w k)) q)
  leave_after (events.Fire n j) is =
      unless_leave s strings before g w kept leave (events.Fire n j) (first_reason (fire_row s w n j)) []
      (reaches_if s w (taking_of_position s w (live_position_at w n) j)) refl
      (λ r q. reaches_if_leave (events.Fire n j) (taking_of_position s w (live_position_at w n) j) q)
  leave_after (events.Mine blocks) is =
      let d = done (record w { tip = w.tip + blocks }) [] in
      unless_leave s strings before g w kept leave (events.Mine blocks) (first_reason (mine_row w blocks)) [] d refl
      (λ r q. quiet_leave s strings before g w kept leave (events.Mine blocks) d q refl)
