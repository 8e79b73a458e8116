-- What is kept after an event in which nothing reaches the ledger and no contract is advertised or committed: parties sign, post or wait.
use Rattle.std.proofs.Common.{◌≡◌, ℕ, ◌+◌, ◌≤◌, List, [], ◌∷◌, ◌++◌, length, Bool, true, false, Option, Some, None, refl, sym, ap, ◌∙◌, subst}
use Rattle.std.specs.Prelude.{◌&&◌, slice_get, is_some, if◌then◌else◌}
use Rattle.std.specs.Str.{bytes_eq}
use Rattle.std.proofs.lemmas.Bool.{and_from, not-false}
use Rattle.spec_data.specs.Lists.{is_among, first_reason}
use Rattle.spec_data.proofs.ListLemmas.{no_reason-none_true}
use Rattle.spec_terms.specs.Term as term
use Rattle.spec_terms.specs.Term.{branches}
use Rattle.spec_terms.specs.Paths.{at}
use Rattle.spec_terms.specs.Precondition.{Holding, persistent}
use Rattle.spec_terms.specs.declared.path.PathStep.TheVariants.{Branch as To}
use Rattle.spec_bitcoin.specs.declared.label.Label.{Label}
use Rattle.spec_bitcoin.specs.Keys.{IsLabel, key_of, label_text}
use Rattle.spec_calculus.specs.Configuration.{Configuration}
use Rattle.spec_calculus.specs.Beginning.{is_init_authorised}
use Rattle.spec_calculus.specs.Branches.{has_branch_authorised}
use Rattle.spec_calculus.specs.Steps.{after_steps}
use Rattle.spec_calculus.specs.declared.step.Step.{Step}
use Rattle.spec_calculus.specs.declared.step.Step.TheVariants as steps
use Rattle.spec_compiler.specs.Instance.{Instance, people}
use Rattle.spec_run.specs.declared.event.Event.{Event}
use Rattle.spec_run.specs.declared.event.Event.TheVariants as events
use Rattle.spec_run.specs.declared.outcome.Reason.{Reason}
use Rattle.spec_run.specs.Setup.{Setup, is_declared, contract_at, pre_at}
use Rattle.spec_data.specs.Messages.{noted_all, collision}
use Rattle.spec_run.specs.World.{ContractPosition, Output, World, live_position, live_position_at}
use Rattle.spec_run.specs.Compiled.{compiled_instance}
use Rattle.spec_run.specs.Conditions.{HashesBytes}
use Rattle.spec_run.specs.Pending.{Pending, done, posting, refused, unless, applied}
use Rattle.spec_run.specs.Ledger.{position_path, position_branch, branch_in}
use Rattle.spec_run.specs.Signing.{with_pairs, endorsing_pairs, endorse_row, endorse_pending, initial_pairs, init_row, init_pending, asked_by, branch_if_live, authorising_pairs, authorise_row, authorise_pending, label_party, sign_row, sign_pending}
use Rattle.spec_run.specs.Revealing.{own_secret, reveal_row, reveal_pending}
use Rattle.spec_run.specs.Event.{mine_row, mine_pending}
use Rattle.spec_run.specs.Steps.{is_of_party, is_bound_live, init_steps, steps_of}
use Rattle.theory_calculus.proofs.Names.{bytes-true, bytes_refl}
use Rattle.theory_calculus.specs.Members.{Is_in}
use Rattle.theory_calculus.proofs.Members.{filter_has}
use Rattle.theory_world.specs.KeptApart.{NoCollision}
use Rattle.theory_world.proofs.Hashed.{no_collision, among_head, all_more, all_new}
use Rattle.theory_world.proofs.Contracts.Standing.{term_branches}
use Rattle.theory_world.proofs.Contracts.Mentions.{branch_named, asked_mentioned}
use Rattle.theory_run.specs.KeptBook.{KeptBook, HeldFine}
use Rattle.theory_run.proofs.Accepted.Spending.{Checked}
use Rattle.theory_world.proofs.Later.{compiled_is}
use Rattle.theory_run.proofs.Events.AfterSigning.{quiet_kept, sign_kept, authorise_kept, endorse_kept, init_kept}
use Rattle.theory_world.proofs.Staying.{inits_stay, asked_stay, auth_inits_new, branch_new}

-- an output that is active
pub record IsActive (w : World) (n : ℕ) (held : ContractPosition) : Type 0 where
  pub output : Output
  pub there : slice_get w.outputs n ≡ Some output
  pub holds : output.holds ≡ Some held

pub active : (w : World) (n : ℕ) (held : ContractPosition) → live_position_at w n ≡ Some held → IsActive w n held
active w n held h = by_output (slice_get w.outputs n) refl h
  where
    by_live : (o : Output) → slice_get w.outputs n ≡ Some o → (b : Bool) → (if b then o.holds else None) ≡ Some held → IsActive w n held
    by_live o e true q = record { output = o; there = e; holds = q }
    by_live o e false q = cc

    by_output : (o : Option Output) → slice_get w.outputs n ≡ o → live_position o ≡ Some held → IsActive w n held
    by_output None e q = cc
    by_output (Some o) e q = by_live o e o.live q

-- the contract of what is held
pub held_contract : (s : Setup) (w : World) (held : ContractPosition) (o : Output) (hf : HeldFine s w o held) → contract_at s held.contract
    ≡ Some hf.instance.advert
held_contract s w held o hf = let ci = compiled_is s w held.contract hf.instance hf.compiled in ci.there ∙ ap (λ (y : Instance). Some y.advert) (sym ci.is)

-- a start authorises each of its party's deposits that is bound to a live one
pub now_authorised : (s : Setup) (g : Configuration) (w : World) (contract : ℕ) (party : List ℕ) (e : List ℕ × Holding)
    → Is_in e (persistent (pre_at s contract)) → (e.1).owner ≡ party → is_bound_live w contract e ≡ true
    → is_init_authorised (after_steps g (init_steps s w contract party)).init_authorised contract (e.0) ≡ true
now_authorised s g w contract party e i o l =
    let t : (is_of_party party e && is_bound_live w contract e) ≡ true =
    and_from _ _ (subst (λ y. bytes_eq (e.1).owner y ≡ true) o (bytes_refl (e.1).owner)) l in
    auth_inits_new contract _ g e (filter_has (λ d. is_of_party party d && is_bound_live w contract d) (persistent (pre_at s contract)) e i t)

-- the strings are those of the whole run
module _ (s : Setup) (size : HashesBytes s.hash) (few_contracts : length s.contracts ≤ 16) (strings : List (List ℕ))
    (g : Configuration) (w : World) (kept : KeptBook s g w) (check : Checked s w) (clear : NoCollision s.hash w.hashed) where
  -- what is kept is kept after an event that comes to this pending effect, unless it collides
  abbrev pub KeptAfter : Event → Pending → Type 0
  KeptAfter e d = collision s.hash w.hashed d.hashes ≡ None → KeptBook s (after_steps g (steps_of s strings g w (applied w d) e d)) (applied w d)

  -- where nothing is signed, whatever the height and the strings
  quiet : (g' : Configuration) (hashes posts : List (List ℕ)) (height : ℕ)
      → ((k : ℕ) (x : List ℕ) → is_init_authorised g.init_authorised k x ≡ true → is_init_authorised g'.init_authorised k x ≡ true)
      → ((n i : ℕ) (a : List ℕ) → has_branch_authorised g.branch_authorised n i a ≡ true → has_branch_authorised g'.branch_authorised n i a ≡ true)
      → collision s.hash w.hashed hashes ≡ None → KeptBook s g' (record w { tip = height; hashed = noted_all w.hashed hashes; posted = posts })
  quiet g' hashes posts height inits asked apart =
      quiet_kept s size few_contracts g w kept check (noted_all w.hashed hashes) (no_collision s.hash w.hashed hashes clear apart)
      (λ t h. all_more w.hashed hashes t h) g' height posts inits asked

  pub refused_after : (e : Event) (hashes : List (List ℕ)) (r : Reason) → KeptAfter e (refused w hashes r)
  refused_after e hashes r apart = quiet g hashes (w.posted ++ []) w.tip (λ k x h. h) (λ n i a h. h) apart

  pub unless_after : (e : Event) (r : Option Reason) (hashes : List (List ℕ)) (d : Pending) → (r ≡ None → KeptAfter e d) → KeptAfter e (unless r w hashes d)
  unless_after e None hashes d h = h refl
  unless_after e (Some r) hashes d h = refused_after e hashes r

  -- ---- nothing is signed

  pub posting_after : (e : Event) (string : List ℕ) (allowed : Option (List ℕ × List ℕ)) → KeptAfter e (posting w string allowed)
  posting_after e string allowed apart =
      let xs = steps_of s strings g w (applied w (posting w string allowed)) e (posting w string allowed) in
      quiet (after_steps g xs) (string ∷ []) (w.posted ++ string ∷ []) w.tip (inits_stay xs g) (asked_stay xs g) apart

  pub reveal_after : (e : Event) (contract : ℕ) (party secret : List ℕ) → KeptAfter e (reveal_pending s w contract party secret)
  reveal_after e contract party secret =
      unless_after e (first_reason (reveal_row s w contract party secret)) [] _ (λ r. posting_after e (own_secret s party secret) (Some (party, secret)))

  pub mine_after : (e : Event) (blocks : ℕ) → KeptAfter e (mine_pending w blocks)
  mine_after e blocks = unless_after e (first_reason (mine_row w blocks)) [] _ (λ r apart.
      let d = done (record w { tip = w.tip + blocks }) [] in
      let xs = steps_of s strings g w (applied w d) e d in
      quiet (after_steps g xs) [] (w.posted ++ []) (w.tip + blocks) (inits_stay xs g) (asked_stay xs g) apart)

  -- ---- parties sign

  pub endorse_after : (e : Event) (contract : ℕ) (party : List ℕ) → is_declared s party ≡ true → KeptAfter e (endorse_pending s w contract party)
  endorse_after e contract party declared =
      unless_after e (first_reason (endorse_row s w contract party)) [] _ (λ r. by_compiled (compiled_instance s w contract) refl)
    where
      by_compiled : (o : Option Instance) → compiled_instance s w contract ≡ o → KeptAfter e (done (with_pairs w (endorsing_pairs s party o)) [])
      by_compiled None c apart =
          let d = done (with_pairs w []) [] in
          let xs = steps_of s strings g w (applied w d) e d in
          quiet (after_steps g xs) [] (w.posted ++ []) w.tip (inits_stay xs g) (asked_stay xs g) apart
      by_compiled (Some st) c apart =
          let d = done (with_pairs w (endorsing_pairs s party (Some st))) [] in
          let xs = steps_of s strings g w (applied w d) e d in
          endorse_kept s size few_contracts g w kept check w.hashed clear (λ t h. h) (after_steps g xs) w.tip (w.posted ++ [])
          (inits_stay xs g) (asked_stay xs g) party declared contract st c

  pub init_after : (contract : ℕ) (party : List ℕ) → is_declared s party ≡ true → KeptAfter (events.Init contract party) (init_pending s w contract party)
  init_after contract party declared =
      unless_after (events.Init contract party) (first_reason (init_row s w contract party)) [] _ (λ r. by_compiled (compiled_instance s w contract) refl)
    where
      xs : List Step
      xs = init_steps s w contract party

      by_compiled : (o : Option Instance) → compiled_instance s w contract ≡ o
          → KeptAfter (events.Init contract party) (done (with_pairs w (initial_pairs s party o)) [])
      by_compiled None c apart = quiet (after_steps g xs) [] (w.posted ++ []) w.tip (inits_stay xs g) (asked_stay xs g) apart
      by_compiled (Some st) c apart =
          init_kept s size few_contracts g w kept check w.hashed clear (λ t h. h) (after_steps g xs) w.tip (w.posted ++ [])
          (inits_stay xs g) (asked_stay xs g) party declared contract st c (now_authorised s g w contract party)

  pub authorise_after : (party : List ℕ) (n j : ℕ) → KeptAfter (events.Authorise party n j) (authorise_pending s w party n j)
  authorise_after party n j = unless_after (events.Authorise party n j) (first_reason (authorise_row s w party n j)) [] _ (λ r.
      let row = no_reason-none_true (authorise_row s w party n j) r in
      by_held (live_position_at w n) refl (not-false _ row.1.0) (not-false _ row.1.1.0))
    where
      xs : List Step
      xs = steps.AuthBranch party n j ∷ []

      by_held : (o : Option ContractPosition) → live_position_at w n ≡ o → is_some (branch_if_live s o j) ≡ true
          → is_among party (asked_by (branch_if_live s o j)) ≡ true
          → KeptAfter (events.Authorise party n j) (done (with_pairs w (authorising_pairs s w party o j)) [])
      by_held None e b a apart = cc
      by_held (Some held) e b a apart = by_branch (position_branch s held j) refl b a
        where
          act : IsActive w n held
          act = active w n held e

          hf : HeldFine s w act.output held
          hf = kept.held n act.output held act.there act.holds

          by_branch : (o : Option term.Guarded) → position_branch s held j ≡ o → is_some o ≡ true → is_among party (asked_by o) ≡ true
              → KeptBook s (after_steps g xs) (applied w (done (with_pairs w (authorising_pairs s w party (Some held) j)) []))
          by_branch None u v a = cc
          by_branch (Some c) u v a =
              let ap_text : at hf.instance.advert.root (held.position ++ To j ∷ []) ≡ Some c =
              ap (λ o. branch_in o (position_path held j)) (sym (held_contract s w held act.output hf)) ∙ u in
              let has : slice_get (branches hf.choice) j ≡ Some c =
              sym (term_branches s.hash hf.instance held.position hf.here hf.choice j hf.stands) ∙ ap_text in
              let part : is_among party (people hf.instance) ≡ true =
              branch_named hf.instance.advert (held.position ++ To j ∷ []) c party ap_text (asked_mentioned c party a) in
              authorise_kept s size few_contracts g w kept check w.hashed clear (λ t h. h) (after_steps g xs) w.tip (w.posted ++ [])
              (inits_stay xs g) (asked_stay xs g) party n act.output held act.there hf j c has part (branch_new g.branch_authorised party n j)

  pub sign_after : (e : Event) (party : List ℕ) (label : Label) (digest : List ℕ) → IsLabel label → KeptAfter e (sign_pending s w party label digest)
  sign_after e party label digest fine = unless_after e (first_reason (sign_row s party label)) [] _ (λ r apart.
      let row = no_reason-none_true (sign_row s party label) r in
      let hs = noted_all w.hashed (label_text label ∷ []) in
      let d = done (with_pairs w ((key_of s.hash label, digest) ∷ [])) (label_text label ∷ []) in
      let xs = steps_of s strings g w (applied w d) e d in
      sign_kept s size few_contracts g w kept check hs (no_collision s.hash w.hashed (label_text label ∷ []) clear apart)
      (λ t h. all_more w.hashed (label_text label ∷ []) t h) (after_steps g xs) w.tip (w.posted ++ []) (inits_stay xs g) (asked_stay xs g)
      party label digest row.0 (bytes-true (label_party label) party (not-false _ row.1.0))
      (record { fine = fine; heard = all_new w.hashed (label_text label ∷ []) (label_text label) (among_head (label_text label) []) }))
