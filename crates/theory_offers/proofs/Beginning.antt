-- A contract begins in a run only where it is endorsed.
use Rattle.std.proofs.Common.{◌≡◌, ℕ, List, [], ◌∷◌, ◌++◌, Bool, true, false, Option, Some, None, Result, Ok, Err, refl, sym, ◌∙◌}
use Rattle.std.proofs.Common.{subst, inl, inr}
use Rattle.std.specs.Prelude.{◌==◌, ◌||◌, ◌⊎◌}
use Rattle.std.proofs.lemmas.Bool.{or_cases, eqb-true}
use Rattle.spec_data.specs.Lists.{has_number, first_reason}
use Rattle.spec_bitcoin.specs.declared.tx.Tx.{Tx}
use Rattle.spec_bitcoin.specs.declared.verdict.Verdict.{Verdict}
use Rattle.spec_bitcoin.specs.declared.verdict.Verdict.TheVariants as verdicts
use Rattle.spec_bitcoin.specs.Keys.{Pair}
use Rattle.spec_bitcoin.specs.Reading.{transaction_of}
use Rattle.spec_calculus.specs.Configuration.{Configuration}
use Rattle.spec_run.specs.declared.event.Event.{Event}
use Rattle.spec_run.specs.declared.event.Event.TheVariants as events
use Rattle.spec_run.specs.declared.outcome.Record.{Record}
use Rattle.spec_run.specs.declared.outcome.Reason.{Reason}
use Rattle.spec_run.specs.Setup.{Setup}
use Rattle.spec_data.specs.Messages.{collision}
use Rattle.spec_run.specs.World.{ContractPosition, World, live_position_at}
use Rattle.spec_run.specs.Compiled.{compiled_instance}
use Rattle.spec_run.specs.Conditions.{IsSetup, IsEvent, IsGift}
use Rattle.spec_run.specs.Pending.{Pending, unless}
use Rattle.spec_run.specs.Signing.{with_pairs, endorse_row, init_row, authorise_row, sign_row}
use Rattle.spec_run.specs.Advertising.{advertise_row}
use Rattle.spec_run.specs.Committing.{committed_strings, commit_row, digest_row}
use Rattle.spec_run.specs.Revealing.{reveal_row}
use Rattle.spec_run.specs.Giving.{give_row, given_pairs, gift}
use Rattle.spec_run.specs.Firing.{initial_by, taking_of_position, reaches_if, fire_init_row, fire_row}
use Rattle.spec_run.specs.Ledger.{verdict_in, accepted, judged, reaches, initial_of, first_position, kind_by, begun_after}
use Rattle.spec_run.specs.HonestDeposits.{gives}
use Rattle.spec_run.specs.Event.{append_read, mine_row, pending}
use Rattle.theory_world.proofs.Bookless.{initial_same}
use Rattle.theory_run.proofs.Accepted.WhatItIs.{initial_is}
use Rattle.theory_run.specs.KeptRuns.{KeptBooks}
use Rattle.theory_run.proofs.Honest.Leaves.{KeptLeave}
use Rattle.theory_offers.proofs.Endorsing.{IsReady, KeptStarts}
use Rattle.theory_offers.proofs.Basis.Offered.{KeptOffers}
use Rattle.theory_offers.proofs.Faithful.{begins_ready, starts_nothing}

number-append : (n : ℕ) (xs ys : List ℕ) → has_number n (xs ++ ys) ≡ (has_number n xs || has_number n ys)
number-append n [] ys = refl
number-append n (x ∷ xs) ys = let ih = number-append n xs ys in by_test (x == n) ih
  where
    by_test : (b : Bool) → has_number n (xs ++ ys) ≡ (has_number n xs || has_number n ys)
        → (b || has_number n (xs ++ ys)) ≡ (b || has_number n xs || has_number n ys)
    by_test true ih = refl
    by_test false ih = ih

-- which contracts have begun after an event: those before, and one that was ready
abbrev pub BeginsReady : Setup → World → World → Type 0
BeginsReady s w next = (k : ℕ) → has_number k next.begun ≡ true → (has_number k w.begun ≡ true) ⊎ IsReady s w k

module _ (s : Setup) (w : World) where
  same_begun : (next : World) → next.begun ≡ w.begun → BeginsReady s w next
  same_begun next e k h = inl (subst (λ ns. has_number k ns ≡ true) e h)

  unless_begun : (r : Option Reason) (hashes : List (List ℕ)) (d : Pending) → BeginsReady s w d.world
      → BeginsReady s w (unless r w hashes d).world
  unless_begun None hashes d h = h
  unless_begun (Some r) hashes d h = same_begun w refl

  -- an accepted transaction begins the contract whose initial one it is
  accepted_begun : (pairs : List Pair) (tx : Tx) (spent : List ℕ)
      → ((k : ℕ) → initial_of s (with_pairs w pairs) tx ≡ Some k → IsReady s w k)
      → BeginsReady s w (accepted s (with_pairs w pairs) tx spent).world
  accepted_begun pairs tx spent ready k h =
      by_initial (initial_of s (with_pairs w pairs) tx) ready (first_position (with_pairs w pairs) spent) h
    where
      by_initial : (o : Option ℕ) → ((j : ℕ) → o ≡ Some j → IsReady s w j) → (f : Option ContractPosition)
          → has_number k (begun_after (kind_by s tx spent o f) w.begun) ≡ true → (has_number k w.begun ≡ true) ⊎ IsReady s w k
      by_initial None go None q = inl q
      by_initial None go (Some held) q = inl q
      by_initial (Some j) go f q =
          let both = sym (number-append k w.begun (j ∷ [])) ∙ q in
          elim (or_cases (has_number k w.begun) (has_number k (j ∷ [])) both) [
            | inl x ↦ inl x
            | inr y ↦ elim (or_cases (j == k) false y) [
              | inl u ↦ inr (subst (IsReady s w) (eqb-true j k u) (go j refl))
              | inr v ↦ cc
            ]
          ]

module _ (s : Setup) (setup : IsSetup s) (z : List (List ℕ)) (before : List Record) (g : Configuration) (w : World)
    (books : KeptBooks s g w) (leave : KeptLeave s before g w) (starts : KeptStarts s before w) (more : KeptOffers s g w) where
  module _ (e : Event) (is : IsEvent s e) (no_gift : (a : List ℕ) (n : ℕ) → gives a n e ≡ false) where
    reaches_begun : (tx : Tx) → pending s w e ≡ reaches s w w tx → collision s.hash w.hashed (reaches s w w tx).hashes ≡ None
        → BeginsReady s w (reaches s w w tx).world
    reaches_begun tx same calm = by_verdict (verdict_in s w tx) refl same calm
      where
        by_verdict : (v : Verdict) → verdict_in s w tx ≡ v → pending s w e ≡ judged s w w tx v
            → collision s.hash w.hashed (judged s w w tx v).hashes ≡ None → BeginsReady s w (judged s w w tx v).world
        by_verdict (verdicts.Refused r) h d c = same_begun s w w refl
        by_verdict (verdicts.Accepted spent made) h d c = accepted_begun s w [] tx spent (λ k i.
            let it = initial_is s w tx k i in
            let ends =
            begins_ready s setup z before g w books leave starts more e is no_gift tx spent made h d c k it.instance i it.compiled in
            record { instance = it.instance; compiled = it.compiled; endorsed = ends })

    if_begun : (o : Option Tx) → pending s w e ≡ reaches_if s w o → collision s.hash w.hashed (reaches_if s w o).hashes ≡ None
        → BeginsReady s w (reaches_if s w o).world
    if_begun None same calm = same_begun s w w refl
    if_begun (Some tx) same calm = reaches_begun tx same calm

    read_begun : (r : Result Tx ℕ) → pending s w e ≡ append_read s w r → collision s.hash w.hashed (append_read s w r).hashes ≡ None
        → BeginsReady s w (append_read s w r).world
    read_begun (Ok tx) same calm = reaches_begun tx same calm
    read_begun (Err place) same calm = same_begun s w w refl

    fired_begun : (o : Option Tx) (r : Option Reason) → pending s w e ≡ unless r w [] (reaches_if s w o)
        → collision s.hash w.hashed (unless r w [] (reaches_if s w o)).hashes ≡ None
        → BeginsReady s w (unless r w [] (reaches_if s w o)).world
    fired_begun o None same calm = if_begun o same calm
    fired_begun o (Some r) same calm = same_begun s w w refl

  give_begun : (party : List ℕ) (inputs : List ℕ) (outputs : List (List ℕ × ℕ)) → IsGift s party inputs outputs
      → BeginsReady s w (pending s w (events.Give party inputs outputs)).world
  give_begun party inputs outputs is =
      unless_begun s w (first_reason (give_row s w party inputs outputs)) [] _ (by_verdict (verdict_in s (with_pairs w pairs) tx))
    where
      pairs : List Pair
      pairs = given_pairs s w party inputs outputs

      tx : Tx
      tx = gift s w party inputs outputs

      by_verdict : (v : Verdict) → BeginsReady s w (judged s w (with_pairs w pairs) tx v).world
      by_verdict (verdicts.Refused r) = same_begun s w w refl
      by_verdict (verdicts.Accepted spent made) = accepted_begun s w pairs tx spent (λ k i.
          let none = starts_nothing s setup z before g w books leave starts more party inputs outputs is in
          let o : (let x : Option ℕ = None in x) ≡ Some k =
          sym none ∙ sym (initial_same s w (with_pairs w pairs).book w.hashed tx 0 s.contracts) ∙ i in
          cc)

  pub begun_after_event : (e : Event) → IsEvent s e → collision s.hash w.hashed (pending s w e).hashes ≡ None
      → BeginsReady s w (pending s w e).world
  begun_after_event (events.Advertise k bs) is calm = unless_begun s w (first_reason (advertise_row s w k bs)) [] _ (λ c h. inl h)
  begun_after_event (events.Commit k a ds) is calm =
      unless_begun s w (first_reason (commit_row s w k a ds)) [] _
      (unless_begun s w (first_reason (digest_row s w k a ds)) (committed_strings s k a) _ (λ c h. inl h))
  begun_after_event (events.Endorse k a) is calm = unless_begun s w (first_reason (endorse_row s w k a)) [] _ (λ c h. inl h)
  begun_after_event (events.Init k a) is calm = unless_begun s w (first_reason (init_row s w k a)) [] _ (λ c h. inl h)
  begun_after_event (events.Authorise a n j) is calm = unless_begun s w (first_reason (authorise_row s w a n j)) [] _ (λ c h. inl h)
  begun_after_event (events.Reveal k a name) is calm = unless_begun s w (first_reason (reveal_row s w k a name)) [] _ (λ c h. inl h)
  begun_after_event (events.Post string) is calm = same_begun s w w refl
  begun_after_event (events.Sign a label digest) is calm = unless_begun s w (first_reason (sign_row s a label)) [] _ (λ c h. inl h)
  begun_after_event (events.Give a inputs outputs) is calm = give_begun a inputs outputs is
  begun_after_event (events.Append bytes) is calm = read_begun (events.Append bytes) is (λ a n. refl) (transaction_of bytes) refl calm
  begun_after_event (events.FireInit k) is calm =
      fired_begun (events.FireInit k) is (λ a n. refl) (initial_by s (compiled_instance s w k)) (first_reason (fire_init_row s w k)) refl calm
  begun_after_event (events.Fire n j) is calm =
      fired_begun (events.Fire n j) is (λ a m. refl) (taking_of_position s w (live_position_at w n) j) (first_reason (fire_row s w n j)) refl calm
  begun_after_event (events.Mine blocks) is calm = unless_begun s w (first_reason (mine_row w blocks)) [] _ (λ c h. inl h)
