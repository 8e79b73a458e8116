-- No digest is committed twice in a run, and honest parties commit the digests of their own secrets.
use Rattle.std.proofs.Common.{◌≡◌, ℕ, List, [], ◌∷◌, ◌++◌, Bool, true, false, not, Option, Some, None}
use Rattle.std.proofs.Common.{refl, sym, ap, ◌∙◌, subst, inl, inr, append-nil}
use Rattle.std.specs.Prelude.{is_some, if◌then◌else◌}
use Rattle.std.specs.List.{list_all, AllByRecursion}
use Rattle.std.specs.Str.{bytes_eq}
use Rattle.std.proofs.lemmas.Bool.{and_parts, and_from, or_left, or_right, or_cases, or_from, not-false, not-true, not_from_false}
use Rattle.std.proofs.lemmas.Bool.{both_ways, false_from_ne_true}
use Rattle.spec_data.specs.Lists.{is_among, are_different, look_up, first_reason}
use Rattle.spec_data.proofs.ListLemmas.{no_reason-none_true}
use Rattle.spec_terms.specs.Advert.{Advert}
use Rattle.spec_terms.specs.Precondition.{names_of, names_of_party, secrets_of, secrets}
use Rattle.spec_run.specs.declared.event.Event.{Event}
use Rattle.spec_run.specs.declared.event.Event.TheVariants as events
use Rattle.spec_run.specs.declared.outcome.Reason.{Reason}
use Rattle.spec_run.specs.Setup.{Setup, contract_at, pre_of, is_honest}
use Rattle.spec_run.specs.World.{Promise, World}
use Rattle.spec_run.specs.Conditions.{IsSetup}
use Rattle.spec_run.specs.Pending.{Pending, unless}
use Rattle.spec_run.specs.Advertising.{or_else_this, arranged, advertise_row}
use Rattle.spec_run.specs.Committing.{secrets_at, own_digests, committed_digests, committed_strings, commit_row, digest_row, used_digests}
use Rattle.spec_run.specs.Committing.{used_again}
use Rattle.spec_run.specs.Committing.{with_promise, committed_pending}
use Rattle.spec_run.specs.Event.{Passed, pending}
use Rattle.spec_run.specs.Translation.{world_after}
use Rattle.theory_calculus.proofs.Names.{bytes-true, among-append, different_names}
use Rattle.theory_run.specs.WorldsOfRuns.{IsOfOwnSecrets}
use Rattle.theory_world.proofs.Hashed.{among_head, among_tail}
use Rattle.theory_world.proofs.Once.{digests_in, used-append, not_before, one_name}
use Rattle.theory_world.proofs.Contracts.Checking.{contract_checked}
use Rattle.theory_run.proofs.Accepted.Tested.{secrets_different}
use Rattle.theory_run.proofs.Steps.CommitSteps.{digests_looked, own_looked}
use Rattle.theory_run.proofs.Facts.Undertakings.{IsQuiet, told_stays}
use Rattle.theory_run.proofs.Worlds.AllPassed.{AllPassed}

-- ---- lists of different byte strings

different_append : (xs ys : List (List ℕ)) → are_different xs ≡ true → are_different ys ≡ true
    → ((x : List ℕ) → is_among x ys ≡ true → is_among x xs ≡ false) → are_different (xs ++ ys) ≡ true
different_append [] ys a b h = b
different_append (x ∷ xs) ys a b h =
    let p = and_parts (not (is_among x xs)) (are_different xs) a in
    let here : is_among x ys ≡ false = false_from_ne_true _ (λ t. both_ways _ (h x t) (among_head x xs)) in
    let ih = different_append xs ys p.1 b (λ y t. false_from_ne_true _ (λ u. both_ways _ (h y t) (among_tail y x xs u))) in
    and_from _ _ (not_from_false _ (among-append x xs ys ∙ or_from _ _ (not-true _ p.0) here)) ih

-- a party's secrets are some of all
party_named : (a : List ℕ) (ss : List (List ℕ × List ℕ)) (n : List ℕ) → is_among n (names_of_party a ss) ≡ true
    → is_among n (names_of ss) ≡ true
party_named a [] n h = cc
party_named a (x ∷ ss) n h = by_test (bytes_eq x.1 a) h (party_named a ss n)
  where
    by_test : (b : Bool) → is_among n (if b then (x.0 ∷ names_of_party a ss) else names_of_party a ss) ≡ true
        → (is_among n (names_of_party a ss) ≡ true → is_among n (names_of ss) ≡ true) → is_among n (names_of (x ∷ ss)) ≡ true
    by_test true q ih = elim (or_cases (bytes_eq x.0 n) (is_among n (names_of_party a ss)) q) [
      | inl u ↦ or_left _ _ u
      | inr v ↦ or_right _ _ (ih v)
    ]
    by_test false q ih = or_right (bytes_eq x.0 n) _ (ih q)

party_different : (a : List ℕ) (ss : List (List ℕ × List ℕ)) → are_different (names_of ss) ≡ true
    → are_different (names_of_party a ss) ≡ true
party_different a [] h = refl
party_different a (x ∷ ss) h = by_test (bytes_eq x.1 a) (party_different a ss p.1)
  where
    p : (not (is_among x.0 (names_of ss)) ≡ true) × (are_different (names_of ss) ≡ true)
    p = and_parts (not (is_among x.0 (names_of ss))) (are_different (names_of ss)) h

    by_test : (b : Bool) → are_different (names_of_party a ss) ≡ true
        → are_different (if b then (x.0 ∷ names_of_party a ss) else names_of_party a ss) ≡ true
    by_test true ih =
        let fresh = false_from_ne_true (is_among x.0 (names_of_party a ss)) (λ t. both_ways _ (not-true _ p.0) (party_named a ss x.0 t)) in
        and_from _ _ (not_from_false _ fresh) ih
    by_test false ih = ih

-- the names of a party's secrets are different
secrets_at_different : (s : Setup) → IsSetup s → (k : ℕ) (a : List ℕ) → are_different (secrets_at s k a) ≡ true
secrets_at_different s setup k a = by_contract (contract_at s k) refl
  where
    by_contract : (o : Option Advert) → contract_at s k ≡ o → are_different (secrets_of a (pre_of o)) ≡ true
    by_contract None e = refl
    by_contract (Some advert) e =
        party_different a (secrets advert.pre) (secrets_different advert.pre (different_names advert (contract_checked s setup k advert e)))

-- ---- digests in the order of the secrets

module _ (seen : List (List ℕ)) (entries : List (List ℕ × List ℕ)) (fresh : is_some (used_again seen entries) ≡ false) where
  looked_is : (n : List ℕ) → is_some (look_up n entries) ≡ true → look_up n entries ≡ Some (or_else_this [] (look_up n entries))
  looked_is n h = by_option (look_up n entries) h
    where
      by_option : (o : Option (List ℕ)) → is_some o ≡ true → o ≡ Some (or_else_this [] o)
      by_option None q = cc
      by_option (Some d) q = refl

  -- a digest in the row is of one of the names
  arranged_of : (names : List (List ℕ)) (d : List ℕ) → list_all (λ n. is_some (look_up n entries)) names ≡ true
      → is_among d (digests_in (arranged [] names entries)) ≡ true → (n : List ℕ) × (is_among n names ≡ true) × (look_up n entries ≡ Some d)
  arranged_of [] d all h = cc
  arranged_of (m ∷ names) d all h =
      let a = and_parts (is_some (look_up m entries)) (list_all (λ n. is_some (look_up n entries)) names) all in
      elim (or_cases (bytes_eq (or_else_this [] (look_up m entries)) d) (is_among d (digests_in (arranged [] names entries))) h) [
        | inl u ↦ (m, among_head m names, looked_is m a.0 ∙ ap Some (bytes-true (or_else_this [] (look_up m entries)) d u))
        | inr v ↦ (let r = arranged_of names d a.1 v in (r.0, among_tail r.0 m names r.1, r.2))
      ]

  arranged_different : (names : List (List ℕ)) → are_different names ≡ true → list_all (λ n. is_some (look_up n entries)) names ≡ true
      → are_different (digests_in (arranged [] names entries)) ≡ true
  arranged_different [] apart all = refl
  arranged_different (m ∷ names) apart all =
      let a = and_parts (is_some (look_up m entries)) (list_all (λ n. is_some (look_up n entries)) names) all in
      let p = and_parts (not (is_among m names)) (are_different names) apart in
      let d = or_else_this [] (look_up m entries) in
      let new = false_from_ne_true (is_among d (digests_in (arranged [] names entries))) (λ t.
      let r = arranged_of names d a.1 t in
      let same : m ≡ r.0 = one_name seen entries m r.0 d fresh (looked_is m a.0) r.2 in
      both_ways _ (not-true _ p.0) (subst (λ n. is_among n names ≡ true) (sym same) r.1)) in
      and_from _ _ (not_from_false _ new) (arranged_different names p.1 a.1)

  arranged_fresh : (names : List (List ℕ)) (d : List ℕ) → list_all (λ n. is_some (look_up n entries)) names ≡ true
      → is_among d (digests_in (arranged [] names entries)) ≡ true → is_among d seen ≡ false
  arranged_fresh names d all h = let r = arranged_of names d all h in not_before seen entries r.0 d fresh r.2

-- an honest party's own
own_arranged : (s : Setup) (a : List ℕ) (names ns : List (List ℕ)) → ((n : List ℕ) → is_among n ns ≡ true → is_among n names ≡ true)
    → arranged [] ns (own_digests s a names) ≡ own_digests s a ns
own_arranged s a names [] h = refl
own_arranged s a names (n ∷ ns) h =
    let e = own_looked s a n names (h n (among_head n ns)) in
    let ih = own_arranged s a names ns (λ m i. h m (among_tail m n ns i)) in
    λ j. (n, or_else_this [] (e j)) ∷ ih j

-- ---- one commitment more

pub all_push : {X : Type 0} (P : X → Type 0) (xs : List X) (x : X) → AllByRecursion P xs → P x → AllByRecursion P (xs ++ x ∷ [])
all_push P [] x h p = (p, tt)
all_push P (y ∷ xs) x h p = (h.0, all_push P xs x h.1 p)

-- what is kept of the commitments
pub record KeptApart (s : Setup) (ps : List Promise) : Type 0 where
  pub different : are_different (used_digests ps) ≡ true
  pub own : AllByRecursion (IsOfOwnSecrets s) ps

module _ (s : Setup) (setup : IsSetup s) where
  one_more : (ps : List Promise) (k : ℕ) (a : List ℕ) (ds : List (List ℕ × List ℕ)) → KeptApart s ps
      → is_some (used_again (used_digests ps) (committed_digests s k a ds)) ≡ false
      → list_all (λ n. is_some (look_up n (committed_digests s k a ds))) (secrets_at s k a) ≡ true
      → KeptApart s (ps ++ record { contract = k; party = a; digests = arranged [] (secrets_at s k a) (committed_digests s k a ds) } ∷ [])
  one_more ps k a ds kept fresh looked =
      let names = secrets_at s k a in
      let entries = committed_digests s k a ds in
      let row = digests_in (arranged [] names entries) in
      let new : Promise = record { contract = k; party = a; digests = arranged [] names entries } in
      let used : used_digests (ps ++ new ∷ []) ≡ used_digests ps ++ row =
      used-append ps (new ∷ []) ∙ ap (λ xs. used_digests ps ++ xs) (append-nil row) in
      let apart = different_append (used_digests ps) row kept.different
      (arranged_different (used_digests ps) entries fresh names (secrets_at_different s setup k a) looked)
      (λ d h. arranged_fresh (used_digests ps) entries fresh names d looked h) in
      record {
        different = ap are_different used ∙ apart;
        own = all_push (IsOfOwnSecrets s) ps new kept.own (λ honest. own_row honest);
      }
    where
      own_row : is_honest s a ≡ true → arranged [] (secrets_at s k a) (committed_digests s k a ds) ≡ own_digests s a (secrets_at s k a)
      own_row honest =
          ap (λ (b : Bool). arranged [] (secrets_at s k a) (if b then own_digests s a (secrets_at s k a) else ds)) honest
          ∙ own_arranged s a (secrets_at s k a) (secrets_at s k a) (λ n i. i)

  -- ---- every event

  unless_apart : (w : World) (r : Option Reason) (hashes : List (List ℕ)) (d : Pending) → KeptApart s w.promises
      → (r ≡ None → KeptApart s d.world.promises) → KeptApart s (unless r w hashes d).world.promises
  unless_apart w None hashes d kept h = h refl
  unless_apart w (Some r) hashes d kept h = kept

  quiet_apart : (w : World) (e : Event) → IsQuiet e → KeptApart s w.promises → KeptApart s (pending s w e).world.promises
  quiet_apart w e q kept = let t = told_stays s w e q in subst (KeptApart s) (sym t.promises) kept

  apart_after : (w : World) (e : Event) → KeptApart s w.promises → KeptApart s (pending s w e).world.promises
  apart_after w (events.Advertise k bs) kept = unless_apart w (first_reason (advertise_row s w k bs)) [] _ kept (λ r. kept)
  apart_after w (events.Commit k a ds) kept =
      let strings = committed_strings s k a in
      let last = committed_pending s (with_promise s w k a ds) k a strings in
      unless_apart w (first_reason (commit_row s w k a ds)) [] (unless (first_reason (digest_row s w k a ds)) w strings last) kept (λ r.
      let row = no_reason-none_true (commit_row s w k a ds) r in
      unless_apart w (first_reason (digest_row s w k a ds)) strings last kept (λ q.
      let once = no_reason-none_true (digest_row s w k a ds) q in
      one_more w.promises k a ds kept once.0 (digests_looked s k a ds (not-false _ row.1.1.1.1.0))))
  apart_after w (events.Endorse k a) kept = quiet_apart w (events.Endorse k a) tt kept
  apart_after w (events.Init k a) kept = quiet_apart w (events.Init k a) tt kept
  apart_after w (events.Authorise a n j) kept = quiet_apart w (events.Authorise a n j) tt kept
  apart_after w (events.Reveal k a name) kept = quiet_apart w (events.Reveal k a name) tt kept
  apart_after w (events.Post string) kept = quiet_apart w (events.Post string) tt kept
  apart_after w (events.Sign a label digest) kept = quiet_apart w (events.Sign a label digest) tt kept
  apart_after w (events.Give a inputs outputs) kept = quiet_apart w (events.Give a inputs outputs) tt kept
  apart_after w (events.Append bytes) kept = quiet_apart w (events.Append bytes) tt kept
  apart_after w (events.FireInit k) kept = quiet_apart w (events.FireInit k) tt kept
  apart_after w (events.Fire n j) kept = quiet_apart w (events.Fire n j) tt kept
  apart_after w (events.Mine blocks) kept = quiet_apart w (events.Mine blocks) tt kept

  -- ---- the run

  pub committed_apart : (ps : List Passed) (w : World) → AllPassed s w ps → KeptApart s w.promises → KeptApart s (world_after w ps).promises
  committed_apart [] w h kept = kept
  committed_apart (p ∷ ps) w h kept =
      let next : KeptApart s p.pending.world.promises =
      subst (λ (d : Pending). KeptApart s d.world.promises) (sym h.0.pending) (apart_after w p.event kept) in
      committed_apart ps p.world h.1 (subst (λ (v : World). KeptApart s v.promises) (sym h.0.world) next)
