-- Where a secret alone is said to be missing for a branch, the event that shows it meets it.
use Rattle.std.proofs.Common.{◌≡◌, ℕ, List, [], ◌∷◌, ◌++◌, Bool, true, false, Option, Some, None, refl, sym, ap, ◌∙◌, subst, inl, inr, ◌⊎◌}
use Rattle.std.specs.Prelude.{◌-◌, ◌&&◌, ◌||◌, not, nat_le, is_some, if◌then◌else◌}
use Rattle.std.specs.List.{Contains, filter, list_any}
use Rattle.std.proofs.lemmas.Bool.{and_parts, and_from}
use Rattle.spec_data.specs.Lists.{is_among, has_number, look_up, first_reason}
use Rattle.spec_data.specs.Messages.{collision}
use Rattle.std.specs.Str.{bytes_eq}
use Rattle.spec_terms.specs.Core.{core, asks, lock, puts_of, reveals_of, test_of}
use Rattle.spec_terms.specs.Precondition.{secrets}
use Rattle.spec_terms.specs.Term as term
use Rattle.spec_terms.specs.Term.{branches}
use Rattle.spec_terms.specs.Value.{holds}
use Rattle.spec_terms.specs.declared.pre.Pre.{Pre}
use Rattle.spec_calculus.specs.declared.parts.Revealed.{Revealed}
use Rattle.spec_calculus.specs.Configuration.{Configuration}
use Rattle.spec_calculus.specs.Beginning.{pre_of, bindings_of, is_there}
use Rattle.spec_calculus.specs.Branches.{active_at, advert_of, contract_number, has_branch_authorised, is_revealed, is_revealed_by, are_revealed, secret_lengths, branch_of}
use Rattle.spec_calculus.specs.Steps.{branch_at}
use Rattle.spec_run.specs.declared.event.Event.{Event}
use Rattle.spec_run.specs.declared.event.Event.TheVariants as events
use Rattle.spec_run.specs.declared.header.HeldSecret.{HeldSecret}
use Rattle.spec_run.specs.declared.outcome.Reason.{Reason}
use Rattle.spec_run.specs.declared.outcome.Reason.TheVariants as reason
use Rattle.spec_run.specs.Agreement.{deposits_from, actives_from}
use Rattle.spec_run.specs.Conditions.{IsEvent}
use Rattle.spec_run.specs.Committing.{is_secret_long, secrets_at}
use Rattle.spec_run.specs.Event.{Passed, Progress, pending, opening_world, played}
use Rattle.spec_run.specs.Pending.{Pending, posting, unless, guess, applied, apply}
use Rattle.spec_run.specs.Revealing.{fits, fitting, own_secret, reveal_row}
use Rattle.spec_run.specs.Secrets.{digest_at, is_shown, shown}
use Rattle.spec_run.specs.Setup.{Setup, bytes_or_none, has_contract, held_secret, is_honest}
use Rattle.spec_run.specs.Statements.{IsRun}
use Rattle.spec_run.specs.Translation.{world_after, opening_configuration, last_configuration, last_world, first_halt}
use Rattle.spec_run.specs.World.{World, has_promised}
use Rattle.spec_run.proofs.Courses.{left_more, last_left, passing, played_more}
use Rattle.spec_next.specs.declared.outlook.Ruling.{Ruling}
use Rattle.spec_next.specs.declared.outlook.Ruling.TheVariants as rulings
use Rattle.spec_next.specs.declared.requirement.Requirement.{Requirement}
use Rattle.spec_next.specs.declared.requirement.Requirement.TheVariants as requirements
use Rattle.spec_next.specs.Hands.{is_in_hand}
use Rattle.spec_next.specs.Prospects.{is_never, lasting, outstanding, requirements_by, prospect, ruling, ruling_by, ruling_of}
use Rattle.spec_next.specs.Requirements.{Condition, authorised, put_in, secret_requirement, revealed, undecided_or_true, asked_for, asked_by_branch, conditions, unmet}
use Rattle.theory_calculus.specs.Members.{Is_in}
use Rattle.theory_calculus.proofs.Members.{in_left, in_right, in_append, in_filter, filter_has, in_from_contains, contains_from_in, all_in}
use Rattle.theory_run.specs.KeptSecrets.{is_own}
use Rattle.theory_run.specs.Tracks.{Tracks}
use Rattle.theory_run.proofs.Following.{run_posts}
use Rattle.theory_run.proofs.Worlds.Committed.{all_push}
use Rattle.theory_next.specs.MetAlone.{IsAlone}
use Rattle.theory_next.specs.MetShown.{SaysAlone, predicate_by, predicate_at, ShowsIt, IsMetBy, MetShownTheorem}
use Rattle.theory_next.specs.Ready.{CanUnlessHalts}
use Rattle.theory_next.proofs.Apart.{among_in}
use Rattle.theory_next.proofs.ByHand as hands
use Rattle.theory_next.proofs.ByHand.{MetOrHand, branch_by_hand, signed_already}
use Rattle.theory_next.proofs.Exact.{in_map, from_map, is_failing, fails_in}
use Rattle.theory_next.proofs.Lacking.{lacks_of}
use Rattle.theory_next.proofs.Never.{any_in, lasting_never}
use Rattle.theory_next.proofs.Others.{others_come}
use Rattle.theory_next.proofs.Waits.{comes_unless}

-- ---- a run with one more event that can come

abbrev with_one : List Passed → Passed → Progress
with_one ps p = record { passed = ps ++ p ∷ []; halt = None }

module _ (s : Setup) (es : List Event) (run : IsRun s es) (on : first_halt s es ≡ None) (e : Event) (is : IsEvent s e)
    (can : ruling s (last_world s es) e ≡ rulings.Can) where
  abbrev w : World
  w = last_world s es

  record IsCalm : Type 0 where
    calm : collision s.hash w.hashed (pending s w e).hashes ≡ None
    unguessed : guess s w.posted (pending s w e).posts (pending s w e).allowed ≡ None

  is_calm : IsCalm
  is_calm =
      let d = pending s w e in
      by_halt (collision s.hash w.hashed d.hashes) (guess s w.posted d.posts d.allowed) refl refl can
    where
      by_halt : (c : Option (List ℕ × List ℕ)) (u : Option HeldSecret) → collision s.hash w.hashed (pending s w e).hashes ≡ c
          → guess s w.posted (pending s w e).posts (pending s w e).allowed ≡ u → ruling_of (apply w (pending s w e) c u) ≡ rulings.Can → IsCalm
      by_halt (Some pair) u p q h = cc
      by_halt None (Some held) p q h = cc
      by_halt None None p q h = record { calm = p; unguessed = q }

  left : w ≡ world_after (opening_world s) (played s es).passed
  left = last_left s (run_posts s es) (played s es).passed (opening_configuration s) (opening_world s)

  more : played s (es ++ e ∷ []) ≡ with_one (played s es).passed (passing s w e)
  more = played_more s es e (opening_world s) w on (sym left) is_calm.calm is_calm.unguessed

  longer : IsRun s (es ++ e ∷ [])
  longer = record { setup = run.setup; opens = run.opens; events = all_push (IsEvent s) es e run.events is }

  goes_on : first_halt s (es ++ e ∷ []) ≡ None
  goes_on = ap (λ (p : Progress). p.halt) more

  last_world_is : last_world s (es ++ e ∷ []) ≡ applied w (pending s w e)
  last_world_is =
      last_left s (run_posts s (es ++ e ∷ [])) (played s (es ++ e ∷ [])).passed (opening_configuration s) (opening_world s)
      ∙ ap (λ (p : Progress). world_after (opening_world s) p.passed) more
      ∙ left_more (played s es).passed (passing s w e) (opening_world s)

-- ---- strings

-- a string that fits is found where it is posted last
found_last : (s : Setup) (digest t : List ℕ) (xs : List (List ℕ)) → fits s digest t ≡ true → is_some (fitting s (xs ++ t ∷ []) digest) ≡ true
found_last s digest t [] f = ap (λ (b : Bool). is_some (if b then Some t else None)) f
found_last s digest t (x ∷ xs) f = by_test (fits s digest x) (found_last s digest t xs f)
  where
    by_test : (b : Bool) → is_some (fitting s (xs ++ t ∷ []) digest) ≡ true → is_some (if b then Some x else fitting s (xs ++ t ∷ []) digest) ≡ true
    by_test true h = refl
    by_test false h = h

-- what is found stays so
found_more : (s : Setup) (digest : List ℕ) (xs ys : List (List ℕ)) → is_some (fitting s xs digest) ≡ true
    → is_some (fitting s (xs ++ ys) digest) ≡ true
found_more s digest [] ys h = cc
found_more s digest (x ∷ xs) ys h = by_test (fits s digest x) h (found_more s digest xs ys)
  where
    by_test : (b : Bool) → is_some (if b then Some x else fitting s xs digest) ≡ true
        → (is_some (fitting s xs digest) ≡ true → is_some (fitting s (xs ++ ys) digest) ≡ true)
        → is_some (if b then Some x else fitting s (xs ++ ys) digest) ≡ true
    by_test true h ih = refl
    by_test false h ih = ih h

shown_more : (s : Setup) (xs ys : List (List ℕ)) (o : Option (List ℕ)) → is_shown s xs o ≡ true → is_shown s (xs ++ ys) o ≡ true
shown_more s xs ys None h = cc
shown_more s xs ys (Some digest) h = found_more s digest xs ys h

-- ---- what is said alone

not_both : {A : Type 0} (b : Bool) → b ≡ false → b ≡ true → A
not_both true e h = cc
not_both false e h = cc

-- where this alone is said to be missing, and may come, this alone is outstanding
module _ (s : Setup) (g : Configuration) (w : World) (e : Event) (x : Requirement) (may : is_never x ≡ false)
    (alone : IsAlone x (prospect s g w e).requirements) where
  record IsLeft : Type 0 where
    there : Is_in x (outstanding s g w e)
    only : (y : Requirement) → Is_in y (outstanding s g w e) → y ≡ x

  left_alone : IsLeft
  left_alone = by_ruling (ruling s w e) (in_from_contains (prospect s g w e).requirements x alone.there)
      (λ y i. alone.alone y (contains_from_in (prospect s g w e).requirements y i))
    where
      by_never : (r : Reason) (b : Bool) → list_any is_never (lasting r ++ outstanding s g w e) ≡ b
          → Is_in x (if b then filter is_never (lasting r ++ outstanding s g w e) else lasting r ++ outstanding s g w e)
          → ((y : Requirement) → Is_in y (if b then filter is_never (lasting r ++ outstanding s g w e) else lasting r ++ outstanding s g w e) → y ≡ x)
          → IsLeft
      by_never r true q i f = not_both (is_never x) may (in_filter is_never (lasting r ++ outstanding s g w e) x i).1
      by_never r false q i f = elim (in_append x (lasting r) (outstanding s g w e) i) [
        | inl a ↦ not_both (list_any is_never (lasting r ++ outstanding s g w e)) q
            (any_in is_never (lasting r ++ outstanding s g w e) x i (lasts r x a))
        | inr a ↦ record { there = a; only = λ y j. f y (in_right y (lasting r) (outstanding s g w e) j) }
      ]
        where
          lasts : (r : Reason) (y : Requirement) → Is_in y (lasting r) → is_never y ≡ true
          lasts r y j = all_in is_never (lasting r) y (lasting_never r) j

      by_ruling : (r : Ruling) → Is_in x (requirements_by (outstanding s g w e) r)
          → ((y : Requirement) → Is_in y (requirements_by (outstanding s g w e) r) → y ≡ x) → IsLeft
      by_ruling rulings.Can i f = absurd i
      by_ruling (rulings.Cannot r) i f = by_never r (list_any is_never (lasting r ++ outstanding s g w e)) refl i f
      by_ruling rulings.Halts i f = absurd i

-- it is met, or a signature by hand gives it, or it is this
left_or : (s : Setup) (w : World) (cs : List Condition) (x : Requirement)
    → ((y : Requirement) → Is_in y (filter (λ z. not (is_in_hand s w z)) (unmet cs)) → y ≡ x)
    → (c : Condition) → Is_in c cs → ((c.0 ≡ true) ⊎ (is_in_hand s w (c.1) ≡ true)) ⊎ (c.1 ≡ x)
left_or s w cs x h c i = by_test (c.0) refl (is_in_hand s w (c.1)) refl
  where
    by_test : (b : Bool) → c.0 ≡ b → (d : Bool) → is_in_hand s w (c.1) ≡ d → ((c.0 ≡ true) ⊎ (is_in_hand s w (c.1) ≡ true)) ⊎ (c.1 ≡ x)
    by_test true e d f = inl (inl e)
    by_test false e true f = inl (inr f)
    by_test false e false f =
        inr (h (c.1) (filter_has (λ z. not (is_in_hand s w z)) (unmet cs) (c.1) (fails_in cs c i e) (ap not f)))

-- a secret that is to be shown
abbrev is_secret_need : Requirement → Bool
is_secret_need (requirements.Secret party k secret) = true
is_secret_need (requirements.Posted party secret) = true
is_secret_need _ = false

-- ---- the branch after the event

module _ (s : Setup) (es : List Event) (run : IsRun s es) (on : first_halt s es ≡ None) (e : Event) (is : IsEvent s e)
    (can : ruling s (last_world s es) e ≡ rulings.Can) (n i : ℕ) (b : term.Guarded) (here : branch_at (last_configuration s es) n i ≡ Some b)
    (string : List ℕ) (allowed : Option (List ℕ × List ℕ)) (posts : pending s (last_world s es) e ≡ posting (last_world s es) string allowed)
    (party secret digest : List ℕ) (x : Requirement) (need : is_secret_need x ≡ true)
    (committed : digest_at (last_world s es).promises
    (record { contract = contract_number (active_at (last_configuration s es).active n); party = party; secret = secret }) ≡ Some digest)
    (fit : fits s digest string ≡ true)
    (whose : (o : Option (List ℕ)) (y : List ℕ)
    → secret_requirement s.header.honest (contract_number (active_at (last_configuration s es).active n)) o y ≡ x → (o ≡ Some party) × (y ≡ secret))
    (alone : (y : Requirement) → Is_in y (outstanding s (last_configuration s es) (last_world s es) (events.Fire n i)) → y ≡ x) where
  abbrev g : Configuration
  g = last_configuration s es

  abbrev w' : World
  w' = last_world s es

  abbrev more_events : List Event
  more_events = es ++ e ∷ []

  abbrev g' : Configuration
  g' = last_configuration s more_events

  abbrev next : World
  next = last_world s more_events

  abbrev run' : IsRun s more_events
  run' = longer s es run on e is can

  abbrev k : ℕ
  k = contract_number (active_at g.active n)

  abbrev pre : List Pre
  pre = pre_of (advert_of g.contracts (active_at g.active n))

  abbrev honest : List (List ℕ)
  honest = s.header.honest

  -- only what is hashed and posted is new
  abbrev shown_world : List (List ℕ) → World
  shown_world hashed = record w' { hashed = hashed; posted = w'.posted ++ string ∷ [] }

  abbrev hashed_then : List (List ℕ)
  hashed_then = (applied w' (posting w' string allowed)).hashed

  next_is : next ≡ shown_world hashed_then
  next_is = last_world_is s es run on e is can ∙ ap (applied w') posts

  t : Tracks s (run_posts s es) g w'
  t = hands.tracks s es run

  t' : Tracks s (run_posts s more_events) g' next
  t' = hands.tracks s more_events run'

  same_time : g'.time ≡ g.time
  same_time = t'.money.time ∙ ap (λ (v : World). v.tip) next_is ∙ sym t.money.time

  same_deposits : g'.deposits ≡ g.deposits
  same_deposits = t'.money.deposits ∙ ap (λ (v : World). deposits_from s 0 v.outputs) next_is ∙ sym t.money.deposits

  same_active : g'.active ≡ g.active
  same_active = t'.money.active ∙ ap (λ (v : World). actives_from 0 v.outputs) next_is ∙ sym t.money.active

  same_contracts : g'.contracts ≡ g.contracts
  same_contracts = t'.constant.contracts ∙ sym t.constant.contracts

  same_advertised : g'.advertised ≡ g.advertised
  same_advertised = t'.advertised ∙ ap (λ (v : World). v.advertised) next_is ∙ sym t.advertised

  here' : branch_at g' n i ≡ Some b
  here' = (λ j. branch_of (same_contracts j) (active_at (same_active j) n) i) ∙ here

  same_number : contract_number (active_at g'.active n) ≡ k
  same_number = ap (λ xs. contract_number (active_at xs n)) same_active

  same_pre : pre_of (advert_of g'.contracts (active_at g'.active n)) ≡ pre
  same_pre j = pre_of (advert_of (same_contracts j) (active_at (same_active j) n))

  -- ---- secrets

  abbrev of_party : List ℕ → List ℕ → Revealed
  of_party p y = record { contract = k; party = p; secret = y }

  stays_shown : (p y : List ℕ) → is_revealed g.revealed k p y ≡ true → is_revealed g'.revealed k p y ≡ true
  stays_shown p y h =
      t'.secrets.revealed (of_party p y)
      ∙ ap (λ (v : World). shown s v (of_party p y)) next_is
      ∙ shown_more s w'.posted (string ∷ []) (digest_at w'.promises (of_party p y)) (sym (t.secrets.revealed (of_party p y)) ∙ h)

  now_shown : is_revealed g'.revealed k party secret ≡ true
  now_shown =
      t'.secrets.revealed (of_party party secret)
      ∙ ap (λ (v : World). shown s v (of_party party secret)) next_is
      ∙ ap (λ o. is_shown s (w'.posted ++ string ∷ []) o) committed
      ∙ found_last s digest string w'.posted fit

  -- ---- conditions

  before : (c : Condition) → Is_in c (asked_for honest g n i k pre b) → ((c.0 ≡ true) ⊎ (is_in_hand s w' (c.1) ≡ true)) ⊎ (c.1 ≡ x)
  before =
      left_or s w' (asked_for honest g n i k pre b) x
      (subst (λ cs. (y : Requirement) → Is_in y (filter (λ z. not (is_in_hand s w' z)) (unmet cs)) → y ≡ x)
      (ap (asked_by_branch honest g n i (active_at g.active n)) here) alone)

  -- what is neither a secret nor a signature was met
  was_met : (c : Condition) → ((c.0 ≡ true) ⊎ (is_in_hand s w' (c.1) ≡ true)) ⊎ (c.1 ≡ x) → is_in_hand s w' (c.1) ≡ false
      → is_secret_need (c.1) ≡ false → c.0 ≡ true
  was_met c (inl (inl q)) h f = q
  was_met c (inl (inr q)) h f = not_both (is_in_hand s w' (c.1)) h q
  was_met c (inr q) h f = not_both (is_secret_need (c.1)) f (ap is_secret_need q ∙ need)

  abbrev first : Condition
  first = (nat_le (lock b) g.time, requirements.Height (lock b) (lock b - g.time))

  abbrev behind : List Condition
  behind = put_in g k (puts_of (core b)) ++ (revealed honest g k pre (reveals_of (core b)) ++ (undecided_or_true g k pre (core b), requirements.Predicate) ∷ [])

  -- who has authorised the branch has signed it
  by_hand : (p : List ℕ) → Is_in p (asks b)
      → is_in_hand s w' (requirements.Authorisation p n i) ≡ true
  by_hand p j =
      by_or (before (has_branch_authorised g.branch_authorised n i p, requirements.Authorisation p n i)
      (inr (in_left _ (authorised g n i (asks b)) behind
      (in_map (λ (q : List ℕ). (has_branch_authorised g.branch_authorised n i q, requirements.Authorisation q n i)) (asks b) p j))))
    where
      by_or : ((has_branch_authorised g.branch_authorised n i p ≡ true) ⊎ (is_in_hand s w' (requirements.Authorisation p n i) ≡ true))
          ⊎ (requirements.Authorisation p n i ≡ x) → is_in_hand s w' (requirements.Authorisation p n i) ≡ true
      by_or (inl (inl q)) = signed_already s es run n i b here on p (among_in p (asks b) j) q
      by_or (inl (inr q)) = q
      by_or (inr q) = not_both false refl (ap is_secret_need q ∙ need)

  -- no hand gives a secret
  no_hand : (o : Option (List ℕ)) (y : List ℕ) → is_in_hand s w' (secret_requirement honest k o y) ≡ false
  no_hand None y = refl
  no_hand (Some p) y = by_honesty (is_among p honest)
    where
      by_honesty : (h : Bool) → is_in_hand s w' (if h then requirements.Secret p k y else requirements.Posted p y) ≡ false
      by_honesty true = refl
      by_honesty false = refl

  stays : (o : Option (List ℕ)) (y : List ℕ) → is_revealed_by g.revealed k o y ≡ true → is_revealed_by g'.revealed k o y ≡ true
  stays None y q = cc
  stays (Some p) y q = stays_shown p y q

  by_secret : (y : List ℕ) (o : Option (List ℕ))
      → ((is_revealed_by g.revealed k o y ≡ true) ⊎ (is_in_hand s w' (secret_requirement honest k o y) ≡ true))
      ⊎ (secret_requirement honest k o y ≡ x)
      → is_revealed_by g'.revealed k o y ≡ true
  by_secret y o (inl (inl q)) = stays o y q
  by_secret y o (inl (inr q)) = not_both (is_in_hand s w' (secret_requirement honest k o y)) (no_hand o y) q
  by_secret y o (inr q) = let v = whose o y q in (λ j. is_revealed_by g'.revealed k (v.0 j) (v.1 j)) ∙ now_shown

  -- each secret of the branch is shown
  secret_shown : (y : List ℕ) → Is_in y (reveals_of (core b)) → is_revealed_by g'.revealed k (look_up y (secrets pre)) y ≡ true
  secret_shown y j =
      let old : Condition = (is_revealed_by g.revealed k (look_up y (secrets pre)) y, secret_requirement honest k (look_up y (secrets pre)) y) in
      let there : Is_in old (revealed honest g k pre (reveals_of (core b))) =
      in_map (λ (v : List ℕ). (is_revealed_by g.revealed k (look_up v (secrets pre)) v, secret_requirement honest k (look_up v (secrets pre)) v))
      (reveals_of (core b)) y j in
      by_secret y (look_up y (secrets pre))
      (before old (inr (in_right old (authorised g n i (asks b)) behind
      (in_right old (put_in g k (puts_of (core b))) _ (in_left old (revealed honest g k pre (reveals_of (core b))) _ there)))))

  all_shown : are_revealed g'.revealed k pre (reveals_of (core b)) ≡ true
  all_shown = by_each (reveals_of (core b)) secret_shown
    where
      by_each : (ys : List (List ℕ)) → ((y : List ℕ) → Is_in y ys → is_revealed_by g'.revealed k (look_up y (secrets pre)) y ≡ true)
          → are_revealed g'.revealed k pre ys ≡ true
      by_each [] f = refl
      by_each (y ∷ ys) f = and_from _ _ (f y (inl refl)) (by_each ys (λ z j. f z (inr j)))

  -- each condition after the event is met or in hand, or is the predicate's
  after : (c : Condition) → Is_in c (asked_for honest g' n i k pre b)
      → ((c.0 ≡ true) ⊎ (is_in_hand s next (c.1) ≡ true)) ⊎ (c ≡ (undecided_or_true g' k pre (core b), requirements.Predicate))
  after c (inl q) =
      inl (inl (ap (λ (d : Condition). d.0) q ∙ ap (λ m. nat_le (lock b) m) same_time ∙ was_met first (before first (inl refl)) refl refl))
  after c (inr h) = elim (in_append c (authorised g' n i (asks b)) _ h) [
    | inl r ↦ inl (inr (authorisation r))
    | inr r ↦ elim (in_append c (put_in g' k (puts_of (core b))) _ r) [
      | inl p ↦ inl (inl (put p))
      | inr q ↦ elim (in_append c (revealed honest g' k pre (reveals_of (core b))) _ q) [
        | inl v ↦ inl (inl (one_shown v))
        | inr (inl z) ↦ inr z
        | inr (inr z) ↦ absurd z
      ]
    ]
  ]
    where
      authorisation : Is_in c (authorised g' n i (asks b)) → is_in_hand s next (c.1) ≡ true
      authorisation r =
          let m = from_map (λ (q : List ℕ). (has_branch_authorised g'.branch_authorised n i q, requirements.Authorisation q n i)) (asks b) c r in
          ap (λ (d : Condition). is_in_hand s next (d.1)) m.2
          ∙ ap (λ (v : World). is_in_hand s v (requirements.Authorisation m.0 n i)) next_is
          ∙ by_hand m.0 m.1

      put : Is_in c (put_in g' k (puts_of (core b))) → c.0 ≡ true
      put r =
          let m = from_map (λ (y : List ℕ). (is_there g'.deposits (look_up y (bindings_of g'.advertised k)), requirements.Put y)) (puts_of (core b)) c r in
          let y = m.0 in
          let old : Condition = (is_there g.deposits (look_up y (bindings_of g.advertised k)), requirements.Put y) in
          let there : Is_in old (put_in g k (puts_of (core b))) =
          in_map (λ (y : List ℕ). (is_there g.deposits (look_up y (bindings_of g.advertised k)), requirements.Put y)) (puts_of (core b)) y m.1 in
          ap (λ (d : Condition). d.0) m.2
          ∙ (λ j. is_there (same_deposits j) (look_up y (bindings_of (same_advertised j) k)))
          ∙ was_met old (before old (inr (in_right old (authorised g n i (asks b)) behind (in_left old (put_in g k (puts_of (core b))) _ there)))) refl refl

      one_shown : Is_in c (revealed honest g' k pre (reveals_of (core b))) → c.0 ≡ true
      one_shown r =
          let m = from_map (λ (y : List ℕ). (is_revealed_by g'.revealed k (look_up y (secrets pre)) y, secret_requirement honest k (look_up y (secrets pre)) y))
          (reveals_of (core b)) c r in
          ap (λ (d : Condition). d.0) m.2 ∙ secret_shown m.0 m.1

  -- the same with the number and the precondition of the later configuration
  abbrev later_conditions : List Condition
  later_conditions = asked_for honest g' n i (contract_number (active_at g'.active n)) (pre_of (advert_of g'.contracts (active_at g'.active n))) b

  conditions_later : later_conditions ≡ asked_for honest g' n i k pre b
  conditions_later j = asked_for honest g' n i (same_number j) (same_pre j) b

  predicate_is : predicate_at g' n i ≡ holds (secret_lengths g'.committed k pre (reveals_of (core b))) (test_of (core b))
  predicate_is =
      ap (predicate_by g' (active_at g'.active n)) here'
      ∙ (λ j. holds (secret_lengths g'.committed (same_number j) (same_pre j) (reveals_of (core b))) (test_of (core b)))

  abbrev predicate : Bool
  predicate = holds (secret_lengths g'.committed k pre (reveals_of (core b))) (test_of (core b))

  -- so its predicate is decided
  decided : undecided_or_true g' k pre (core b) ≡ predicate
  decided = ap (λ r. not r || predicate) all_shown

  abbrev all_later : List Condition
  all_later = asked_for honest g' n i k pre b

  comes : predicate_at g' n i ≡ true → CanUnlessHalts s next (events.Fire n i)
  comes true_now =
      branch_by_hand s more_events run' n i b here' (subst (λ cs. MetOrHand s next cs) (sym conditions_later) each)
    where
      each : MetOrHand s next all_later
      each c j = by_after (after c j)
        where
          by_after : ((c.0 ≡ true) ⊎ (is_in_hand s next (c.1) ≡ true)) ⊎ (c ≡ (undecided_or_true g' k pre (core b), requirements.Predicate))
              → (c.0 ≡ true) ⊎ (is_in_hand s next (c.1) ≡ true)
          by_after (inl q) = q
          by_after (inr q) = inl (ap (λ (d : Condition). d.0) q ∙ decided ∙ sym predicate_is ∙ true_now)

  missing_is : outstanding s g' next (events.Fire n i) ≡ filter (λ z. not (is_in_hand s next z)) (unmet all_later)
  missing_is =
      ap (λ cs. filter (λ z. not (is_in_hand s next z)) (unmet cs))
      (ap (asked_by_branch honest g' n i (active_at g'.active n)) here' ∙ conditions_later)

  fails : predicate_at g' n i ≡ false → IsAlone requirements.Predicate (outstanding s g' next (events.Fire n i))
  fails false_now = subst (IsAlone requirements.Predicate) (sym missing_is) (record { there = there; alone = only })
    where
      last : Condition
      last = (undecided_or_true g' k pre (core b), requirements.Predicate)

      in_later : Is_in last all_later
      in_later =
          inr (in_right last (authorised g' n i (asks b)) _ (in_right last (put_in g' k (puts_of (core b))) _
          (in_right last (revealed honest g' k pre (reveals_of (core b))) (last ∷ []) (inl refl))))

      is_false : undecided_or_true g' k pre (core b) ≡ false
      is_false = decided ∙ sym predicate_is ∙ false_now

      there : Contains (filter (λ z. not (is_in_hand s next z)) (unmet all_later)) requirements.Predicate
      there =
          contains_from_in (filter (λ z. not (is_in_hand s next z)) (unmet all_later)) requirements.Predicate
          (filter_has (λ z. not (is_in_hand s next z)) (unmet all_later) requirements.Predicate (fails_in all_later last in_later is_false) refl)

      only : (y : Requirement) → Contains (filter (λ z. not (is_in_hand s next z)) (unmet all_later)) y → y ≡ requirements.Predicate
      only y h =
          let f = in_filter (λ z. not (is_in_hand s next z)) (unmet all_later) y
          (in_from_contains (filter (λ z. not (is_in_hand s next z)) (unmet all_later)) y h) in
          let c = is_failing all_later y f.0 in
          by_after c.condition c.fails c.outstanding (not_true (is_in_hand s next y) f.1)
          (after c.condition (in_from_contains all_later c.condition c.there))
        where
          not_true : (v : Bool) → not v ≡ true → v ≡ false
          not_true true q = cc
          not_true false q = refl

          by_after : (c : Condition) → c.0 ≡ false → c.1 ≡ y → is_in_hand s next y ≡ false
              → ((c.0 ≡ true) ⊎ (is_in_hand s next (c.1) ≡ true)) ⊎ (c ≡ (undecided_or_true g' k pre (core b), requirements.Predicate))
              → y ≡ requirements.Predicate
          by_after c z q v (inl (inl u)) = not_both (c.0) z u
          by_after c z q v (inl (inr u)) = not_both (is_in_hand s next y) v (ap (is_in_hand s next) (sym q) ∙ u)
          by_after c z q v (inr u) = sym q ∙ ap (λ (d : Condition). d.1) u

  pub shows_it : ShowsIt s more_events n i
  shows_it = record { is_run = run'; goes_on = goes_on s es run on e is can; comes = comes; fails = fails }

-- ---- whose the secret is

abbrev name_in : Requirement → List ℕ
name_in (requirements.Secret party k secret) = secret
name_in (requirements.Posted party secret) = secret
name_in _ = []

abbrev party_in : Requirement → List ℕ
party_in (requirements.Secret party k secret) = party
party_in (requirements.Posted party secret) = party
party_in _ = []

whose_is : (honest : List (List ℕ)) (k : ℕ) (party secret : List ℕ) (x : Requirement) → is_secret_need x ≡ true → party_in x ≡ party → name_in x ≡ secret
    → (o : Option (List ℕ)) (y : List ℕ) → secret_requirement honest k o y ≡ x → (o ≡ Some party) × (y ≡ secret)
whose_is honest k party secret x need p q None y e = not_both false refl (ap is_secret_need e ∙ need)
whose_is honest k party secret x need p q (Some who) y e = by_honesty (is_among who honest) e
  where
    by_honesty : (h : Bool) → (if h then requirements.Secret who k y else requirements.Posted who y) ≡ x → (Some who ≡ Some party) × (y ≡ secret)
    by_honesty true z = (ap Some (ap party_in z ∙ p), ap name_in z ∙ q)
    by_honesty false z = (ap Some (ap party_in z ∙ p), ap name_in z ∙ q)

-- ---- a branch of which this alone is said

-- the branch is there, and its conditions are those of the branch
record OfBranch (s : Setup) (g : Configuration) (n i : ℕ) : Type 0 where
  b : term.Guarded
  here : branch_at g n i ≡ Some b

of_branch : (s : Setup) (g : Configuration) (w : World) (n i : ℕ) (x : Requirement) → Is_in x (outstanding s g w (events.Fire n i)) → OfBranch s g n i
of_branch s g w n i x h = by_branch (branch_at g n i) refl h
  where
    by_branch : (o : Option term.Guarded) → branch_at g n i ≡ o
        → Is_in x (filter (λ z. not (is_in_hand s w z)) (unmet (asked_by_branch s.header.honest g n i (active_at g.active n) o))) → OfBranch s g n i
    by_branch None e q = absurd q
    by_branch (Some b) e q = record { b = b; here = e }

-- ---- a reveal

first_clear : {R : Type 0} (a : Bool) (x : R) (rest : List (Bool × R)) → first_reason ((a, x) ∷ rest) ≡ None → (a ≡ false) × (first_reason rest ≡ None)
first_clear true x rest h = cc
first_clear false x rest h = (refl, h)

yes : (a : Bool) → not a ≡ false → a ≡ true
yes true h = refl
yes false h = cc

-- the tests of a reveal behind those of its contract, its party, its secret and its commitment
abbrev behind_promise : Setup → World → ℕ → List ℕ → List ℕ → List (Bool × Reason)
behind_promise s w k party secret =
    (not (has_number k w.begun), reason.NotBegun) ∷ (is_among (own_secret s party secret) w.posted, reason.AlreadyRevealed) ∷ []

abbrev behind_name : Setup → World → ℕ → List ℕ → List ℕ → List (Bool × Reason)
behind_name s w k party secret = (not (has_promised w k party), reason.NotCommitted) ∷ behind_promise s w k party secret

abbrev behind_honesty : Setup → World → ℕ → List ℕ → List ℕ → List (Bool × Reason)
behind_honesty s w k party secret = (not (is_among secret (secrets_at s k party)), reason.NoSecret secret) ∷ behind_name s w k party secret

abbrev behind_contract : Setup → World → ℕ → List ℕ → List ℕ → List (Bool × Reason)
behind_contract s w k party secret = (not (is_honest s party), reason.NotHonest) ∷ behind_honesty s w k party secret

-- a reveal that can come posts the party's own string, and its party has committed the secret
record Reveals (s : Setup) (w : World) (k : ℕ) (party secret : List ℕ) : Type 0 where
  posts : pending s w (events.Reveal k party secret) ≡ posting w (own_secret s party secret) (Some (party, secret))
  honest : is_honest s party ≡ true
  named : is_among secret (secrets_at s k party) ≡ true
  promised : has_promised w k party ≡ true

reveals_by : (s : Setup) (w : World) (k : ℕ) (party secret : List ℕ) → ruling s w (events.Reveal k party secret) ≡ rulings.Can → Reveals s w k party secret
reveals_by s w k party secret can =
    let e = events.Reveal k party secret in
    by_reason (first_reason (reveal_row s w k party secret)) refl
    (done_of (pending s w e) (collision s.hash w.hashed (pending s w e).hashes) (guess s w.posted (pending s w e).posts (pending s w e).allowed) can)
  where
    done_of : (d : Pending) (c : Option (List ℕ × List ℕ)) (u : Option HeldSecret) → ruling_of (apply w d c u) ≡ rulings.Can → ruling_by d.outcome ≡ rulings.Can
    done_of d (Some pair) u h = cc
    done_of d None (Some held) h = cc
    done_of d None None h = h

    by_reason : (r : Option Reason) → first_reason (reveal_row s w k party secret) ≡ r
        → ruling_by (pending s w (events.Reveal k party secret)).outcome ≡ rulings.Can → Reveals s w k party secret
    by_reason (Some why) e h =
        let last = posting w (own_secret s party secret) (Some (party, secret)) in
        let z : rulings.Cannot why ≡ rulings.Can = sym (ap (λ r. ruling_by (unless r w [] last).outcome) e) ∙ h in
        cc
    by_reason None e h =
        let last = posting w (own_secret s party secret) (Some (party, secret)) in
        let a = first_clear (not (has_contract s k)) reason.NoContract (behind_contract s w k party secret) e in
        let b = first_clear (not (is_honest s party)) reason.NotHonest (behind_honesty s w k party secret) a.1 in
        let c = first_clear (not (is_among secret (secrets_at s k party))) (reason.NoSecret secret) (behind_name s w k party secret) b.1 in
        let d = first_clear (not (has_promised w k party)) reason.NotCommitted (behind_promise s w k party secret) c.1 in
        record {
          posts = ap (λ r. unless r w [] last) e;
          honest = yes (is_honest s party) b.0;
          named = yes (is_among secret (secrets_at s k party)) c.0;
          promised = yes (has_promised w k party) d.0;
        }

-- an own string fits the digest that was committed
record OwnFits (s : Setup) (party secret : List ℕ) (o : Option (List ℕ)) : Type 0 where
  digest : List ℕ
  is : o ≡ Some digest
  fit : fits s digest (own_secret s party secret) ≡ true

own_fits : (s : Setup) (hashed : List (List ℕ)) (party secret : List ℕ) (held o : Option (List ℕ)) → held_secret s party secret ≡ held
    → is_own s hashed held o ≡ true → is_some o ≡ true → OwnFits s party secret o
own_fits s hashed party secret held None e own some = cc
own_fits s hashed party secret None (Some d) e own some = cc
own_fits s hashed party secret (Some t) (Some d) e own some =
    let p = and_parts (bytes_eq (s.hash t) d && is_secret_long t) (is_among t hashed) own in
    let q = and_parts (bytes_eq (s.hash t) d) (is_secret_long t) p.0 in
    record {
      digest = d;
      is = refl;
      fit = ap (λ v. fits s d (bytes_or_none v)) e ∙ and_from (is_secret_long t) (bytes_eq (s.hash t) d) q.1 q.0;
    }

-- ---- all

module _ (s : Setup) (es : List Event) (run : IsRun s es) (on : first_halt s es ≡ None) where
  abbrev at_end : Configuration
  at_end = last_configuration s es

  abbrev last : World
  last = last_world s es

  by_reveal : (party : List ℕ) (k : ℕ) (secret : List ℕ) (n i : ℕ) → IsEvent s (events.Reveal k party secret)
      → SaysAlone s es n i (requirements.Secret party k secret) → IsMetBy s es (events.Reveal k party secret) n i
  by_reveal party k secret n i is alone =
      let x = requirements.Secret party k secret in
      let l = left_alone s at_end last (events.Fire n i) x refl alone in
      let f = (in_filter (λ z. not (is_in_hand s last z)) (unmet (conditions s at_end last (events.Fire n i))) x l.there).0 in
      let o = of_branch s at_end last n i x l.there in
      let number : contract_number (active_at at_end.active n) ≡ k = (lacks_of s at_end n i party k secret f).number in
      record {
        can = (others_come s es run on).shown n i party k secret (contains_from_in (unmet (conditions s at_end last (events.Fire n i))) x f);
        shows = λ can. shown_by number o l can;
      }
    where
      shown_by : contract_number (active_at at_end.active n) ≡ k → OfBranch s at_end n i
          → IsLeft s at_end last (events.Fire n i) (requirements.Secret party k secret) refl alone
          → ruling s last (events.Reveal k party secret) ≡ rulings.Can → ShowsIt s (es ++ events.Reveal k party secret ∷ []) n i
      shown_by number o l can =
          let e = events.Reveal k party secret in
          let x = requirements.Secret party k secret in
          let r = reveals_by s last k party secret can in
          let kept = (hands.tracks s es run).secrets in
          let it : Revealed = record { contract = k; party = party; secret = secret } in
          let own = own_fits s last.hashed party secret (held_secret s party secret) (digest_at last.promises it) refl (kept.own it r.honest)
          (kept.full it r.promised r.named) in
          let committed : digest_at last.promises (record { contract = contract_number (active_at at_end.active n); party = party; secret = secret })
          ≡ Some own.digest =
          ap (λ m. digest_at last.promises (record { contract = m; party = party; secret = secret })) number ∙ own.is in
          shows_it s es run on e is can n i o.b o.here (own_secret s party secret) (Some (party, secret)) r.posts party secret own.digest x refl committed
          own.fit (whose_is s.header.honest (contract_number (active_at at_end.active n)) party secret x refl refl refl) l.only

  by_post : (party : List ℕ) (k : ℕ) (secret digest bytes : List ℕ) (n i : ℕ) → IsEvent s (events.Post bytes)
      → contract_number (active_at at_end.active n) ≡ k
      → digest_at last.promises (record { contract = k; party = party; secret = secret }) ≡ Some digest
      → fits s digest bytes ≡ true → SaysAlone s es n i (requirements.Posted party secret) → IsMetBy s es (events.Post bytes) n i
  by_post party k secret digest bytes n i is number committed fit alone =
      let x = requirements.Posted party secret in
      let l = left_alone s at_end last (events.Fire n i) x refl alone in
      let o = of_branch s at_end last n i x l.there in
      record {
        can = comes_unless s last (events.Post bytes) refl;
        shows = λ can.
            shows_it s es run on (events.Post bytes) is can n i o.b o.here bytes None refl party secret digest x refl
            (ap (λ m. digest_at last.promises (record { contract = m; party = party; secret = secret })) number ∙ committed) fit
            (whose_is s.header.honest (contract_number (active_at at_end.active n)) party secret x refl refl refl) l.only;
      }

pub met_shown : MetShownTheorem
met_shown s es run on = record { reveals = by_reveal s es run on; posts = by_post s es run on }
