-- Each candidate stands once in the list.
use Rattle.std.proofs.Common.{◌≡◌, ℕ, ◌+◌, ◌≤◌, List, [], ◌∷◌, ◌++◌, map, Bool, true, refl, sym, ap, ◌∙◌, subst, inl, inr, ◌⊎◌, arith}
use Rattle.std.specs.Prelude.{not, ◌==◌, nat_lt}
use Rattle.std.specs.List.{flat_map, list_all, AllByRecursion}
use Rattle.std.specs.Str.{bytes_eq}
use Rattle.std.proofs.lemmas.Bool.{and_parts, or_left, or_right, eqb-true}
use Rattle.std.proofs.lemmas.List.Concat.{flat_map-cons}
use Rattle.spec_data.specs.Lists.{is_among, are_different}
use Rattle.spec_terms.specs.Advert.{Advert}
use Rattle.spec_terms.specs.Faults.{IsWellFormed}
use Rattle.spec_terms.specs.Parties.{participants, choice_mentions}
use Rattle.spec_terms.specs.Precondition.{persistent, secrets, name_in, party_of}
use Rattle.spec_terms.specs.Term as term
use Rattle.spec_terms.specs.declared.pre.Pre.{Pre}
use Rattle.spec_terms.specs.declared.pre.Pre.TheVariants.{Persistent, Volatile, Secret}
use Rattle.spec_calculus.specs.declared.parts.ActiveContract.{ActiveContract}
use Rattle.spec_calculus.specs.Configuration.{Configuration}
use Rattle.spec_calculus.specs.InOrder.{are_ascending}
use Rattle.spec_calculus.specs.declared.step.Step.{Step}
use Rattle.spec_calculus.specs.Steps.{after_steps, effect}
use Rattle.spec_calculus.specs.Offers.{branches_of}
use Rattle.spec_run.specs.declared.event.Event.{Event}
use Rattle.spec_run.specs.declared.event.Event.TheVariants as events
use Rattle.spec_run.specs.Setup.{Setup}
use Rattle.spec_run.specs.World.{World}
use Rattle.spec_run.specs.Translation.{opening_configuration, last_configuration, last_world, in_order, translated}
use Rattle.spec_run.specs.Statements.{spends_with_leave}
use Rattle.spec_next.specs.Candidates.{people, advertising, committing, endorsing, starting}
use Rattle.spec_next.specs.Candidates.{revealing, authorising, taking, taking_active, actives_of}
use Rattle.spec_next.specs.Candidates.{candidates, candidates_from, all_candidates}
use Rattle.theory_calculus.specs.Members.{Is_in}
use Rattle.theory_calculus.proofs.Members.{in_append, in_filter, all_in, in_from_contains}
use Rattle.theory_calculus.specs.Numbered.{IsNumbered}
use Rattle.theory_calculus.proofs.Names.{bytes_refl, different_names}
use Rattle.theory_calculus.proofs.Numbered.{filtered_ascends, numbered_after, opening_numbered}
use Rattle.theory_run.proofs.Following.{run_posts, kept_at_end}
use Rattle.theory_run.proofs.Simulated.{simulation}
use Rattle.theory_offers.proofs.WholeRun.{KeptAll, opening_all, keeps_all}
use Rattle.theory_next.specs.Once.{EachOnce, CandidatesStandOnce}
use Rattle.theory_next.proofs.Complete.{from_flat_map}
use Rattle.theory_next.proofs.Exact.{from_map, in_map}
use Rattle.theory_next.proofs.Apart.{Apart, apart_append, apart_filter, apart_map, apart_added}

-- ---- what an event is: its kind, the contract or output that it is of, its branch and its party

abbrev kind : Event → ℕ
kind (events.Advertise k bindings) = 0
kind (events.Commit k party digests) = 1
kind (events.Endorse k party) = 2
kind (events.Init k party) = 3
kind (events.FireInit k) = 4
kind (events.Reveal k party secret) = 5
kind (events.Authorise party n i) = 6
kind (events.Fire n i) = 7
kind (events.Post bytes) = 8
kind (events.Sign party label digest) = 8
kind (events.Give party inputs outputs) = 8
kind (events.Append bytes) = 8
kind (events.Mine blocks) = 8

abbrev home : Event → ℕ
home (events.Advertise k bindings) = k
home (events.Commit k party digests) = k
home (events.Endorse k party) = k
home (events.Init k party) = k
home (events.FireInit k) = k
home (events.Reveal k party secret) = k
home (events.Authorise party n i) = n
home (events.Fire n i) = n
home (events.Post bytes) = 0
home (events.Sign party label digest) = 0
home (events.Give party inputs outputs) = 0
home (events.Append bytes) = 0
home (events.Mine blocks) = 0

abbrev branch_no : Event → ℕ
branch_no (events.Authorise party n i) = i
branch_no (events.Fire n i) = i
branch_no (events.Advertise k bindings) = 0
branch_no (events.Commit k party digests) = 0
branch_no (events.Endorse k party) = 0
branch_no (events.Init k party) = 0
branch_no (events.FireInit k) = 0
branch_no (events.Reveal k party secret) = 0
branch_no (events.Post bytes) = 0
branch_no (events.Sign party label digest) = 0
branch_no (events.Give party inputs outputs) = 0
branch_no (events.Append bytes) = 0
branch_no (events.Mine blocks) = 0

abbrev who : Event → List ℕ
who (events.Commit k party digests) = party
who (events.Endorse k party) = party
who (events.Init k party) = party
who (events.Authorise party n i) = party
who (events.Reveal k party secret) = party
who (events.Advertise k bindings) = []
who (events.FireInit k) = []
who (events.Fire n i) = []
who (events.Post bytes) = []
who (events.Sign party label digest) = []
who (events.Give party inputs outputs) = []
who (events.Append bytes) = []
who (events.Mine blocks) = []

abbrev secret_in : Event → List ℕ
secret_in (events.Reveal k party secret) = secret
secret_in (events.Commit k party digests) = []
secret_in (events.Endorse k party) = []
secret_in (events.Init k party) = []
secret_in (events.Authorise party n i) = []
secret_in (events.Advertise k bindings) = []
secret_in (events.FireInit k) = []
secret_in (events.Fire n i) = []
secret_in (events.Post bytes) = []
secret_in (events.Sign party label digest) = []
secret_in (events.Give party inputs outputs) = []
secret_in (events.Append bytes) = []
secret_in (events.Mine blocks) = []

-- what is mapped has the kind and the home that the function gives
mapped_kind : {A : Type 0} (f : A → Event) (c k : ℕ) → ((x : A) → (kind (f x) ≡ c) × (home (f x) ≡ k)) → (xs : List A) (e : Event)
    → Is_in e (map f xs) → (kind e ≡ c) × (home e ≡ k)
mapped_kind f c k h xs e i = let m = from_map f xs e i in (ap kind m.2 ∙ (h m.0).0, ap home m.2 ∙ (h m.0).1)

-- ---- branches

module _ (g : Configuration) (ps : List (List ℕ)) (n : ℕ) where
  record Takes (i : ℕ) (e : Event) : Type 0 where
    kinds : 6 ≤ kind e
    here : home e ≡ n
    later : i ≤ branch_no e

  authorises : (i : ℕ) (b : term.Guarded) (e : Event) → Is_in e (authorising g ps n i b) → (kind e ≡ 6) × (home e ≡ n) × (branch_no e ≡ i)
  authorises i b e h = let m = from_map (λ party. events.Authorise party n i) _ e h in (ap kind m.2, ap home m.2, ap branch_no m.2)

  takes_of : (i : ℕ) (bs : List term.Guarded) (e : Event) → Is_in e (taking g ps n i bs) → Takes i e
  takes_of i [] e h = absurd h
  takes_of i (b ∷ bs) e h = elim (in_append e (authorising g ps n i b) (events.Fire n i ∷ taking g ps n (i + 1) bs) h) [
    | inl a ↦ let r = authorises i b e a in record { kinds = omega (arith, r.0); here = r.1; later = omega (arith, r.2) }
    | inr (inl q) ↦
        let x : kind e ≡ 7 = ap kind q in
        let y : branch_no e ≡ i = ap branch_no q in
        record { kinds = omega (arith, x); here = ap home q; later = omega (arith, y) }
    | inr (inr t) ↦ let r = takes_of (i + 1) bs e t in record { kinds = r.kinds; here = r.here; later = omega (arith, r.later) }
  ]

  takes_apart : (i : ℕ) (bs : List term.Guarded) → Apart ps → Apart (taking g ps n i bs)
  takes_apart i [] each = tt
  takes_apart i (b ∷ bs) each =
      apart_append (authorising g ps n i b) (events.Fire n i ∷ taking g ps n (i + 1) bs)
      (apart_map (λ party. events.Authorise party n i) who (λ p. refl) _ (apart_filter _ ps each))
      ((λ h. let r = (takes_of (i + 1) bs (events.Fire n i) h).later in absurd (omega (arith, r))), takes_apart (i + 1) bs each)
      (λ e a h. let x = authorises i b e a in by_rest e x.0 x.2 h)
    where
      by_rest : (e : Event) → kind e ≡ 6 → branch_no e ≡ i → Is_in e (events.Fire n i ∷ taking g ps n (i + 1) bs) → ⊥
      by_rest e x y (inl q) = let z : kind e ≡ 7 = ap kind q in absurd (omega (arith, x, z))
      by_rest e x y (inr t) = let r = (takes_of (i + 1) bs e t).later in absurd (omega (arith, y, r))

-- ---- active contracts

less_not_same : (m n : ℕ) → nat_lt m n ≡ true → m ≡ n → ⊥
less_not_same m n l f = grind arith

abbrev ascends : List ActiveContract → Bool
ascends xs = are_ascending (map (λ (x : ActiveContract). x.number) xs)

-- the first has another number than those behind it
prefix_apart : (x : ActiveContract) (xs : List ActiveContract) (b : ActiveContract) → ascends (x ∷ xs) ≡ true → Is_in b xs
    → x.number ≡ b.number → ⊥
prefix_apart x xs b h i e =
    let numbers = map (λ (y : ActiveContract). y.number) xs in
    let l = all_in (λ y. nat_lt x.number y) numbers b.number (and_parts (list_all (λ y. nat_lt x.number y) numbers) _ h).0
    (in_map (λ (y : ActiveContract). y.number) xs b i) in
    less_not_same x.number b.number l e

unique_at : (xs : List ActiveContract) (a b : ActiveContract) → ascends xs ≡ true → Is_in a xs → Is_in b xs → a.number ≡ b.number → a ≡ b
unique_at [] a b h i j e = absurd i
unique_at (x ∷ xs) a b h (inl p) (inl q) e = p ∙ sym q
unique_at (x ∷ xs) a b h (inr p) (inr q) e = unique_at xs a b (and_parts _ (ascends xs) h).1 p q e
unique_at (x ∷ xs) a b h (inl p) (inr q) e = absurd (prefix_apart x xs b h q (ap (λ (y : ActiveContract). y.number) (sym p) ∙ e))
unique_at (x ∷ xs) a b h (inr p) (inl q) e = absurd (prefix_apart x xs a h p (ap (λ (y : ActiveContract). y.number) (sym q) ∙ sym e))

-- what active contracts of a list go on by
record GoesOnBy (xs : List ActiveContract) (e : Event) : Type 0 where
  active : ActiveContract
  there : Is_in active xs
  kinds : 6 ≤ kind e
  here : home e ≡ active.number

goes_on_by : (g : Configuration) (ps : List (List ℕ)) (xs : List ActiveContract) (e : Event)
    → Is_in e (flat_map (taking_active g ps) xs) → GoesOnBy xs e
goes_on_by g ps xs e h =
    let c = from_flat_map (taking_active g ps) xs e h in
    let t = takes_of g ps c.from.number 0 (branches_of g.contracts c.from) e c.made in
    record { active = c.from; there = c.there; kinds = t.kinds; here = t.here }

actives_apart : (g : Configuration) (ps : List (List ℕ)) (xs : List ActiveContract) → Apart ps → ascends xs ≡ true
    → Apart (flat_map (taking_active g ps) xs)
actives_apart g ps [] each h = tt
actives_apart g ps (a ∷ xs) each h =
    subst Apart (sym (flat_map-cons (taking_active g ps) a xs))
    (apart_append (taking_active g ps a) (flat_map (taking_active g ps) xs) (takes_apart g ps a.number 0 (branches_of g.contracts a) each)
    (actives_apart g ps xs each (and_parts _ (ascends xs) h).1)
    (λ e x y.
    let t = takes_of g ps a.number 0 (branches_of g.contracts a) e x in
    let u = goes_on_by g ps xs e y in
    prefix_apart a xs u.active h u.there (sym t.here ∙ u.here)))

-- ---- secrets

in_secrets : (pre : List Pre) (x : List ℕ × List ℕ) → Is_in x (secrets pre) → is_among (x.0) (map name_in pre) ≡ true
in_secrets [] x h = absurd h
in_secrets (Persistent party value name ∷ es) x h = or_right (bytes_eq name (x.0)) _ (in_secrets es x h)
in_secrets (Volatile party value name ∷ es) x h = or_right (bytes_eq name (x.0)) _ (in_secrets es x h)
in_secrets (Secret party name ∷ es) x (inl e) =
    or_left _ _ (subst (λ n. bytes_eq name n ≡ true) (ap (λ (y : List ℕ × List ℕ). y.0) (sym e)) (bytes_refl name))
in_secrets (Secret party name ∷ es) x (inr i) = or_right (bytes_eq name (x.0)) _ (in_secrets es x i)

secrets_apart : (pre : List Pre) → are_different (map name_in pre) ≡ true → Apart (secrets pre)
secrets_apart [] h = tt
secrets_apart (Persistent party value name ∷ es) h = secrets_apart es (and_parts (not (is_among name (map name_in es))) _ h).1
secrets_apart (Volatile party value name ∷ es) h = secrets_apart es (and_parts (not (is_among name (map name_in es))) _ h).1
secrets_apart (Secret party name ∷ es) h =
    let p = and_parts (not (is_among name (map name_in es))) (are_different (map name_in es)) h in
    (λ i. let e = in_secrets es (name, party) i in cc, secrets_apart es p.1)

-- ---- a contract

module _ (s : Setup) (g : Configuration) (w : World) (ordered : ascends g.active ≡ true) where
  -- what a candidate of contract k is
  abbrev OfContract : ℕ → Event → Type 0
  OfContract k e = ((kind e ≤ 5) × (home e ≡ k)) ⊎ GoesOnBy (actives_of g k) e

  module _ (k : ℕ) (c : Advert) where
    abbrev l6 : List Event
    l6 = flat_map (taking_active g (people s c)) (actives_of g k)

    abbrev l5 : List Event
    l5 = revealing s k (secrets c.pre) ++ l6

    abbrev l4 : List Event
    l4 = events.FireInit k ∷ l5

    abbrev l3 : List Event
    l3 = starting g k (persistent c.pre) (people s c) ++ l4

    abbrev l2 : List Event
    l2 = endorsing s w k (people s c) ++ l3

    abbrev l1 : List Event
    l1 = map (committing k) (people s c) ++ l2

    -- an event of one of these, of at least this kind
    record From (least : ℕ) (e : Event) : Type 0 where
      at_least : least ≤ kind e
      is : OfContract k e

    exactly : (n : ℕ) (e : Event) → n ≤ 5 → (kind e ≡ n) × (home e ≡ k) → From n e
    exactly n e l h = record { at_least = omega (arith, h.0); is = inl (omega (arith, l, h.0), h.1) }

    lower : (n m : ℕ) (e : Event) → m ≤ n → From n e → From m e
    lower n m e l f = let a = f.at_least in record { at_least = omega (arith, l, a); is = f.is }

    from6 : (e : Event) → Is_in e l6 → From 6 e
    from6 e h = let r = goes_on_by g (people s c) (actives_of g k) e h in record { at_least = r.kinds; is = inr r }

    is5 : (e : Event) → Is_in e (revealing s k (secrets c.pre)) → (kind e ≡ 5) × (home e ≡ k)
    is5 e h = mapped_kind (λ (x : List ℕ × List ℕ). events.Reveal k (x.1) (x.0)) 5 k (λ x. (refl, refl)) _ e h

    is3 : (e : Event) → Is_in e (starting g k (persistent c.pre) (people s c)) → (kind e ≡ 3) × (home e ≡ k)
    is3 e h = mapped_kind (λ party. events.Init k party) 3 k (λ x. (refl, refl)) _ e h

    is2 : (e : Event) → Is_in e (endorsing s w k (people s c)) → (kind e ≡ 2) × (home e ≡ k)
    is2 e h = mapped_kind (λ party. events.Endorse k party) 2 k (λ x. (refl, refl)) _ e h

    is1 : (e : Event) → Is_in e (map (committing k) (people s c)) → (kind e ≡ 1) × (home e ≡ k)
    is1 e h = mapped_kind (committing k) 1 k (λ x. (refl, refl)) (people s c) e h

    from5 : (e : Event) → Is_in e l5 → From 5 e
    from5 e h = elim (in_append e (revealing s k (secrets c.pre)) l6 h) [
      | inl a ↦ exactly 5 e (omega arith) (is5 e a)
      | inr b ↦ lower 6 5 e (omega arith) (from6 e b)
    ]

    from4 : (e : Event) → Is_in e l4 → From 4 e
    from4 e (inl q) = exactly 4 e (omega arith) (ap kind q, ap home q)
    from4 e (inr h) = lower 5 4 e (omega arith) (from5 e h)

    from3 : (e : Event) → Is_in e l3 → From 3 e
    from3 e h = elim (in_append e (starting g k (persistent c.pre) (people s c)) l4 h) [
      | inl a ↦ exactly 3 e (omega arith) (is3 e a)
      | inr b ↦ lower 4 3 e (omega arith) (from4 e b)
    ]

    from2 : (e : Event) → Is_in e l2 → From 2 e
    from2 e h = elim (in_append e (endorsing s w k (people s c)) l3 h) [
      | inl a ↦ exactly 2 e (omega arith) (is2 e a)
      | inr b ↦ lower 3 2 e (omega arith) (from3 e b)
    ]

    from1 : (e : Event) → Is_in e l1 → From 1 e
    from1 e h = elim (in_append e (map (committing k) (people s c)) l2 h) [
      | inl a ↦ exactly 1 e (omega arith) (is1 e a)
      | inr b ↦ lower 2 1 e (omega arith) (from2 e b)
    ]

    from0 : (e : Event) → Is_in e (candidates s g w k c) → From 0 e
    from0 e (inl q) = exactly 0 e (omega arith) (ap kind q, ap home q)
    from0 e (inr h) = lower 1 0 e (omega arith) (from1 e h)

    below : (n : ℕ) (e : Event) → kind e ≡ n → From (n + 1) e → ⊥
    below n e h f = let a = f.at_least in absurd (omega (arith, h, a))

    people_apart : Apart (people s c)
    people_apart = apart_filter _ (participants c) (apart_added [] (map party_of c.pre ++ choice_mentions c.root) tt)

    candidates_apart : are_different (map name_in c.pre) ≡ true → Apart (candidates s g w k c)
    candidates_apart names =
        let a6 = actives_apart g (people s c) (actives_of g k) people_apart (filtered_ascends (λ (x : ActiveContract). x.number)
        (λ a. a.contract == k) g.active ordered) in
        let a5 = apart_append (revealing s k (secrets c.pre)) l6
        (apart_map (λ (x : List ℕ × List ℕ). events.Reveal k (x.1) (x.0)) (λ e. (secret_in e, who e)) (λ x. refl) _
        (apart_filter _ (secrets c.pre) (secrets_apart c.pre names))) a6 (λ e x y. below 5 e (is5 e x).0 (from6 e y)) in
        let a4 : Apart l4 = ((λ h. below 4 (events.FireInit k) refl (from5 (events.FireInit k) h)), a5) in
        let a3 = apart_append (starting g k (persistent c.pre) (people s c)) l4
        (apart_map (λ party. events.Init k party) who (λ x. refl) _ (apart_filter _ (people s c) people_apart)) a4
        (λ e x y. below 3 e (is3 e x).0 (from4 e y)) in
        let a2 = apart_append (endorsing s w k (people s c)) l3
        (apart_map (λ party. events.Endorse k party) who (λ x. refl) _ (apart_filter _ (people s c) people_apart)) a3
        (λ e x y. below 2 e (is2 e x).0 (from3 e y)) in
        let a1 = apart_append (map (committing k) (people s c)) l2
        (apart_map (committing k) who (λ x. refl) (people s c) people_apart) a2 (λ e x y. below 1 e (is1 e x).0 (from2 e y)) in
        ((λ h. below 0 (advertising g k c) refl (from1 (advertising g k c) h)), a1)

  -- ---- all contracts

  record Further (j : ℕ) (e : Event) : Type 0 where
    number : ℕ
    further : j ≤ number
    is : OfContract number e

  of_further : (j : ℕ) (cs : List Advert) (e : Event) → Is_in e (candidates_from s g w j cs) → Further j e
  of_further j [] e h = absurd h
  of_further j (c ∷ cs) e h = elim (in_append e (candidates s g w j c) (candidates_from s g w (j + 1) cs) h) [
    | inl a ↦ record { number = j; further = omega arith; is = (from0 j c e a).is }
    | inr b ↦ let f = of_further (j + 1) cs e b in record { number = f.number; further = omega (arith, f.further); is = f.is }
  ]

  -- no event is of two contracts
  one_contract : (k m : ℕ) (e : Event) → OfContract k e → OfContract m e → k ≡ m
  one_contract k m e (inl a) (inl b) = sym a.1 ∙ b.1
  one_contract k m e (inl a) (inr b) = let x = b.kinds in absurd (omega (arith, a.0, x))
  one_contract k m e (inr a) (inl b) = let x = a.kinds in absurd (omega (arith, b.0, x))
  one_contract k m e (inr a) (inr b) =
      let x = in_filter (λ (z : ActiveContract). z.contract == k) g.active a.active a.there in
      let y = in_filter (λ (z : ActiveContract). z.contract == m) g.active b.active b.there in
      let same = unique_at g.active a.active b.active ordered x.0 y.0 (sym a.here ∙ b.here) in
      sym (eqb-true a.active.contract k x.1) ∙ ap (λ (z : ActiveContract). z.contract) same ∙ eqb-true b.active.contract m y.1

  all_apart : (k : ℕ) (cs : List Advert) → AllByRecursion IsWellFormed cs → Apart (candidates_from s g w k cs)
  all_apart k [] h = tt
  all_apart k (c ∷ cs) h =
      apart_append (candidates s g w k c) (candidates_from s g w (k + 1) cs) (candidates_apart k c (different_names c h.0))
      (all_apart (k + 1) cs h.1)
      (λ e x y.
      let f = of_further (k + 1) cs e y in
      let same = one_contract k f.number e (from0 k c e x).is f.is in
      absurd (omega (arith, f.further, same)))

-- ---- runs

once_from : (es : List Event) → Apart es → EachOnce es
once_from [] h = tt
once_from (e ∷ es) h = (λ c. h.0 (in_from_contains es e c), once_from es h.1)

numbered_steps : (g : Configuration) (xs : List Step) → IsNumbered g → IsNumbered (after_steps g xs)
numbered_steps g [] h = h
numbered_steps g (x ∷ xs) h = numbered_steps (effect g x) xs (numbered_after g x h)

pub candidates_stand_once : CandidatesStandOnce
candidates_stand_once s es run =
    let g = last_configuration s es in
    let w = last_world s es in
    let z = run_posts s es in
    let tracks = (kept_at_end s (spends_with_leave s) (KeptAll s z) es (keeps_all s run.setup z) run.events
    (opening_all s es run z)).holds.honest.run.tracks in
    let sim = simulation s es run in
    let opened = opening_numbered s.header.parties s.header.honest s.header.deposits s.contracts in
    let numbered : IsNumbered g = subst IsNumbered sim.leads (numbered_steps (opening_configuration s) (in_order
    (translated s es)) opened) in
    once_from (all_candidates s g w) (all_apart s g w numbered.active 0 g.contracts
    (subst (λ cs. AllByRecursion IsWellFormed cs) (sym tracks.constant.contracts) run.setup.contracts))
