-- Which events are asked, and that what is said of an event is meant.
use Rattle.std.proofs.Common.{◌≡◌, ℕ, zero, suc, ◌+◌, List, [], ◌∷◌, ◌++◌, map, Bool, true, false, Some, refl, sym, ap, ◌∙◌, subst, inl, inr, ◌⊎◌, arith}
use Rattle.std.specs.Prelude.{not, ◌&&◌, ◌||◌, ◌==◌, slice_get}
use Rattle.std.specs.List.{Contains, flat_map, list_all}
use Rattle.std.specs.Str.{bytes_eq}
use Rattle.std.proofs.lemmas.Bool.{and_parts, and_from, false≢true}
use Rattle.std.proofs.lemmas.Bool.Decides.{nat_tests}
use Rattle.std.proofs.lemmas.Slice.Eq.{bytes_eq-Decides}
use Rattle.spec_terms.specs.Advert.{Advert}
use Rattle.spec_terms.specs.Core.{is_asked}
use Rattle.spec_terms.specs.Parties.{participants}
use Rattle.spec_terms.specs.Precondition.{Holding, persistent, secrets}
use Rattle.spec_terms.specs.Term as term
use Rattle.spec_calculus.specs.declared.parts.ActiveContract.{ActiveContract}
use Rattle.spec_calculus.specs.Configuration.{Configuration}
use Rattle.spec_calculus.specs.Beginning.{is_init_authorised}
use Rattle.spec_calculus.specs.Branches.{has_branch_authorised}
use Rattle.spec_calculus.specs.Offers.{branches_of}
use Rattle.spec_run.specs.declared.event.Event.{Event}
use Rattle.spec_run.specs.declared.event.Event.TheVariants as events
use Rattle.spec_run.specs.declared.outcome.Outcome.{Outcome}
use Rattle.spec_run.specs.declared.outcome.Outcome.TheVariants as outcomes
use Rattle.spec_run.specs.declared.outcome.Reason.{Reason}
use Rattle.spec_run.specs.Setup.{Setup, is_declared, is_honest}
use Rattle.spec_run.specs.World.{World}
use Rattle.spec_run.specs.Compiled.{compiled_instance}
use Rattle.spec_run.specs.Event.{event}
use Rattle.spec_run.specs.Pending.{Answer, Went, Halted}
use Rattle.spec_run.specs.Steps.{is_awaited}
use Rattle.spec_next.specs.declared.outlook.Ruling.{Ruling}
use Rattle.spec_next.specs.declared.outlook.Ruling.TheVariants as rulings
use Rattle.spec_next.specs.Candidates.{people, has_endorsed, has_started, committing, endorsing, starting}
use Rattle.spec_next.specs.Candidates.{revealing, authorising, taking, taking_active, actives_of, candidates}
use Rattle.spec_next.specs.Prospects.{ruling_by, ruling_of}
use Rattle.theory_calculus.specs.Members.{Is_in}
use Rattle.theory_calculus.proofs.Members.{in_left, in_right, in_append, in_filter, filter_has, in_from_contains, contains_from_in}
use Rattle.theory_next.specs.Asked.{RefusedWith, HaltsRun, RulingIsMeant, IsPerson, HasUnstarted, IsLiveBranch, IsAsked, EventsAreAsked}
use Rattle.theory_next.proofs.Complete.{in_flat_map, from_flat_map}
use Rattle.theory_next.proofs.Exact.{in_map, from_map}
use Rattle.theory_next.proofs.Said.{can_is_meant}

-- ---- what is said

abbrev cannot : Reason → Ruling
cannot reason = rulings.Cannot reason

outcome_refused : (o : Outcome) (reason : Reason) → ruling_by o ≡ cannot reason → o ≡ outcomes.Refused reason
outcome_refused outcomes.Done reason h = cc
outcome_refused (outcomes.Accepted spent made lock) reason h = cc
outcome_refused (outcomes.Refused other) reason h = let same : other ≡ reason = cc in ap (λ (r : Reason). outcomes.Refused r) same

outcome_no_halt : (o : Outcome) → ruling_by o ≡ rulings.Halts → ⊥
outcome_no_halt outcomes.Done h = cc
outcome_no_halt (outcomes.Accepted spent made lock) h = cc
outcome_no_halt (outcomes.Refused other) h = cc

module _ (s : Setup) (w : World) (e : Event) where
  refused : (reason : Reason) (a : Answer) → event s w e ≡ a → ruling_of a ≡ cannot reason → RefusedWith s w e reason
  refused reason (Halted halt) q h = cc
  refused reason (Went d next) q h = record { pending = d; next = next; went = q; refused = outcome_refused d.outcome reason h }

  halts : (a : Answer) → event s w e ≡ a → ruling_of a ≡ rulings.Halts → HaltsRun s w e
  halts (Halted halt) q h = record { halt = halt; halted = q }
  halts (Went d next) q h = absurd (outcome_no_halt d.outcome h)

  meant : RulingIsMeant s w e
  meant = record {
    can = can_is_meant s w e;
    cannot = λ reason. (
      λ h. refused reason (event s w e) refl h,
      λ (h : RefusedWith s w e reason). ap ruling_of h.went ∙ ap ruling_by h.refused,
    );
    halts = (λ h. halts (event s w e) refl h, λ (h : HaltsRun s w e). ap ruling_of h.halted);
  }

-- ---- tests

not_is : (b : Bool) → not b ≡ true → b ≡ false
not_is true h = absurd (false≢true h)
not_is false h = refl

same_number : (a b : ℕ) → (a == b) ≡ true → a ≡ b
same_number a b h = grind (arith, nat_tests)

number_same : (a b : ℕ) → a ≡ b → (a == b) ≡ true
number_same a b h = grind (arith, nat_tests)

module _ {A : Type 0} (f : A → Bool) where
  -- one of a list doesn't pass
  not_all : (xs : List A) → list_all f xs ≡ false → (x : A) × Is_in x xs × (f x ≡ false)
  not_all [] h = absurd (false≢true (sym h))
  not_all (x ∷ xs) h = by_first (f x) refl h (not_all xs)
    where
      by_first : (b : Bool) → f x ≡ b → (b && list_all f xs) ≡ false → (list_all f xs ≡ false → (y : A) × Is_in y xs × (f y ≡ false))
          → (y : A) × Is_in y (x ∷ xs) × (f y ≡ false)
      by_first false e k later = (x, inl refl, e)
      by_first true e k later = let r = later k in (r.0, inr (r.1), r.2)

  all_not : (xs : List A) (x : A) → Is_in x xs → f x ≡ false → list_all f xs ≡ false
  all_not [] x i e = absurd i
  all_not (y ∷ ys) x (inl same) e = ap (λ (b : Bool). b && list_all f ys) (ap f (sym same) ∙ e)
  all_not (y ∷ ys) x (inr i) e = by_first (f y) (all_not ys x i e)
    where
      by_first : (b : Bool) → list_all f ys ≡ false → (b && list_all f ys) ≡ false
      by_first true k = k
      by_first false k = refl

-- ---- branches

module _ (g : Configuration) (ps : List (List ℕ)) (n : ℕ) where
  record TakesAt (i : ℕ) (bs : List term.Guarded) (e : Event) : Type 0 where
    j : ℕ
    b : term.Guarded
    at : slice_get bs j ≡ Some b
    is : Is_in e (authorising g ps n (i + j) b) ⊎ (e ≡ events.Fire n (i + j))

  later : (i : ℕ) (b : term.Guarded) (bs : List term.Guarded) (e : Event) → TakesAt (i + 1) bs e → TakesAt i (b ∷ bs) e
  later i b bs e t =
      let same : i + 1 + t.j ≡ i + suc t.j = omega arith in
      record {
        j = suc t.j;
        b = t.b;
        at = t.at;
        is = subst (λ (m : ℕ). Is_in e (authorising g ps n m t.b) ⊎ (e ≡ events.Fire n m)) same t.is;
      }

  from_taking : (i : ℕ) (bs : List term.Guarded) (e : Event) → Is_in e (taking g ps n i bs) → TakesAt i bs e
  from_taking i [] e h = absurd h
  from_taking i (b ∷ bs) e h = by_part (in_append e (authorising g ps n i b) (events.Fire n i ∷ taking g ps n (i + 1) bs) h) (from_taking (i + 1) bs e)
    where
      here : i ≡ i + 0
      here = omega arith

      by_part : Is_in e (authorising g ps n i b) ⊎ ((e ≡ events.Fire n i) ⊎ Is_in e (taking g ps n (i + 1) bs))
          → (Is_in e (taking g ps n (i + 1) bs) → TakesAt (i + 1) bs e) → TakesAt i (b ∷ bs) e
      by_part (inl a) more =
          record { j = 0; b = b; at = refl; is = inl (subst (λ (m : ℕ). Is_in e (authorising g ps n m b)) here a) }
      by_part (inr (inl f)) more =
          record { j = 0; b = b; at = refl; is = inr (f ∙ ap (λ (m : ℕ). events.Fire n m) here) }
      by_part (inr (inr t)) more = later i b bs e (more t)

  to_taking : (i : ℕ) (bs : List term.Guarded) (e : Event) (j : ℕ) (b : term.Guarded) → slice_get bs j ≡ Some b
      → Is_in e (authorising g ps n (i + j) b) ⊎ (e ≡ events.Fire n (i + j)) → Is_in e (taking g ps n i bs)
  to_taking i [] e j b at t = cc
  to_taking i (c ∷ bs) e zero b at t = by_part (subst (λ (m : ℕ). Is_in e (authorising g ps n m b) ⊎ (e ≡ events.Fire n m)) here t)
    where
      here : i + 0 ≡ i
      here = omega arith

      by_part : Is_in e (authorising g ps n i b) ⊎ (e ≡ events.Fire n i) → Is_in e (authorising g ps n i c ++ events.Fire n i ∷ taking g ps n (i + 1) bs)
      by_part (inl a) =
          let same : b ≡ c = cc in
          in_left e (authorising g ps n i c) _ (subst (λ (x : term.Guarded). Is_in e (authorising g ps n i x)) same a)
      by_part (inr f) = in_right e (authorising g ps n i c) _ (inl f)
  to_taking i (c ∷ bs) e (suc j) b at t =
      let same : i + suc j ≡ i + 1 + j = omega arith in
      in_right e (authorising g ps n i c) _
      (inr (to_taking (i + 1) bs e j b at (subst (λ (m : ℕ). Is_in e (authorising g ps n m b) ⊎ (e ≡ events.Fire n m)) same t)))

-- ---- one contract

module _ (s : Setup) (g : Configuration) (w : World) (k : ℕ) (advert : Advert) where
  abbrev Asked : Event → Type 0
  Asked e = IsAsked s g w k advert e

  abbrev all : List (List ℕ)
  all = people s advert

  person : (party : List ℕ) → Is_in party all → IsPerson s advert party
  person party i =
      let f = in_filter (λ p. is_declared s p) (participants advert) party i in
      record { participant = contains_from_in (participants advert) party f.0; declared = f.1 }

  is_person : (party : List ℕ) → IsPerson s advert party → Is_in party all
  is_person party p =
      filter_has (λ q. is_declared s q) (participants advert) party (in_from_contains (participants advert) party p.participant) p.declared

  -- ---- the parts of the list

  abbrev branches : List Event
  branches = flat_map (taking_active g all) (actives_of g k)

  abbrev reveals : List Event
  reveals = revealing s k (secrets advert.pre)

  abbrev starts : List Event
  starts = starting g k (persistent advert.pre) all

  abbrev endorses : List Event
  endorses = endorsing s w k all

  abbrev commits : List Event
  commits = map (committing k) all

  commits_asked : (e : Event) → Is_in e commits → Asked e
  commits_asked e i =
      let m = from_map (committing k) all e i in subst Asked (sym m.2) (refl, refl, person m.0 m.1)

  endorses_asked : (e : Event) → Is_in e endorses → Asked e
  endorses_asked e i =
      let m = from_map (λ party. events.Endorse k party) _ e i in
      let f = in_filter (λ party. not (has_endorsed s w (compiled_instance s w k) party)) all m.0 m.1 in
      subst Asked (sym m.2) (refl, person m.0 f.0, not_is _ f.1)

  abbrev lets : List ℕ → List ℕ × Holding → Bool
  lets party d = not (bytes_eq (d.1).owner party) || is_init_authorised g.init_authorised k (d.0)

  unstarted : (party : List ℕ) (d : List ℕ × Holding) → Is_in d (persistent advert.pre) → lets party d ≡ false → HasUnstarted g k advert party
  unstarted party d i h = by_owner (bytes_eq (d.1).owner party) refl h
    where
      by_owner : (b : Bool) → bytes_eq (d.1).owner party ≡ b → (not b || is_init_authorised g.init_authorised k (d.0)) ≡ false
          → HasUnstarted g k advert party
      by_owner true e f = record {
        name = d.0;
        holding = d.1;
        there = contains_from_in (persistent advert.pre) d i;
        owner = (bytes_eq-Decides (d.1).owner party).0 e;
        unstarted = f;
      }
      by_owner false e f = absurd (false≢true (sym f))

  started_not : (party : List ℕ) → HasUnstarted g k advert party → has_started g k (persistent advert.pre) party ≡ false
  started_not party u =
      all_not (lets party) (persistent advert.pre) (u.name, u.holding) (in_from_contains (persistent advert.pre) (u.name, u.holding) u.there)
      (ap (λ (b : Bool). not b || is_init_authorised g.init_authorised k u.name) ((bytes_eq-Decides u.holding.owner party).1 u.owner) ∙ u.unstarted)

  starts_asked : (e : Event) → Is_in e starts → Asked e
  starts_asked e i =
      let m = from_map (λ party. events.Init k party) _ e i in
      let f = in_filter (λ party. not (has_started g k (persistent advert.pre) party)) all m.0 m.1 in
      let d = not_all (lets m.0) (persistent advert.pre) (not_is _ f.1) in
      subst Asked (sym m.2) (refl, person m.0 f.0, unstarted m.0 d.0 d.1 d.2)

  reveals_asked : (e : Event) → Is_in e reveals → Asked e
  reveals_asked e i =
      let m = from_map (λ (x : List ℕ × List ℕ). events.Reveal k (x.1) (x.0)) _ e i in
      let f = in_filter (λ (x : List ℕ × List ℕ). is_honest s (x.1)) (secrets advert.pre) m.0 m.1 in
      subst Asked (sym m.2) (refl, contains_from_in (secrets advert.pre) m.0 f.0, f.1)

  branches_asked : (e : Event) → Is_in e branches → Asked e
  branches_asked e i =
      let c = from_flat_map (taking_active g all) (actives_of g k) e i in
      let a = c.from in
      let f = in_filter (λ (x : ActiveContract). x.contract == k) g.active a c.there in
      let t = from_taking g all a.number 0 (branches_of g.contracts a) e c.made in
      let zero_more : 0 + t.j ≡ t.j = omega arith in
      by_part a (contains_from_in g.active a f.0) (same_number a.contract k f.1) t.j t.b t.at
      (subst (λ (m : ℕ). Is_in e (authorising g all a.number m t.b) ⊎ (e ≡ events.Fire a.number m)) zero_more t.is)
    where
      by_part : (a : ActiveContract) → Contains g.active a → a.contract ≡ k → (j : ℕ) (b : term.Guarded)
          → slice_get (branches_of g.contracts a) j ≡ Some b
          → Is_in e (authorising g all a.number j b) ⊎ (e ≡ events.Fire a.number j) → Asked e
      by_part a live of_k j b at (inl x) =
          let m = from_map (λ party. events.Authorise party a.number j) _ e x in
          let f = in_filter (λ party. is_awaited g a.number j b party) all m.0 m.1 in
          let p = and_parts (is_asked b m.0) (not (has_branch_authorised g.branch_authorised a.number j m.0)) f.1 in
          subst Asked (sym m.2) (
            person m.0 f.0,
            record {
              b = b;
              live = record { active = a; live = live; contract = of_k; number = refl; branch = at };
              asked = p.0;
              unauthorised = not_is _ p.1;
            },
          )
      by_part a live of_k j b at (inr x) =
          subst Asked (sym x) (b, record { active = a; live = live; contract = of_k; number = refl; branch = at })

  forth : (e : Event) → Is_in e (candidates s g w k advert) → Asked e
  forth e (inl a) = subst Asked (sym a) (refl, refl)
  forth e (inr h) = by_commits (in_append e commits _ h)
    where
      by_reveals : Is_in e reveals ⊎ Is_in e branches → Asked e
      by_reveals (inl i) = reveals_asked e i
      by_reveals (inr i) = branches_asked e i

      by_begin : (e ≡ events.FireInit k) ⊎ Is_in e (reveals ++ branches) → Asked e
      by_begin (inl a) = subst Asked (sym a) refl
      by_begin (inr i) = by_reveals (in_append e reveals branches i)

      by_starts : Is_in e starts ⊎ Is_in e (events.FireInit k ∷ (reveals ++ branches)) → Asked e
      by_starts (inl i) = starts_asked e i
      by_starts (inr i) = by_begin i

      by_endorses : Is_in e endorses ⊎ Is_in e (starts ++ (events.FireInit k ∷ (reveals ++ branches))) → Asked e
      by_endorses (inl i) = endorses_asked e i
      by_endorses (inr i) = by_starts (in_append e starts _ i)

      by_commits : Is_in e commits ⊎ Is_in e (endorses ++ (starts ++ (events.FireInit k ∷ (reveals ++ branches)))) → Asked e
      by_commits (inl i) = commits_asked e i
      by_commits (inr i) = by_endorses (in_append e endorses _ i)

  -- ---- and back

  abbrev behind_starts : List Event
  behind_starts = events.FireInit k ∷ (reveals ++ branches)

  abbrev behind_endorses : List Event
  behind_endorses = starts ++ behind_starts

  abbrev behind_commits : List Event
  behind_commits = endorses ++ behind_endorses

  from_endorses : (e : Event) → Is_in e behind_commits → Is_in e (candidates s g w k advert)
  from_endorses e i = inr (in_right e commits behind_commits i)

  from_starts : (e : Event) → Is_in e behind_endorses → Is_in e (candidates s g w k advert)
  from_starts e i = from_endorses e (in_right e endorses behind_endorses i)

  from_begin : (e : Event) → Is_in e behind_starts → Is_in e (candidates s g w k advert)
  from_begin e i = from_starts e (in_right e starts behind_starts i)

  from_branches : (e : Event) → Is_in e branches → Is_in e (candidates s g w k advert)
  from_branches e i = from_begin e (inr (in_right e reveals branches i))

  live_taken : (n i : ℕ) (b : term.Guarded) (e : Event) (l : IsLiveBranch g k n i b)
      → Is_in e (authorising g all l.active.number i b) ⊎ (e ≡ events.Fire l.active.number i) → Is_in e branches
  live_taken n i b e l t =
      let same : i ≡ 0 + i = omega arith in
      in_flat_map (taking_active g all) (actives_of g k) l.active e
      (filter_has (λ (x : ActiveContract). x.contract == k) g.active l.active (in_from_contains g.active l.active l.live)
      (number_same l.active.contract k l.contract))
      (to_taking g all l.active.number 0 (branches_of g.contracts l.active) e i b l.branch
      (subst (λ (m : ℕ). Is_in e (authorising g all l.active.number m b) ⊎ (e ≡ events.Fire l.active.number m)) same t))

  back : (e : Event) → Asked e → Is_in e (candidates s g w k advert)
  back (events.Advertise j bindings) (e, f) = inl (λ i. events.Advertise (e i) (f i))
  back (events.Commit j party digests) (e, f, p) =
      inr (in_left (events.Commit j party digests) commits behind_commits
      (subst (λ (x : Event). Is_in x commits) (sym (λ i. events.Commit (e i) party (f i))) (in_map (committing k) all party (is_person party p))))
  back (events.Endorse j party) (e, p, f) =
      from_endorses (events.Endorse j party) (in_left (events.Endorse j party) endorses behind_endorses
      (subst (λ (x : Event). Is_in x endorses) (sym (λ i. events.Endorse (e i) party))
      (in_map (λ q. events.Endorse k q) _ party
      (filter_has (λ q. not (has_endorsed s w (compiled_instance s w k) q)) all party (is_person party p) (ap not f)))))
  back (events.Init j party) (e, p, u) =
      from_starts (events.Init j party) (in_left (events.Init j party) starts behind_starts
      (subst (λ (x : Event). Is_in x starts) (sym (λ i. events.Init (e i) party))
      (in_map (λ q. events.Init k q) _ party
      (filter_has (λ q. not (has_started g k (persistent advert.pre) q)) all party (is_person party p) (ap not (started_not party u))))))
  back (events.FireInit j) e = from_begin (events.FireInit j) (inl (λ i. events.FireInit (e i)))
  back (events.Reveal j party secret) (e, there, honest) =
      from_begin (events.Reveal j party secret) (inr (in_left (events.Reveal j party secret) reveals branches
      (subst (λ (x : Event). Is_in x reveals) (sym (λ i. events.Reveal (e i) party secret))
      (in_map (λ (x : List ℕ × List ℕ). events.Reveal k (x.1) (x.0)) _ (secret, party)
      (filter_has (λ (x : List ℕ × List ℕ). is_honest s (x.1)) (secrets advert.pre) (secret, party)
      (in_from_contains (secrets advert.pre) (secret, party) there) honest)))))
  back (events.Authorise party n j) (p, a) =
      from_branches (events.Authorise party n j) (live_taken n j a.b (events.Authorise party n j) a.live
      (inl (subst (λ (m : ℕ). Is_in (events.Authorise party n j) (authorising g all m j a.b)) (sym a.live.number)
      (in_map (λ q. events.Authorise q n j) _ party
      (filter_has (λ q. is_awaited g n j a.b q) all party (is_person party p)
      (and_from (is_asked a.b party) (not (has_branch_authorised g.branch_authorised n j party)) a.asked (ap not a.unauthorised)))))))
  back (events.Fire n j) (b, l) =
      from_branches (events.Fire n j) (live_taken n j b (events.Fire n j) l (inr (ap (λ (m : ℕ). events.Fire m j) (sym l.number))))
  back (events.Post bytes) f = absurd f
  back (events.Sign party label digest) f = absurd f
  back (events.Give party inputs outputs) f = absurd f
  back (events.Append bytes) f = absurd f
  back (events.Mine blocks) f = absurd f

pub events_asked : EventsAreAsked
events_asked = record {
  asked = λ s g w k advert e. (
    λ h. forth s g w k advert e (in_from_contains (candidates s g w k advert) e h),
    λ a. contains_from_in (candidates s g w k advert) e (back s g w k advert e a),
  );
  meant = meant;
}
