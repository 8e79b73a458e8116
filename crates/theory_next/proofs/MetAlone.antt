-- Where one thing alone is missing for a branch and is met, the branch can be taken.
use Rattle.std.proofs.Common.{◌≡◌, ℕ, ◌+◌, ◌-◌, ◌<◌, ◌≤◌, List, [], ◌∷◌, ◌++◌, Bool, true, false, Option, Some, None, refl, sym, ap, ◌∙◌}
use Rattle.std.proofs.Common.{subst, arith, inl, inr, ◌⊎◌}
use Rattle.std.specs.Prelude.{not, cond, if◌then◌else◌, nat_le, is_some, slice_get}
use Rattle.std.specs.Option.{option_and_then}
use Rattle.std.proofs.lemmas.Bool.{le-leb, and_from, and_parts, or_left, or_right}
use Rattle.std.specs.Str.{bytes_eq}
use Rattle.spec_data.specs.Lists.{is_among, look_up, first_reason}
use Rattle.spec_data.specs.Ranges.{last_height}
use Rattle.spec_terms.specs.Advert.{Advert}
use Rattle.spec_terms.specs.Core.{core, asks, lock, puts_of, reveals_of}
use Rattle.spec_terms.specs.Precondition.{secrets}
use Rattle.spec_terms.specs.Term as term
use Rattle.spec_terms.specs.declared.pre.Pre.{Pre}
use Rattle.spec_calculus.specs.declared.parts.BranchAuthorisation.{BranchAuthorisation}
use Rattle.spec_calculus.specs.Configuration.{Configuration}
use Rattle.spec_calculus.specs.Beginning.{contract_at, pre_of}
use Rattle.spec_calculus.specs.Branches.{active_at, advert_of, branch_of, contract_number, has_branch_authorised}
use Rattle.spec_calculus.specs.Steps.{branch_at, with_branch}
use Rattle.spec_run.specs.declared.event.Event.{Event}
use Rattle.spec_run.specs.declared.event.Event.TheVariants as events
use Rattle.spec_run.specs.declared.outcome.Reason.TheVariants as reason
use Rattle.spec_run.specs.Setup.{Setup, is_declared}
use Rattle.spec_run.specs.World.{ContractPosition, Output, World, live_position, live_position_at}
use Rattle.spec_run.specs.Pending.{done, unless}
use Rattle.spec_run.specs.Event.{mine_row, pending}
use Rattle.spec_run.specs.Ledger.{position_branch}
use Rattle.spec_run.specs.Signing.{with_pairs, asked_by, branch_if_live, authorising_pairs, authorise_row}
use Rattle.spec_run.specs.Translation.{last_configuration, last_world, first_halt}
use Rattle.spec_run.specs.Agreement.{active_in, active_by}
use Rattle.spec_run.specs.Statements.{IsRun, spends_with_leave}
use Rattle.spec_next.specs.declared.requirement.Requirement.{Requirement}
use Rattle.spec_next.specs.declared.requirement.Requirement.TheVariants as requirements
use Rattle.spec_next.specs.Requirements.{Condition, authorised, put_in, secret_requirement, revealed, undecided_or_true, asked_for, asked_by_branch, unmet}
use Rattle.theory_calculus.specs.Members.{Is_in}
use Rattle.theory_calculus.proofs.Names.{bytes_refl}
use Rattle.theory_calculus.proofs.Members.{in_left, in_right, in_append, in_from_contains, contains_from_in}
use Rattle.theory_world.proofs.Tests.{any-append}
use Rattle.theory_world.proofs.Staying.{branch_new}
use Rattle.theory_world.proofs.Ledger.Outputs.{active-at}
use Rattle.theory_run.specs.Tracks.{Tracks}
use Rattle.theory_run.proofs.Following.{run_posts, kept_at_end}
use Rattle.theory_offers.proofs.WholeRun.{KeptAll, opening_all, keeps_all}
use Rattle.theory_next.specs.MetAlone.{IsAlone, AloneOutstanding, TurnsAround, MetAloneTheorem}
use Rattle.theory_next.proofs.Exact.{from_map, in_map, fails_in, is_failing}
use Rattle.theory_next.proofs.Ready.{Enabled, met, branch_enabled, enabled_comes}
use Rattle.theory_next.proofs.OneMore as one_more

-- ---- conditions

all_from : (cs : List Condition) → ((c : Condition) → Is_in c cs → c.0 ≡ true) → met cs ≡ true
all_from [] h = refl
all_from (c ∷ cs) h = and_from (c.0) (met cs) (h c (inl refl)) (all_from cs (λ d i. h d (inr i)))

met_both : (xs ys : List Condition) → met xs ≡ true → met ys ≡ true → met (xs ++ ys) ≡ true
met_both [] ys h k = k
met_both (x ∷ xs) ys h k =
    let p = and_parts (x.0) (met xs) h in and_from (x.0) (met (xs ++ ys)) p.0 (met_both xs ys p.1 k)

-- where this alone is unmet, each condition is met or is for it
met_or : (cs : List Condition) (x : Requirement) → IsAlone x (unmet cs) → (c : Condition) → Is_in c cs → (c.0 ≡ true) ⊎ (c.1 ≡ x)
met_or cs x a c i = by_test (c.0) refl
  where
    by_test : (b : Bool) → c.0 ≡ b → (c.0 ≡ true) ⊎ (c.1 ≡ x)
    by_test true e = inl e
    by_test false e = inr (a.alone (c.1) (contains_from_in (unmet cs) (c.1) (fails_in cs c i e)))

-- ---- authorisations

branch_more : (given : List BranchAuthorisation) (p : List ℕ) (o j n i : ℕ) (a : List ℕ) → has_branch_authorised given n i a ≡ true
    → has_branch_authorised (with_branch given p o j) n i a ≡ true
branch_more given p o j n i a h = by_test (has_branch_authorised given o j p)
  where
    by_test : (b : Bool)
        → has_branch_authorised (cond b given (given ++ record { party = p; output = o; branch = j } ∷ [])) n i a ≡ true
    by_test true = h
    by_test false = any-append _ given (record { party = p; output = o; branch = j } ∷ []) ∙ or_left _ _ h

-- the party of an authorisation
abbrev party_in : Requirement → List ℕ
party_in (requirements.Authorisation party n i) = party
party_in _ = []

-- the height that is missing
abbrev height_in : Requirement → ℕ
height_in (requirements.Height t m) = t
height_in _ = 0

-- the blocks that lead to it
abbrev blocks_in : Requirement → ℕ
blocks_in (requirements.Height t m) = m
blocks_in _ = 0

-- ---- the conditions of a branch, in their parts

module _ (honest : List (List ℕ)) (g : Configuration) (n i k : ℕ) (pre : List Pre) (b : term.Guarded) (x : Requirement) where
  abbrev all : List Condition
  all = asked_for honest g n i k pre b

  abbrev behind_asks : List Condition
  behind_asks = put_in g k (puts_of (core b)) ++ (revealed honest g k pre (reveals_of (core b)) ++ (
    undecided_or_true g k pre
        (core b),
    requirements.Predicate,
  ) ∷ [])

  -- whether it is no need of a put, a secret or a predicate
  record IsOther : Type 0 where
    no_put : (y : List ℕ) → requirements.Put y ≡ x → ⊥
    no_secret : (p y : List ℕ) → requirements.Secret p k y ≡ x → ⊥
    no_posted : (p y : List ℕ) → requirements.Posted p y ≡ x → ⊥
    no_predicate : requirements.Predicate ≡ x → ⊥

  module _ (a : IsAlone x (unmet all)) (o : IsOther) where
    in_behind : (c : Condition) → Is_in c behind_asks → Is_in c all
    in_behind c h = inr (in_right c (authorised g n i (asks b)) behind_asks h)

    none : (c : Condition) → Is_in c behind_asks → c.1 ≡ x → ⊥
    none c h e = elim (in_append c (put_in g k (puts_of (core b))) _ h) [
      | inl p ↦ is_put c p e
      | inr q ↦ elim (in_append c (revealed honest g k pre (reveals_of (core b))) _ q) [
        | inl r ↦ is_secret c r e
        | inr (inl t) ↦ o.no_predicate (sym (ap (λ (d : Condition). d.1) t) ∙ e)
        | inr (inr t) ↦ absurd t
      ]
    ]
      where
        is_put : (c : Condition) → Is_in c (put_in g k (puts_of (core b))) → c.1 ≡ x → ⊥
        is_put c h e = let m = from_map _ (puts_of (core b)) c h in o.no_put m.0 (sym (ap (λ (d : Condition). d.1) m.2) ∙ e)

        is_secret : (c : Condition) → Is_in c (revealed honest g k pre (reveals_of (core b))) → c.1 ≡ x → ⊥
        is_secret c h e =
            let m = from_map _ (reveals_of (core b)) c h in
            by_owner (look_up m.0 (secrets pre)) m.0 (sym (ap (λ (d : Condition). d.1) m.2) ∙ e)
          where
            by_owner : (owner : Option (List ℕ)) (y : List ℕ) → secret_requirement honest k owner y ≡ x → ⊥
            by_owner None y q = o.no_predicate q
            by_owner (Some p) y q = by_honesty (is_among p honest) q
              where
                by_honesty : (h : Bool) → (if h then requirements.Secret p k y else requirements.Posted p y) ≡ x → ⊥
                by_honesty true e = o.no_secret p y e
                by_honesty false e = o.no_posted p y e

    behind_met : met behind_asks ≡ true
    behind_met = all_from behind_asks (λ c h. by_or c h (met_or all x a c (in_behind c h)))
      where
        by_or : (c : Condition) → Is_in c behind_asks → (c.0 ≡ true) ⊎ (c.1 ≡ x) → c.0 ≡ true
        by_or c h (inl e) = e
        by_or c h (inr e) = absurd (none c h e)

-- ---- the world

among_in : (p : List ℕ) (ps : List (List ℕ)) → Is_in p ps → is_among p ps ≡ true
among_in p [] h = absurd h
among_in p (q ∷ ps) (inl e) = or_left _ _ (subst (λ y. bytes_eq y p ≡ true) e (bytes_refl p))
among_in p (q ∷ ps) (inr i) = or_right (bytes_eq q p) _ (among_in p ps i)

three : {R : Type 0} (a b c : Bool) (x y z : R) → a ≡ true → b ≡ true → c ≡ true
    → first_reason ((not a, x) ∷ (not b, y) ∷ (not c, z) ∷ []) ≡ None
three true true true x y z e f h = refl
three true true false x y z e f h = cc
three true false c x y z e f h = cc
three false b c x y z e f h = cc

module _ (s : Setup) (es : List Event) (run : IsRun s es) (on : first_halt s es ≡ None) where
  abbrev g : Configuration
  g = last_configuration s es

  abbrev w : World
  w = last_world s es

  tracks : Tracks s (run_posts s es) g w
  tracks =
      let z = run_posts s es in
      (kept_at_end s (spends_with_leave s) (KeptAll s z) es (keeps_all s run.setup z) run.events
      (opening_all s es run z)).holds.honest.run.tracks

  -- a branch of an active contract is one of what is held
  pub branch_held : (n i : ℕ) (b : term.Guarded) → branch_at g n i ≡ Some b
      → (held : ContractPosition) × (live_position_at w n ≡ Some held) × (position_branch s held i ≡ Some b)
  branch_held n i b h = by_output (slice_get w.outputs n) refl (sym (ap (λ a. branch_of g.contracts a i) look) ∙ h)
    where
      look : active_at g.active n ≡ option_and_then (active_in n) (slice_get w.outputs n)
      look = ap (λ xs. active_at xs n) tracks.money.active ∙ active-at n w.outputs

      same : (held : ContractPosition) (v : ℕ) (cs : List Advert) → cs ≡ s.contracts
          → branch_of cs (Some (record { number = n; contract = held.contract; position = held.position; balance = v })) i ≡
          position_branch s held i
      same held v cs e = by_contract (contract_at s.contracts held.contract) refl
        where
          by_contract : (o : Option Advert) → contract_at s.contracts held.contract ≡ o
              → branch_of cs (Some (record { number = n; contract = held.contract; position = held.position; balance = v })) i ≡
              position_branch s held i
          by_contract None c = rw (e, c) refl
          by_contract (Some a) c = rw (e, c) refl

      by_position : (v : ℕ) (p : Option ContractPosition) → live_position_at w n ≡ p → branch_of g.contracts (active_by n v p) i ≡ Some b
          → (held : ContractPosition) × (live_position_at w n ≡ Some held) × (position_branch s held i ≡ Some b)
      by_position v None e q = cc
      by_position v (Some held) e q = (held, e, sym (same held v g.contracts tracks.constant.contracts) ∙ q)

      by_output : (r : Option Output) → slice_get w.outputs n ≡ r → branch_of g.contracts (option_and_then (active_in n) r) i ≡ Some b
          → (held : ContractPosition) × (live_position_at w n ≡ Some held) × (position_branch s held i ≡ Some b)
      by_output None e q = cc
      by_output (Some o) e q = by_position o.value (live_position (Some o)) (ap live_position e) q

  -- ---- an authorisation

  module _ (party : List ℕ) (n i : ℕ) (declared : is_declared s party ≡ true) where
    abbrev pub signing : Event
    signing = events.Authorise party n i

    abbrev pub signed_world : World
    signed_world = with_pairs w (authorising_pairs s w party (live_position_at w n) i)

    module _ (b : term.Guarded) (here : branch_at g n i ≡ Some b) (among : is_among party (asks b) ≡ true) where
      pub is_done : pending s w signing ≡ done signed_world []
      is_done =
          let h = branch_held n i b here in
          let l : branch_if_live s (live_position_at w n) i ≡ Some b = ap (λ p. branch_if_live s p i) h.1 ∙ h.2 in
          let clear : first_reason (authorise_row s w party n i) ≡ None =
          three _ _ _ _ _ _ (ap is_some h.1) (ap is_some l) (ap (λ o. is_among party (asked_by o)) l ∙ among) in
          ap (λ r. unless r w [] (done signed_world [])) clear

    abbrev outstanding : Requirement
    outstanding = requirements.Authorisation party n i

    abbrev signed_configuration : Configuration
    signed_configuration = record g { branch_authorised = with_branch g.branch_authorised party n i }

    abbrev number : ℕ
    number = contract_number (active_at g.active n)

    abbrev entries : List Pre
    entries = pre_of (advert_of g.contracts (active_at g.active n))

    other : (b : term.Guarded) → IsOther s.header.honest g n i number entries b outstanding
    other b = record { no_put = λ y e. cc; no_secret = λ p y e. cc; no_posted = λ p y e. cc; no_predicate = λ e. cc }

    asked : (b : term.Guarded) → IsAlone outstanding (unmet (asked_for s.header.honest g n i number entries b)) → is_among party (asks b) ≡ true
    asked b a =
        let f = is_failing (asked_for s.header.honest g n i number entries b) outstanding (in_from_contains (unmet
        (asked_for s.header.honest g n i number entries b)) outstanding a.there) in
        by_place f.condition (in_from_contains (asked_for s.header.honest g n i number entries b) f.condition f.there) f.outstanding
      where
        by_place : (c : Condition) → Is_in c (asked_for s.header.honest g n i number entries b) → c.1 ≡ outstanding → is_among party (asks b) ≡ true
        by_place c (inl e) q = let z : requirements.Height (lock b) (lock b - g.time) ≡ outstanding = sym (ap (λ (d : Condition). d.1) e) ∙ q in cc
        by_place c (inr h) q = elim (in_append c (authorised g n i (asks b)) _ h) [
          | inl r ↦
              let m = from_map _ (asks b) c r in
              let z : m.0 ≡ party = ap party_in (sym (ap (λ (d : Condition). d.1) m.2) ∙ q) in
              subst (λ p. is_among p (asks b) ≡ true) z (among_in m.0 (asks b) m.1)
          | inr r ↦ absurd (none s.header.honest g n i number entries b outstanding a (other b) c r q)
        ]

    all_signed : (b : term.Guarded) → IsAlone outstanding (unmet (asked_for s.header.honest g n i number entries b))
        → met (asked_for s.header.honest signed_configuration n i number entries b) ≡ true
    all_signed b a =
        let cs = asked_for s.header.honest g n i number entries b in
        let height : nat_le (lock b) g.time ≡ true = by_height (met_or cs outstanding a (
          nat_le (lock b) g.time,
          requirements.Height (lock b) (lock b - g.time),
        ) (inl refl)) in
        and_from _ _ height (met_both (authorised signed_configuration n i (asks b)) _ (all_from
        (authorised signed_configuration n i (asks b)) each)
        (behind_met s.header.honest g n i number entries b outstanding a (other b)))
      where
        by_height : (nat_le (lock b) g.time ≡ true) ⊎ (requirements.Height (lock b) (lock b - g.time) ≡ outstanding) → nat_le (lock b) g.time ≡ true
        by_height (inl e) = e
        by_height (inr e) = cc

        by_party : (p : List ℕ) → (has_branch_authorised g.branch_authorised n i p ≡ true) ⊎ (requirements.Authorisation p n i ≡ outstanding)
            → has_branch_authorised signed_configuration.branch_authorised n i p ≡ true
        by_party p (inl e) = branch_more g.branch_authorised party n i n i p e
        by_party p (inr e) =
            subst (λ q. has_branch_authorised signed_configuration.branch_authorised n i q ≡ true) (sym (ap party_in e))
            (branch_new g.branch_authorised party n i)

        each : (c : Condition) → Is_in c (authorised signed_configuration n i (asks b)) → c.0 ≡ true
        each c h =
            let m = from_map _ (asks b) c h in
            let there = in_map (λ p. (has_branch_authorised g.branch_authorised n i p, requirements.Authorisation p n i)) (asks b) m.0 m.1 in
            ap (λ (d : Condition). d.0) m.2
            ∙ by_party m.0 (met_or (asked_for s.header.honest g n i number entries b) outstanding a _ (inr (in_left _ (authorised g n i (asks b)) _ there)))

    by_branch : (o : Option term.Guarded) → branch_at g n i ≡ o → IsAlone outstanding (unmet (asked_by_branch s.header.honest g n i (active_at g.active n) o))
        → TurnsAround s es signing n i
    by_branch None here a = absurd (in_from_contains [] outstanding a.there)
    by_branch (Some b) here a =
        let d = is_done b here (asked b a) in
        let longer = one_more.is_run s es run on signing declared signed_world d in
        let enabled = branch_enabled s.header.honest signed_configuration n i (Some b) here refl (all_signed b a) in
        record {
          can = one_more.can s es run on signing declared signed_world d;
          is_run = longer;
          goes_on = one_more.goes_on s es run on signing declared signed_world d;
          comes = enabled_comes s (es ++ signing ∷ []) longer (events.Fire n i)
              (subst (λ c. Enabled c (events.Fire n i)) (sym (one_more.last_configuration_is s es run on signing declared
              signed_world d)) enabled);
        }

    pub authorisation_met : AloneOutstanding s es n i outstanding → TurnsAround s es signing n i
    authorisation_met a = by_branch (branch_at g n i) refl a

  -- ---- a height

  module _ (t blocks n i : ℕ) (in_reach : nat_le t last_height ≡ true) where
    abbrev mining : Event
    mining = events.Mine blocks

    abbrev later_world : World
    later_world = record w { tip = w.tip + blocks }

    abbrev later_configuration : Configuration
    later_configuration = record g { time = g.time + blocks }

    abbrev reaching : Requirement
    reaching = requirements.Height t blocks

    abbrev contract : ℕ
    contract = contract_number (active_at g.active n)

    abbrev pres : List Pre
    pres = pre_of (advert_of g.contracts (active_at g.active n))

    rest_other : (b : term.Guarded) → IsOther s.header.honest g n i contract pres b reaching
    rest_other b = record { no_put = λ y e. cc; no_secret = λ p y e. cc; no_posted = λ p y e. cc; no_predicate = λ e. cc }

    -- the height that is missing is that of the branch, and it isn't reached
    record Awaits (b : term.Guarded) : Type 0 where
      is_lock : lock b ≡ t
      is_blocks : lock b - g.time ≡ blocks
      ahead : nat_le (lock b) g.time ≡ false

    awaited : (b : term.Guarded) → IsAlone reaching (unmet (asked_for s.header.honest g n i contract pres b)) → Awaits b
    awaited b a =
        let f = is_failing (asked_for s.header.honest g n i contract pres b) reaching (in_from_contains (unmet
        (asked_for s.header.honest g n i contract pres b)) reaching a.there) in
        by_place f.condition (in_from_contains (asked_for s.header.honest g n i contract pres b) f.condition f.there) f.outstanding f.fails
      where
        by_place : (c : Condition) → Is_in c (asked_for s.header.honest g n i contract pres b) → c.1 ≡ reaching → c.0 ≡ false → Awaits b
        by_place c (inl e) q z = record {
          is_lock = ap height_in (sym (ap (λ (d : Condition). d.1) e) ∙ q);
          is_blocks = ap blocks_in (sym (ap (λ (d : Condition). d.1) e) ∙ q);
          ahead = sym (ap (λ (d : Condition). d.0) e) ∙ z;
        }
        by_place c (inr h) q z = elim (in_append c (authorised g n i (asks b)) _ h) [
          | inl r ↦
              let m = from_map _ (asks b) c r in
              let no : requirements.Authorisation m.0 n i ≡ reaching = sym (ap (λ (d : Condition). d.1) m.2) ∙ q in cc
          | inr r ↦ absurd (none s.header.honest g n i contract pres b reaching a (rest_other b) c r q)
        ]

    module _ (b : term.Guarded) (awaits : Awaits b) where
      below : g.time < t
      below = let e = awaits.is_lock in let h = awaits.ahead in grind arith

      same_time : g.time ≡ w.tip
      same_time = tracks.money.time

      reaches_it : w.tip + blocks ≡ t
      reaches_it = let e = awaits.is_lock in let h = awaits.is_blocks in omega (arith, below, same_time, e, h)

      some_block : 1 ≤ blocks
      some_block = let e = awaits.is_lock in let h = awaits.is_blocks in omega (arith, below, same_time, e, h)

      mined : pending s w mining ≡ done later_world []
      mined =
          let clear : first_reason (mine_row w blocks) ≡ None =
          ap (λ m. first_reason ((not (nat_le m last_height), reason.TimeLimit) ∷ [])) reaches_it
          ∙ ap (λ c. first_reason ((not c, reason.TimeLimit) ∷ [])) in_reach in
          ap (λ r. unless r w [] (done later_world [])) clear

      is_reached : nat_le (lock b) later_configuration.time ≡ true
      is_reached =
          let e : later_configuration.time ≡ lock b = ap (λ m. m + blocks) same_time ∙ reaches_it ∙ sym awaits.is_lock in
          subst (λ m. nat_le (lock b) m ≡ true) (sym e) (le-leb (lock b) (lock b) (omega arith))

      all_reached : IsAlone reaching (unmet (asked_for s.header.honest g n i contract pres b))
          → met (asked_for s.header.honest later_configuration n i contract pres b) ≡ true
      all_reached a =
          and_from _ _ is_reached (met_both (authorised g n i (asks b)) _ (all_from (authorised g n i (asks b)) each)
          (behind_met s.header.honest g n i contract pres b reaching a (rest_other b)))
        where
          by_or : (p : List ℕ) → (has_branch_authorised g.branch_authorised n i p ≡ true) ⊎ (requirements.Authorisation p n i ≡ reaching)
              → has_branch_authorised g.branch_authorised n i p ≡ true
          by_or p (inl e) = e
          by_or p (inr e) = cc

          each : (c : Condition) → Is_in c (authorised g n i (asks b)) → c.0 ≡ true
          each c h =
              let m = from_map _ (asks b) c h in
              let there = in_map (λ p. (has_branch_authorised g.branch_authorised n i p, requirements.Authorisation p n i)) (asks b) m.0 m.1 in
              ap (λ (d : Condition). d.0) m.2
              ∙ by_or m.0 (met_or (asked_for s.header.honest g n i contract pres b) reaching a _ (inr (in_left _ (authorised g n i (asks b)) _ there)))

    by_guarded : (o : Option term.Guarded) → branch_at g n i ≡ o → IsAlone reaching (unmet (asked_by_branch s.header.honest g n i (active_at g.active n) o))
        → TurnsAround s es mining n i
    by_guarded None here a = absurd (in_from_contains [] reaching a.there)
    by_guarded (Some b) here a =
        let awaits = awaited b a in
        let d = mined b awaits in
        let some = some_block b awaits in
        let longer = one_more.is_run s es run on mining some later_world d in
        let enabled = branch_enabled s.header.honest later_configuration n i (Some b) here refl (all_reached b awaits a) in
        record {
          can = one_more.can s es run on mining some later_world d;
          is_run = longer;
          goes_on = one_more.goes_on s es run on mining some later_world d;
          comes = enabled_comes s (es ++ mining ∷ []) longer (events.Fire n i)
              (subst (λ c. Enabled c (events.Fire n i)) (sym (one_more.last_configuration_is s es run on mining some later_world
              d)) enabled);
        }

    pub height_met : AloneOutstanding s es n i reaching → TurnsAround s es mining n i
    height_met a = by_guarded (branch_at g n i) refl a

pub met_alone : MetAloneTheorem
met_alone s es run on = record {
  authorisation = λ party n i declared a. authorisation_met s es run on party n i declared a;
  height = λ t blocks n i in_reach a. height_met s es run on t blocks n i in_reach a;
}
