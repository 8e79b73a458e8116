-- A contract waits exactly for those who can give now something that is missing.
use Rattle.std.proofs.Common.{◌≡◌, ℕ, ◌+◌, List, [], ◌∷◌, map, Bool, true, false, Option, Some, None, refl, sym, ap, ◌∙◌, subst, inl, inr, ◌⊎◌}
use Rattle.std.specs.Prelude.{◌==◌, not, ◌&&◌, ◌||◌, if◌then◌else◌, is_some}
use Rattle.std.specs.Str.{bytes_eq}
use Rattle.std.specs.List.{Contains, filter, list_all, list_any}
use Rattle.std.proofs.lemmas.Bool.{and_parts, and_from, or_cases, or_left, or_right, eq-eqb, eqb-true}
use Rattle.spec_data.specs.Lists.{is_among, first_reason, look_up}
use Rattle.spec_data.specs.Messages.{collision}
use Rattle.spec_terms.specs.Advert.{Advert}
use Rattle.spec_terms.specs.Core.{core, asks, puts_of, reveals_of}
use Rattle.spec_terms.specs.Parties.{participants}
use Rattle.spec_terms.specs.Precondition.{Holding, persistent, secrets}
use Rattle.spec_terms.specs.Term as term
use Rattle.spec_calculus.specs.declared.parts.ActiveContract.{ActiveContract}
use Rattle.spec_calculus.specs.Configuration.{Configuration}
use Rattle.spec_calculus.specs.Beginning.{contract_at, pre_of, participants_of, is_init_authorised, is_advertised as has_advert}
use Rattle.spec_calculus.specs.Branches.{active_at}
use Rattle.spec_calculus.specs.Offers.{branches_of}
use Rattle.spec_calculus.specs.Steps.{branch_at}
use Rattle.spec_compiler.specs.Instance.{Instance}
use Rattle.spec_run.specs.declared.event.Event.{Event}
use Rattle.spec_run.specs.declared.event.Event.TheVariants as events
use Rattle.spec_run.specs.declared.header.HeldSecret.{HeldSecret}
use Rattle.spec_run.specs.Setup.{Setup, bytes_or_none, has_contract, takes_part, is_honest}
use Rattle.spec_run.specs.World.{World, is_advertised, has_promised}
use Rattle.spec_run.specs.Pending.{Pending, guess, apply, unless}
use Rattle.spec_run.specs.Event.{pending}
use Rattle.spec_run.specs.Compiled.{compiled_instance}
use Rattle.spec_run.specs.declared.outcome.Reason.TheVariants as reason
use Rattle.spec_run.specs.Committing.{not_held, badly_long, missing_secret, bad_secret, names_fit, repeated_digest, commit_row, digest_row, committed_pending, committed_strings, with_promise, secrets_at}
use Rattle.spec_run.specs.Advertising.{deposit_names}
use Rattle.spec_run.specs.Translation.{last_configuration, last_world}
use Rattle.spec_run.specs.Statements.{IsRun, spends_with_leave}
use Rattle.spec_next.specs.declared.requirement.Requirement.{Requirement}
use Rattle.spec_next.specs.declared.requirement.Requirement.TheVariants as requirements
use Rattle.spec_next.specs.declared.outlook.Ruling.{Ruling}
use Rattle.spec_next.specs.declared.outlook.Ruling.TheVariants as rulings
use Rattle.spec_next.specs.declared.outlook.Prospect.{Prospect}
use Rattle.spec_next.specs.Candidates.{people, committing, endorsing, starting, revealing, authorising, taking, taking_active, actives_of}
use Rattle.spec_next.specs.Candidates.{has_endorsed, candidates}
use Rattle.spec_next.specs.Hands.{is_in_hand}
use Rattle.spec_next.specs.Requirements.{Condition, agreed, bound, isnt_gone, endorsed, endorsed_for, started, asked_by_branch, secret_requirement, conditions, unmet, requirements_of}
use Rattle.spec_next.specs.Prospects.{is_commitment, is_endorsement, is_start, is_authorisation, is_reveal}
use Rattle.spec_next.specs.Prospects.{ruling_by, ruling, ruling_of, is_ahead, is_shown, requirements_by, prospect, prospects_of, awaited, is_for_whom, is_for, gives, can_come}
use Rattle.spec_next.specs.Prospects.{is_never, living, is_over, useful, outstanding as left, is_given, is_open, is_at_hand, is_waited_for, outlook}
use Rattle.theory_calculus.specs.Members.{Is_in}
use Rattle.theory_calculus.proofs.Members.{in_append, in_filter, filter_has, in_from_contains, contains_from_in, all_append, all_in}
use Rattle.theory_calculus.proofs.Names.{bytes-true, bytes_refl}
use Rattle.theory_run.specs.Tracks.{Tracks}
use Rattle.theory_run.proofs.Following.{run_posts, kept_at_end}
use Rattle.theory_offers.proofs.WholeRun.{KeptAll, opening_all, keeps_all}
use Rattle.theory_next.specs.Ready.{CanUnlessHalts}
use Rattle.theory_next.specs.Waits.{IsIts, IsGivenBy, GivenByEvent, Commits, GivenByHand, CanGive, WaitsForThose, WaitsAreMeant}
use Rattle.theory_next.proofs.Apart.{among_in}
use Rattle.theory_next.proofs.Complete.{from_flat_map}
use Rattle.theory_next.proofs.Exact.{from_map, is_failing}
use Rattle.theory_next.proofs.Never.{any_in, any_from, in_living, in_useful, lacks_condition}
use Rattle.theory_next.proofs.Said.{can_is_meant}

-- ---- whose it is to give

is_its : (x : Requirement) (who : List ℕ) → awaited x ≡ Some who → IsIts x who
is_its (requirements.Advert k) who h = cc
is_its (requirements.Deposit y) who h = cc
is_its (requirements.Gone y) who h = cc
is_its requirements.NobodyHonest who h = cc
is_its (requirements.Missing secret) who h = cc
is_its (requirements.BadLength secret) who h = cc
is_its (requirements.Repeated secret) who h = cc
is_its (requirements.Digest party k secret) who h = cc
is_its (requirements.Commitment party k) who h = cc
is_its (requirements.Endorsement party k) who h = cc
is_its (requirements.Start party k) who h = cc
is_its (requirements.Beginning k) who h = cc
is_its (requirements.Height t m) who h = cc
is_its (requirements.Authorisation party n i) who h = cc
is_its (requirements.Put y) who h = cc
is_its (requirements.Secret party k secret) who h = cc
is_its (requirements.Posted party secret) who h = cc
is_its requirements.Predicate who h = cc

is_awaited_of : (x : Requirement) (who : List ℕ) → IsIts x who → awaited x ≡ Some who
is_awaited_of (requirements.Advert k) who h = absurd h
is_awaited_of (requirements.Deposit y) who h = absurd h
is_awaited_of (requirements.Gone y) who h = absurd h
is_awaited_of requirements.NobodyHonest who h = absurd h
is_awaited_of (requirements.Missing secret) who h = absurd h
is_awaited_of (requirements.BadLength secret) who h = absurd h
is_awaited_of (requirements.Repeated secret) who h = absurd h
is_awaited_of (requirements.Digest party k secret) who h = ap Some h
is_awaited_of (requirements.Commitment party k) who h = ap Some h
is_awaited_of (requirements.Endorsement party k) who h = ap Some h
is_awaited_of (requirements.Start party k) who h = ap Some h
is_awaited_of (requirements.Beginning k) who h = absurd h
is_awaited_of (requirements.Height t m) who h = absurd h
is_awaited_of (requirements.Authorisation party n i) who h = ap Some h
is_awaited_of (requirements.Put y) who h = absurd h
is_awaited_of (requirements.Secret party k secret) who h = ap Some h
is_awaited_of (requirements.Posted party secret) who h = ap Some h
is_awaited_of requirements.Predicate who h = absurd h

-- ---- digests are missing for commitments alone

abbrev is_digest : Requirement → Bool
is_digest (requirements.Digest party k secret) = true
is_digest _ = false

abbrev is_other : Condition → Bool
is_other c = not (is_digest (c.1))

all_others : {A : Type 0} (f : A → Condition) → ((x : A) → is_other (f x) ≡ true) → (xs : List A) → list_all is_other (map f xs) ≡ true
all_others f h [] = refl
all_others f h (x ∷ xs) = and_from _ _ (h x) (all_others f h xs)

no_digest_agreed : (g : Configuration) (k : ℕ) → list_all is_other (agreed g k) ≡ true
no_digest_agreed g k = all_others _ (λ x. refl) (participants_of (contract_at g.contracts k))

no_digest_bound : (names : List (List ℕ)) (bindings : List (List ℕ × ℕ)) → list_all is_other (bound names bindings) ≡ true
no_digest_bound names bindings = all_others _ (λ x. refl) names

no_digest_started : (g : Configuration) (k : ℕ) (ds : List (List ℕ × Holding)) → list_all is_other (started g k ds) ≡ true
no_digest_started g k ds =
    all_append is_other
    (map (λ (d : List ℕ × Holding). (isnt_gone g k (d.0), requirements.Gone (d.0))) ds)
    (map (λ (d : List ℕ × Holding). (is_init_authorised g.init_authorised k (d.0), requirements.Start (d.1).owner k)) ds)
    (all_others _ (λ x. refl) ds) (all_others _ (λ x. refl) ds)

no_digest_secret : (honest : List (List ℕ)) (k : ℕ) (owner : Option (List ℕ)) (x : List ℕ) → is_digest (secret_requirement honest k owner x) ≡ false
no_digest_secret honest k None x = refl
no_digest_secret honest k (Some party) x = by_honesty (is_among party honest)
  where
    by_honesty : (h : Bool) → is_digest (if h then requirements.Secret party k x else requirements.Posted party x) ≡ false
    by_honesty true = refl
    by_honesty false = refl

no_digest_endorsed : (s : Setup) (w : World) (k : ℕ) (who : List ℕ) (o : Option Instance) (ps : List (List ℕ))
    → list_all is_other (endorsed_for s w k who o ps) ≡ true
no_digest_endorsed s w k who None ps = refl
no_digest_endorsed s w k who (Some instance) ps = by_honesty (is_honest s who)
  where
    by_honesty : (b : Bool) → list_all is_other (if b then endorsed s w k instance ps else []) ≡ true
    by_honesty true = all_others (λ (p : List ℕ). (has_endorsed s w (Some instance) p, requirements.Endorsement p k)) (λ y. refl) ps
    by_honesty false = refl

no_digest_branch : (honest : List (List ℕ)) (g : Configuration) (n i : ℕ) (a : Option ActiveContract) (o : Option term.Guarded)
    → list_all is_other (asked_by_branch honest g n i a o) ≡ true
no_digest_branch honest g n i a None = refl
no_digest_branch honest g n i a (Some b) =
    all_append is_other (map _ (asks b)) _ (all_others _ (λ x. refl) (asks b))
    (all_append is_other (map _ (puts_of (core b))) _ (all_others _ (λ x. refl) (puts_of (core b)))
    (all_append is_other (map _ (reveals_of (core b))) _
    (all_others _ (λ x. ap not (no_digest_secret honest _ (look_up x _) x)) (reveals_of (core b))) refl))

-- the commitment of which a digest is missing, which is still ahead of a party that isn't honest
pub record Uncommitted (s : Setup) (w : World) (e : Event) (party : List ℕ) (k : ℕ) : Type 0 where
  pub digests : List (List ℕ × List ℕ)
  pub is : e ≡ events.Commit k party digests
  pub dishonest : is_honest s party ≡ false

or_false : (a b : Bool) → (a || b) ≡ false → a ≡ false
or_false true b h = cc
or_false false b h = refl

abbrev digest_party : Requirement → List ℕ
digest_party (requirements.Digest party k secret) = party
digest_party _ = []

abbrev digest_contract : Requirement → ℕ
digest_contract (requirements.Digest party k secret) = k
digest_contract _ = 0

module _ (s : Setup) (g : Configuration) (w : World) (party : List ℕ) (k : ℕ) (secret : List ℕ) where
  abbrev x : Requirement
  x = requirements.Digest party k secret

  never : (e : Event) → list_all is_other (conditions s g w e) ≡ true → Is_in x (unmet (conditions s g w e)) → ⊥
  never e h i =
      let cs = conditions s g w e in
      let f = is_failing cs x i in
      let t = all_in is_other cs f.condition h (in_from_contains cs f.condition f.there) in
      let d : is_digest (f.condition.1) ≡ true = ap is_digest f.outstanding in
      apart (is_digest (f.condition.1)) d t
    where
      apart : (b : Bool) → b ≡ true → not b ≡ true → ⊥
      apart true e h = cc
      apart false e h = cc

  pub committing_requirement : (e : Event) → Is_in x (unmet (conditions s g w e)) → Uncommitted s w e party k
  committing_requirement (events.Commit contract who digests) h =
      let f = is_failing (conditions s g w (events.Commit contract who digests)) x h in
      by_place f.condition (in_from_contains (conditions s g w (events.Commit contract who digests)) f.condition f.there) f.outstanding f.fails
    where
      by_place : (c : Condition) → Is_in c (conditions s g w (events.Commit contract who digests)) → c.1 ≡ x → c.0 ≡ false
          → Uncommitted s w (events.Commit contract who digests) party k
      by_place c (inl e) q z = let no : requirements.Advert contract ≡ x = sym (ap (λ (d : Condition). d.1) e) ∙ q in cc
      by_place c (inr i) q z =
          let m = from_map _ (secrets_at s contract who) c i in
          let same : requirements.Digest who contract m.0 ≡ x = sym (ap (λ (d : Condition). d.1) m.2) ∙ q in
          let p : who ≡ party = ap digest_party same in
          let n : contract ≡ k = ap digest_contract same in
          record {
            digests = digests;
            is = λ j. events.Commit (n j) (p j) digests;
            dishonest = subst (λ (y : List ℕ). is_honest s y ≡ false) p (or_false _ _ (sym (ap (λ (d : Condition). d.0) m.2) ∙ z));
          }
  committing_requirement (events.Advertise contract bindings) h =
      absurd (never (events.Advertise contract bindings) (no_digest_bound (deposit_names s contract) bindings) h)
  committing_requirement (events.Endorse contract who) h = absurd (never (events.Endorse contract who) (no_digest_agreed g contract) h)
  committing_requirement (events.Init contract who) h =
      let people = participants_of (contract_at g.contracts contract) in
      let instance = compiled_instance s w contract in
      absurd (never (events.Init contract who) (all_append is_other (agreed g contract) (endorsed_for s w contract who instance people)
      (no_digest_agreed g contract) (no_digest_endorsed s w contract who instance people)) h)
  committing_requirement (events.FireInit contract) h =
      let ds = persistent (pre_of (contract_at g.contracts contract)) in
      absurd (never (events.FireInit contract) (all_append is_other (agreed g contract) (started g contract ds) (no_digest_agreed g contract)
      (no_digest_started g contract ds)) h)
  committing_requirement (events.Reveal contract who name) h = absurd (never (events.Reveal contract who name) refl h)
  committing_requirement (events.Authorise who n i) h = absurd h
  committing_requirement (events.Fire n i) h =
      absurd (never (events.Fire n i) (no_digest_branch s.header.honest g n i (active_at g.active n) (branch_at g n i)) h)
  committing_requirement (events.Post bytes) h = absurd h
  committing_requirement (events.Sign who label digest) h = absurd h
  committing_requirement (events.Give who inputs outputs) h = absurd h
  committing_requirement (events.Append bytes) h = absurd h
  committing_requirement (events.Mine blocks) h = absurd h

-- ---- a commitment among the candidates is one of the contract, by one who takes part

abbrev commit_contract : Event → ℕ
commit_contract (events.Commit contract who digests) = contract
commit_contract _ = 0

abbrev commit_party : Event → List ℕ
commit_party (events.Commit contract who digests) = who
commit_party _ = []

module _ (s : Setup) (g : Configuration) (w : World) (k : ℕ) (c : Advert) where
  abbrev ps : List (List ℕ)
  ps = people s c

  not_taken : (n i : ℕ) (bs : List term.Guarded) (j : ℕ) (p : List ℕ) (ds : List (List ℕ × List ℕ))
      → Is_in (events.Commit j p ds) (taking g ps n i bs) → ⊥
  not_taken n i [] j p ds h = h
  not_taken n i (b ∷ bs) j p ds h = elim (in_append _ (authorising g ps n i b) (events.Fire n i ∷ taking g ps n (i + 1) bs) h) [
    | inl a ↦ let m = from_map (λ party. events.Authorise party n i) _ _ a in cc
    | inr (inl q) ↦ cc
    | inr (inr t) ↦ not_taken n (i + 1) bs j p ds t
  ]

  record IsOf (j : ℕ) (p : List ℕ) : Type 0 where
    here : j ≡ k
    takes : Is_in p (participants c)

  commitment_of : (j : ℕ) (p : List ℕ) (ds : List (List ℕ × List ℕ)) → Is_in (events.Commit j p ds) (candidates s g w k c) → IsOf j p
  commitment_of j p ds (inl q) = cc
  commitment_of j p ds (inr h) = elim (in_append _ (map (committing k) ps) _ h) [
    | inl a ↦
        let m = from_map (committing k) ps _ a in
        record {
          here = ap commit_contract m.2;
          takes = subst (λ (y : List ℕ). Is_in y (participants c)) (sym (ap commit_party m.2)) (in_filter _ (participants c) m.0 m.1).0;
        }
    | inr r ↦ elim (in_append _ (endorsing s w k ps) _ r) [
      | inl a ↦ let m = from_map (λ party. events.Endorse k party) _ _ a in cc
      | inr t ↦ elim (in_append _ (starting g k (persistent c.pre) ps) _ t) [
        | inl a ↦ let m = from_map (λ party. events.Init k party) _ _ a in cc
        | inr (inl q) ↦ cc
        | inr (inr u) ↦ elim (in_append _ (revealing s k (secrets c.pre)) _ u) [
          | inl a ↦ let m = from_map (λ (y : List ℕ × List ℕ). events.Reveal k (y.1) (y.0)) _ _ a in cc
          | inr v ↦
              let d = from_flat_map (taking_active g ps) (actives_of g k) _ v in
              absurd (not_taken d.from.number 0 (branches_of g.contracts d.from) j p ds d.made)
        ]
      ]
    ]
  ]

-- ---- which event gives what is missing

same_both : (x y : List ℕ) (m n : ℕ) → (bytes_eq x y && (m == n)) ≡ true → (x ≡ y) × (m ≡ n)
same_both x y m n h = let p = and_parts (bytes_eq x y) (m == n) h in (bytes-true x y p.0, eqb-true m n p.1)

commitment_is : (p : List ℕ) (k : ℕ) (e : Event) → is_commitment p k e ≡ true → IsGivenBy (requirements.Commitment p k) e
commitment_is p k (events.Commit contract who digests) h =
    let q = same_both who p contract k h in (digests, λ i. events.Commit (q.1 i) (q.0 i) digests)
commitment_is p k _ h = cc

endorsement_is : (p : List ℕ) (k : ℕ) (e : Event) → is_endorsement p k e ≡ true → e ≡ events.Endorse k p
endorsement_is p k (events.Endorse contract who) h = let q = same_both who p contract k h in λ i. events.Endorse (q.1 i) (q.0 i)
endorsement_is p k _ h = cc

start_is : (p : List ℕ) (k : ℕ) (e : Event) → is_start p k e ≡ true → e ≡ events.Init k p
start_is p k (events.Init contract who) h = let q = same_both who p contract k h in λ i. events.Init (q.1 i) (q.0 i)
start_is p k _ h = cc

authorisation_is : (p : List ℕ) (n i : ℕ) (e : Event) → is_authorisation p n i e ≡ true → e ≡ events.Authorise p n i
authorisation_is p n i (events.Authorise who output branch) h =
    let a = and_parts (bytes_eq who p && (output == n)) (branch == i) h in
    let b = same_both who p output n a.0 in
    let z = eqb-true branch i a.1 in
    λ j. events.Authorise (b.0 j) (b.1 j) (z j)
authorisation_is p n i _ h = cc

reveal_is : (p : List ℕ) (k : ℕ) (secret : List ℕ) (e : Event) → is_reveal p k secret e ≡ true → e ≡ events.Reveal k p secret
reveal_is p k secret (events.Reveal contract who name) h =
    let a = and_parts (bytes_eq who p && (contract == k)) (bytes_eq name secret) h in
    let b = same_both who p contract k a.0 in
    let z = bytes-true name secret a.1 in
    λ j. events.Reveal (b.1 j) (b.0 j) (z j)
reveal_is p k secret _ h = cc

giver_is : (x : Requirement) (e : Event) → gives x e ≡ true → IsGivenBy x e
giver_is (requirements.Commitment p k) e h = commitment_is p k e h
giver_is (requirements.Endorsement p k) e h = endorsement_is p k e h
giver_is (requirements.Start p k) e h = start_is p k e h
giver_is (requirements.Authorisation p n i) e h = authorisation_is p n i e h
giver_is (requirements.Secret p k secret) e h = reveal_is p k secret e h
giver_is _ e h = cc

same_name : (p : List ℕ) (n : ℕ) → (bytes_eq p p && (n == n)) ≡ true
same_name p n = and_from _ _ (bytes_refl p) (eq-eqb n n refl)

is_giver : (x : Requirement) (e : Event) → IsGivenBy x e → gives x e ≡ true
is_giver (requirements.Commitment p k) e h = ap (is_commitment p k) h.1 ∙ same_name p k
is_giver (requirements.Endorsement p k) e h = ap (is_endorsement p k) h ∙ same_name p k
is_giver (requirements.Start p k) e h = ap (is_start p k) h ∙ same_name p k
is_giver (requirements.Authorisation p n i) e h =
    ap (is_authorisation p n i) h ∙ and_from _ _ (same_name p n) (eq-eqb i i refl)
is_giver (requirements.Secret p k secret) e h =
    ap (is_reveal p k secret) h ∙ and_from _ _ (same_name p k) (bytes_refl secret)
is_giver _ e h = absurd h

-- ---- what is done comes, unless it halts

answer_comes : (w : World) (d : Pending) (c : Option (List ℕ × List ℕ)) (u : Option HeldSecret)
    → ruling_by d.outcome ≡ rulings.Can
    → (ruling_of (apply w d c u) ≡ rulings.Can) ⊎ (ruling_of (apply w d c u) ≡ rulings.Halts)
answer_comes w d (Some pair) u h = inr refl
answer_comes w d None (Some held) h = inr refl
answer_comes w d None None h = inl h

pub comes_unless : (s : Setup) (w : World) (e : Event) → ruling_by (pending s w e).outcome ≡ rulings.Can
    → CanUnlessHalts s w e
comes_unless s w e h =
    let d = pending s w e in answer_comes w d (collision s.hash w.hashed d.hashes) (guess s w.posted d.posts d.allowed) h

module _ (s : Setup) (w : World) (k : ℕ) (party : List ℕ) where
  -- digests that fit are taken from one who takes part, isn't honest and hasn't committed
  takes_digests : has_contract s k ≡ true → is_advertised w k ≡ true → takes_part s k party ≡ true → has_promised w k party ≡ false
      → is_honest s party ≡ false → (digests : List (List ℕ × List ℕ)) → names_fit s k party digests ≡ true
      → repeated_digest s w k party digests ≡ None → CanUnlessHalts s w (events.Commit k party digests)
  takes_digests there told part free dishonest digests fit fresh =
      let strings = committed_strings s k party in
      let last = committed_pending s (with_promise s w k party digests) k party strings in
      comes_unless s w (events.Commit k party digests)
      (ap (λ r. ruling_by (unless r w [] (unless (first_reason (digest_row s w k party digests)) w strings last)).outcome) row
      ∙ ap (λ r. ruling_by (unless r w strings last).outcome) again)
    where
      none_missing : missing_secret s k party ≡ None
      none_missing = ap (λ b. if b then not_held s party (secrets_at s k party) else None) dishonest

      none_bad : bad_secret s k party ≡ None
      none_bad = ap (λ b. if b then badly_long s party (secrets_at s k party) else None) dishonest

      row : first_reason (commit_row s w k party digests) ≡ None
      row i = first_reason (
          (not (there i), reason.NoContract)
          ∷ (not (told i), reason.NotAdvertised)
          ∷ (not (part i), reason.NotParticipant)
          ∷ (free i, reason.AlreadyCommitted)
          ∷ (not (fit i), reason.WrongNames)
          ∷ (is_some (none_missing i), reason.NoSecret (bytes_or_none (none_missing i)))
          ∷ (is_some (none_bad i), reason.BadSecretLength (bytes_or_none (none_bad i)))
          ∷ [])

      again : first_reason (digest_row s w k party digests) ≡ None
      again i = first_reason ((is_some (fresh i), reason.HashRepeated (bytes_or_none (fresh i))) ∷ [])

-- ---- a contract after a run

module _ (s : Setup) (es : List Event) (run : IsRun s es) (k : ℕ) (c : Advert)
    (at : contract_at (last_configuration s es).contracts k ≡ Some c) where
  abbrev g : Configuration
  g = last_configuration s es

  abbrev w : World
  w = last_world s es

  abbrev listed : List Prospect
  listed = living (useful (is_over g w k) (prospects_of s g w (candidates s g w k c)))

  tracks : Tracks s (run_posts s es) g w
  tracks =
      let z = run_posts s es in
      (kept_at_end s (spends_with_leave s) (KeptAll s z) es (keeps_all s run.setup z) run.events
      (opening_all s es run z)).holds.honest.run.tracks

  same_contract : contract_at s.contracts k ≡ Some c
  same_contract = ap (λ cs. contract_at cs k) (sym tracks.constant.contracts) ∙ at

  -- what is missing for an event that is listed and may come, is missing for it; and it is refused, and still ahead
  record Lacks (p : Prospect) (x : Requirement) : Type 0 where
    event : Event
    is : p ≡ prospect s g w event
    candidate : Is_in event (candidates s g w k c)
    outstanding : Is_in x (requirements_of s g w event)
    ahead : is_ahead s w event ≡ true

  lacks : (p : Prospect) (x : Requirement) → is_never x ≡ false → Is_in p listed → Is_in x p.requirements → Lacks p x
  lacks p x may i h =
      let m = from_map (prospect s g w) (filter (λ e. is_shown s w e (ruling s w e)) (candidates s g w k c)) p
      (in_useful (is_over g w k) _ p (in_living _ p i)) in
      let f = in_filter (λ e. is_shown s w e (ruling s w e)) (candidates s g w k c) m.0 m.1 in
      by_ruling m.0 m.2 f.0 (ruling s w m.0) f.1 (subst (λ (q : Prospect). Is_in x q.requirements) m.2 h)
    where
      by_ruling : (e : Event) → p ≡ prospect s g w e → Is_in e (candidates s g w k c) → (r : Ruling) → is_shown s w e r ≡ true
          → Is_in x (requirements_by (left s g w e) r) → Lacks p x
      by_ruling e q j rulings.Can t n = absurd n
      by_ruling e q j (rulings.Cannot reason) t n =
          record {
            event = e;
            is = q;
            candidate = j;
            outstanding = (in_filter (λ y. not (is_in_hand s w y)) (requirements_of s g w e) x (lacks_condition reason (left s g w e) x may n)).0;
            ahead = t;
          }
      by_ruling e q j rulings.Halts t n = absurd n

  -- whose digest is missing may commit it
  commits : (p : Prospect) (party : List ℕ) (j : ℕ) (secret : List ℕ) → Is_in p listed → Is_in (requirements.Digest party j secret) p.requirements
      → has_advert g.advertised j ≡ true → Commits s w j party
  commits p party j secret i h told =
      let l = lacks p (requirements.Digest party j secret) refl i h in
      let u = committing_requirement s g w party j secret l.event l.outstanding in
      let o = commitment_of s g w k c j party u.digests (subst (λ (e : Event). Is_in e (candidates s g w k c)) u.is l.candidate) in
      let there : contract_at s.contracts j ≡ Some c = ap (contract_at s.contracts) o.here ∙ same_contract in
      let advertised : is_advertised w j ≡ true = ap (λ told. has_advert told j) (sym tracks.advertised) ∙ told in
      let ahead : not (has_promised w j party) ≡ true = subst (λ (e : Event). is_ahead s w e ≡ true) u.is l.ahead in
      record {
        advertised = advertised;
        taken = takes_digests s w j party (ap is_some there) advertised
            (ap (λ a. is_among party (participants_of a)) there ∙ among_in party (participants c) o.takes)
            (is_false (has_promised w j party) ahead) u.dishonest;
      }
    where
      is_false : (b : Bool) → not b ≡ true → b ≡ false
      is_false true h = cc
      is_false false h = refl

  -- what nothing stands in the way of
  by_hand : (p : Prospect) (x : Requirement) → Is_in p listed → Is_in x p.requirements → is_open g x ≡ true → GivenByHand s w x
  by_hand p (requirements.Digest party j secret) i h o = commits p party j secret i h o
  by_hand p (requirements.Posted party secret) i h o = λ bytes. comes_unless s w (events.Post bytes) refl
  by_hand p (requirements.Advert j) i h o = cc
  by_hand p (requirements.Deposit y) i h o = cc
  by_hand p (requirements.Gone y) i h o = cc
  by_hand p requirements.NobodyHonest i h o = cc
  by_hand p (requirements.Missing y) i h o = cc
  by_hand p (requirements.BadLength y) i h o = cc
  by_hand p (requirements.Repeated y) i h o = cc
  by_hand p (requirements.Commitment party j) i h o = cc
  by_hand p (requirements.Endorsement party j) i h o = cc
  by_hand p (requirements.Start party j) i h o = cc
  by_hand p (requirements.Beginning j) i h o = cc
  by_hand p (requirements.Height t m) i h o = cc
  by_hand p (requirements.Authorisation party n j) i h o = cc
  by_hand p (requirements.Put y) i h o = cc
  by_hand p (requirements.Secret party j secret) i h o = cc
  by_hand p requirements.Predicate i h o = cc

  is_open_hand : (x : Requirement) → GivenByHand s w x → is_open g x ≡ true
  is_open_hand (requirements.Digest party j secret) h = ap (λ told. has_advert told j) tracks.advertised ∙ h.advertised
  is_open_hand (requirements.Posted party secret) h = refl
  is_open_hand (requirements.Advert j) h = absurd h
  is_open_hand (requirements.Deposit y) h = absurd h
  is_open_hand (requirements.Gone y) h = absurd h
  is_open_hand requirements.NobodyHonest h = absurd h
  is_open_hand (requirements.Missing y) h = absurd h
  is_open_hand (requirements.BadLength y) h = absurd h
  is_open_hand (requirements.Repeated y) h = absurd h
  is_open_hand (requirements.Commitment party j) h = absurd h
  is_open_hand (requirements.Endorsement party j) h = absurd h
  is_open_hand (requirements.Start party j) h = absurd h
  is_open_hand (requirements.Beginning j) h = absurd h
  is_open_hand (requirements.Height t m) h = absurd h
  is_open_hand (requirements.Authorisation party n j) h = absurd h
  is_open_hand (requirements.Put y) h = absurd h
  is_open_hand (requirements.Secret party j secret) h = absurd h
  is_open_hand requirements.Predicate h = absurd h

  -- an event that is listed as one that can come
  by_event : (x : Requirement) → is_given listed x ≡ true → GivenByEvent s g w (outlook s g w k c) x
  by_event x h =
      let f = any_from (λ (p : Prospect). can_come p.ruling && gives x p.event) listed h in
      let t = and_parts (can_come f.one.ruling) (gives x f.one.event) f.passes in
      let m = from_map (prospect s g w) (filter (λ e. is_shown s w e (ruling s w e)) (candidates s g w k c)) f.one
      (in_useful (is_over g w k) _ f.one (in_living _ f.one f.there)) in
      record {
        event = m.0;
        gives_it = giver_is x m.0 (subst (λ (p : Prospect). gives x p.event ≡ true) m.2 t.1);
        listed = contains_from_in listed (prospect s g w m.0) (subst (λ (p : Prospect). Is_in p listed) m.2 f.there);
        goes = (can_is_meant s w m.0).0 (by_ruling (ruling s w m.0) (subst (λ (p : Prospect). can_come p.ruling ≡ true) m.2 t.0));
      }
    where
      by_ruling : (r : Ruling) → can_come r ≡ true → r ≡ rulings.Can
      by_ruling rulings.Can h = refl
      by_ruling (rulings.Cannot reason) h = cc
      by_ruling rulings.Halts h = cc

  is_given_event : (x : Requirement) → GivenByEvent s g w (outlook s g w k c) x → is_given listed x ≡ true
  is_given_event x h =
      any_in (λ (p : Prospect). can_come p.ruling && gives x p.event) listed (prospect s g w h.event)
      (in_from_contains listed (prospect s g w h.event) h.listed)
      (and_from _ _ (ap can_come ((can_is_meant s w h.event).1 h.goes)) (is_giver x h.event h.gives_it))

  its : (o : Option (List ℕ)) (party : List ℕ) → is_for_whom o party ≡ true → o ≡ Some party
  its None party h = cc
  its (Some name) party h = ap Some (bytes-true name party h)

  pub waits_for_those : WaitsForThose s g w k c
  waits_for_those = record { waits = λ party. (λ h. forth party h, λ h. back party h.0 h.1) }
    where
      forth : (party : List ℕ) → Contains (outlook s g w k c).waits party
          → Contains (participants c) party × CanGive s g w (outlook s g w k c) party
      forth party h =
          let f = in_filter (λ p. is_waited_for g listed p) (participants c) party (in_from_contains (outlook s g w k c).waits party h) in
          let p = any_from (λ (q : Prospect). list_any (λ x. is_for x party && is_at_hand g listed x) q.requirements) listed f.1 in
          let x = any_from (λ x. is_for x party && is_at_hand g listed x) p.one.requirements p.passes in
          let t = and_parts (is_for x.one party) (is_at_hand g listed x.one) x.passes in (
            contains_from_in (participants c) party f.0,
            record {
              lacking = p.one;
              shown = contains_from_in listed p.one p.there;
              requirement = x.one;
              outstanding = contains_from_in p.one.requirements x.one x.there;
              its = is_its x.one party (its (awaited x.one) party t.0);
              given = elim (or_cases (is_open g x.one) (is_given listed x.one) t.1) [
                | inl e ↦ inr (by_hand p.one x.one p.there x.there e)
                | inr e ↦ inl (by_event x.one e)
              ];
            },
          )

      back : (party : List ℕ) → Contains (participants c) party → CanGive s g w (outlook s g w k c) party
          → Contains (outlook s g w k c).waits party
      back party i h =
          let at_hand : is_at_hand g listed h.requirement ≡ true = by_given h.requirement h.given in
          let mine : is_for h.requirement party ≡ true = ap (λ o. is_for_whom o party) (is_awaited_of h.requirement party h.its) ∙ bytes_refl party in
          contains_from_in (outlook s g w k c).waits party
          (filter_has (λ p. is_waited_for g listed p) (participants c) party (in_from_contains (participants c) party i)
          (any_in (λ (q : Prospect). list_any (λ x. is_for x party && is_at_hand g listed x) q.requirements) listed h.lacking
          (in_from_contains listed h.lacking h.shown)
          (any_in (λ x. is_for x party && is_at_hand g listed x) h.lacking.requirements h.requirement
          (in_from_contains h.lacking.requirements h.requirement h.outstanding) (and_from _ _ mine at_hand))))
        where
          by_given : (x : Requirement) → (GivenByEvent s g w (outlook s g w k c) x ⊎ GivenByHand s w x) → is_at_hand g listed x ≡ true
          by_given x (inl e) = or_right (is_open g x) _ (is_given_event x e)
          by_given x (inr e) = or_left _ _ (is_open_hand x e)

pub waits_are_meant : WaitsAreMeant
waits_are_meant s es run k c at = waits_for_those s es run k c at
