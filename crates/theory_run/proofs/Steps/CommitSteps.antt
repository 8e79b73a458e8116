-- A commitment is a legal step, and what it leaves of secrets.
use Rattle.std.proofs.Common.{◌≡◌, ℕ, ◌+◌, zero, suc, List, [], ◌∷◌, ◌++◌, length, map, Bool, true, false, not, Option, Some, None, refl, sym, ap, ◌∙◌, subst, arith, inl, inr, append-nil}
use Rattle.std.specs.Prelude.{if◌then◌else◌, ◌==◌, ◌&&◌, ◌||◌, slice_get, is_some}
use Rattle.std.specs.List.{find, list_all, list_any}
use Rattle.std.specs.Option.{option_map}
use Rattle.std.specs.Str.{bytes_eq}
use Rattle.std.proofs.lemmas.Bool.{and_parts, and_from, or_left, or_right, or_parts, or_cases, eqb-true, eq-eqb, not-false, not_from_false, both_ways}
use Rattle.std.proofs.lemmas.Bool.Decides.{nat_tests}
use Rattle.spec_data.specs.Lists.{is_among, are_different, look_up, first_reason, NoneTrue}
use Rattle.spec_data.proofs.ListLemmas.{no_reason-none_true}
use Rattle.spec_terms.specs.Advert.{Advert}
use Rattle.spec_terms.specs.Precondition.{secrets, names_of, names_of_party, secrets_of}
use Rattle.spec_calculus.specs.declared.parts.Revealed.{Revealed}
use Rattle.spec_calculus.specs.declared.step.Step.{Step}
use Rattle.spec_calculus.specs.declared.step.Step.TheVariants as steps
use Rattle.spec_calculus.specs.Configuration.{Configuration}
use Rattle.spec_calculus.specs.Beginning.{pre_of as calculus_pre, participants_of, is_fair, lists_each, are_known, has_committed}
use Rattle.spec_calculus.specs.Steps.{effect, after_steps, Legal}
use Rattle.spec_run.specs.Setup.{Setup, is_honest, held_secret, bytes_or_none, pre_of, people_of, contract_at}
use Rattle.spec_data.specs.Messages.{noted_all, collision}
use Rattle.spec_run.specs.World.{Promise, World, is_promise_of, has_promised}
use Rattle.spec_run.specs.Advertising.{are_rearranged, arranged, or_else_this}
use Rattle.spec_run.specs.Committing.{secrets_at, is_secret_long, own_digests, own_strings, not_held, badly_long, used_digests, used_again, names_fit, committed_digests, committed_strings, commit_row, digest_row}
use Rattle.spec_run.specs.Revealing.{fits, fitting}
use Rattle.spec_run.specs.Secrets.{all_secrets, secrets_from, secrets_of_contract, digest_at, is_shown, shown, newly_shown, secret_size, length_in_run, lengths_in_run}
use Rattle.spec_run.specs.Steps.{reveals, commit_lengths}
use Rattle.theory_calculus.proofs.Names.{bytes-true, bytes_refl, all_among}
use Rattle.theory_world.proofs.Tests.{any-append, any_map, map_append}
use Rattle.theory_run.proofs.Steps.Legal.{passes}
use Rattle.theory_world.specs.KeptApart.{NoCollision}
use Rattle.theory_world.proofs.Hashed.{no_collision, among_left, among_head, among_tail, all_more, all_new}
use Rattle.theory_run.specs.KeptSecrets.{has_secret, KeptSecrets, is_own, committed_by}
use Rattle.theory_run.proofs.Facts.Secrets.{same_secret, has_secret-append, different_secrets, after-reveals}
use Rattle.theory_world.proofs.Once.{once_push, at_push, new_at, not_before, used-append}
use Rattle.theory_run.proofs.Facts.KeptSecrets.{Begins, reveals_legal, reveals_agree}
use Rattle.theory_run.proofs.Facts.Posting.{is_own-some, is_own-more, shown-is_some, posted_own}
use Rattle.theory_run.specs.Tracks.{Constant}

-- ---- what never changes

pub same_pre : (o : Option Advert) → calculus_pre o ≡ pre_of o
same_pre None = refl
same_pre (Some a) = refl

pub same_people : (o : Option Advert) → participants_of o ≡ people_of o
same_people None = refl
same_people (Some a) = refl

-- ---- look-ups in what is arranged

pub arranged-look : (names : List (List ℕ)) (entries : List (List ℕ × List ℕ)) (n d : List ℕ) → look_up n (arranged [] names entries)
    ≡ Some d → list_all (λ m. is_some (look_up m entries)) names ≡ true
    → (look_up n entries ≡ Some d) × (is_among n names ≡ true)
arranged-look [] entries n d h all = cc
arranged-look (x ∷ names) entries n d h all =
    let p = and_parts (is_some (look_up x entries)) (list_all (λ m. is_some (look_up m entries)) names) all in
    by_test (bytes_eq x n) refl h p.0 (λ q. arranged-look names entries n d q p.1)
  where
    by_value : (o : Option (List ℕ)) → is_some o ≡ true → Some (or_else_this [] o) ≡ Some d → o ≡ Some d
    by_value None e q = cc
    by_value (Some v) e q = q

    by_test : (b : Bool) → bytes_eq x n ≡ b → (if b then Some (or_else_this [] (look_up x entries)) else look_up n
        (arranged [] names entries)) ≡ Some d → is_some (look_up x entries) ≡ true
        → (look_up n (arranged [] names entries) ≡ Some d → (look_up n entries ≡ Some d) × (is_among n names ≡ true))
        → (look_up n entries ≡ Some d) × ((b || is_among n names) ≡ true)
    by_test true e q there ih = let z = bytes-true x n e in (subst (λ y. look_up y entries ≡ Some d) z (by_value (look_up x entries) there q), refl)
    by_test false e q there ih = ih q

pub arranged-some : (names : List (List ℕ)) (entries : List (List ℕ × List ℕ)) (n : List ℕ) → is_among n names ≡ true
    → is_some (look_up n (arranged [] names entries)) ≡ true
arranged-some [] entries n h = cc
arranged-some (x ∷ names) entries n h = grind (arith, arranged-some names entries n)

named-looked : (ds : List (List ℕ × List ℕ)) (n : List ℕ) → is_among n (names_of ds) ≡ true → is_some (look_up n ds) ≡ true
named-looked [] n h = cc
named-looked (d ∷ ds) n h = grind (arith, named-looked ds n)

-- what holds of every name holds of all
pub every : (f : List ℕ → Bool) (names : List (List ℕ)) → ((n : List ℕ) → is_among n names ≡ true → f n ≡ true) → list_all f names ≡ true
every f [] h = refl
every f (x ∷ names) h = and_from _ _ (h x (among_head x names)) (every f names (λ n i. h n (among_tail n x names i)))

-- ---- an honest party's own secrets

held_all : (s : Setup) (a : List ℕ) (ns : List (List ℕ)) → is_some (not_held s a ns) ≡ false → list_all (λ n. is_some (held_secret s a n)) ns ≡ true
held_all s a [] h = refl
held_all s a (n ∷ ns) h = grind (arith, held_all s a ns)

long_all : (s : Setup) (a : List ℕ) (ns : List (List ℕ)) → is_some (badly_long s a ns) ≡ false
    → list_all (λ n. is_secret_long (bytes_or_none (held_secret s a n))) ns ≡ true
long_all s a [] h = refl
long_all s a (n ∷ ns) h = grind (arith, long_all s a ns)

pub own_looked : (s : Setup) (a n : List ℕ) (ns : List (List ℕ)) → is_among n ns ≡ true → look_up n (own_digests s a ns)
    ≡ Some (s.hash (bytes_or_none (held_secret s a n)))
own_looked s a n [] h = cc
own_looked s a n (m ∷ ns) h = by_test (bytes_eq m n) refl h (own_looked s a n ns)
  where
    by_test : (b : Bool) → bytes_eq m n ≡ b → (b || is_among n ns) ≡ true
        → (is_among n ns ≡ true → look_up n (own_digests s a ns) ≡ Some (s.hash (bytes_or_none (held_secret s a n))))
        → (if b then Some (s.hash (bytes_or_none (held_secret s a m))) else look_up n (own_digests s a ns)) ≡ Some (s.hash (bytes_or_none (held_secret s a n)))
    by_test true e q ih = ap (λ y. Some (s.hash (bytes_or_none (held_secret s a y)))) (bytes-true m n e)
    by_test false e q ih = ih q

-- all_among of a party's secrets has its digest
pub digests_looked : (s : Setup) (k : ℕ) (a : List ℕ) (ds : List (List ℕ × List ℕ)) → names_fit s k a ds ≡ true
    → list_all (λ n. is_some (look_up n (committed_digests s k a ds))) (secrets_at s k a) ≡ true
digests_looked s k a ds h = by_honest (is_honest s a) refl h
  where
    names : List (List ℕ)
    names = secrets_at s k a

    by_honest : (b : Bool) → is_honest s a ≡ b → (if b then length ds == 0 else are_rearranged (names_of ds) names) ≡ true
        → list_all (λ n. is_some (look_up n (if b then own_digests s a names else ds))) names ≡ true
    by_honest true e r = every (λ n. is_some (look_up n (own_digests s a names))) names (λ n i. ap is_some (own_looked s a n names i))
    by_honest false e r =
        let p = and_parts (are_different (names_of ds) && list_all (λ n. is_among n names) (names_of ds)) (list_all (λ n. is_among n (names_of ds)) names) r in
        every (λ n. is_some (look_up n ds)) names (λ n i. named-looked ds n (all_among (λ m. is_among m (names_of ds)) names n p.1 i))

own_heard : (s : Setup) (a n : List ℕ) (ns : List (List ℕ)) → is_among n ns ≡ true → is_among (bytes_or_none (held_secret s a n)) (own_strings s a ns) ≡ true
own_heard s a n [] h = cc
own_heard s a n (m ∷ ns) h = elim (or_cases (bytes_eq m n) (is_among n ns) h) [
  | inl q ↦ subst (λ y. is_among (bytes_or_none (held_secret s a y)) (own_strings s a (m ∷ ns)) ≡ true) (bytes-true m n q)
      (among_head (bytes_or_none (held_secret s a m)) (own_strings s a ns))
  | inr q ↦ among_tail (bytes_or_none (held_secret s a n)) (bytes_or_none (held_secret s a m)) (own_strings s a ns) (own_heard s a n ns q)
]

own_one : (s : Setup) (hs : List (List ℕ)) (o : Option (List ℕ)) → is_some o ≡ true → is_secret_long (bytes_or_none o) ≡ true
    → is_among (bytes_or_none o) hs ≡ true → is_own s hs o (Some (s.hash (bytes_or_none o))) ≡ true
own_one s hs None h l k = cc
own_one s hs (Some t) h l k = and_from _ _ (and_from _ _ (bytes_refl (s.hash t)) l) k

-- ---- lengths

own_fair : (o : Option (List ℕ)) → is_some o ≡ true → is_secret_long (bytes_or_none o) ≡ true → is_fair (option_map secret_size o) ≡ true
own_fair None h l = cc
own_fair (Some t) h l = grind (arith, nat_tests)

own_told : (o : Option (List ℕ)) → is_some o ≡ true → is_some (option_map secret_size o) ≡ true
own_told None h = cc
own_told (Some t) h = refl

found_fair : (s : Setup) (d : List ℕ) (ts : List (List ℕ)) → is_fair (option_map secret_size (find (fits s d) ts)) ≡ true
found_fair s d [] = refl
found_fair s d (t ∷ ts) = grind (arith, nat_tests, found_fair s d ts)

lists_fair : (s : Setup) (z : List (List ℕ)) (a : List ℕ) (entries : List (List ℕ × List ℕ)) (names : List (List ℕ))
    → ((n : List ℕ) → is_among n names ≡ true → is_fair (length_in_run s z a n (or_else_this [] (look_up n entries))) ≡ true)
    → lists_each names (lengths_in_run s z a (arranged [] names entries)) ≡ true
lists_fair s z a entries [] h = refl
lists_fair s z a entries (name ∷ names) h =
    and_from _ _ (and_from _ _ (bytes_refl name) (h name (among_head name names))) (lists_fair s z a entries names (λ n i. h n (among_tail n name names i)))

all_told : (s : Setup) (z : List (List ℕ)) (a : List ℕ) (entries : List (List ℕ × List ℕ)) (ns : List (List ℕ))
    → ((n : List ℕ) → is_among n ns ≡ true → is_some (length_in_run s z a n (or_else_this [] (look_up n entries))) ≡ true)
    → are_known (lengths_in_run s z a (arranged [] ns entries)) ≡ true
all_told s z a entries [] h = refl
all_told s z a entries (n ∷ ns) h = and_from _ _ (h n (among_head n ns)) (all_told s z a entries ns (λ m i. h m (among_tail m n ns i)))

-- ---- where secrets stand

party_secret : (k : ℕ) (a n : List ℕ) (ss : List (List ℕ × List ℕ)) → is_among n (names_of_party a ss) ≡ true
    → has_secret (record { contract = k; party = a; secret = n }) (secrets_of_contract k ss) ≡ true
party_secret k a n [] h = cc
party_secret k a n (p ∷ ss) h = by_test (bytes_eq p.1 a) refl h (party_secret k a n ss)
  where
    x : Revealed
    x = record { contract = k; party = a; secret = n }

    by_test : (b : Bool) → bytes_eq p.1 a ≡ b → is_among n (if b then p.0 ∷ names_of_party a ss else names_of_party a ss) ≡ true
        → (is_among n (names_of_party a ss) ≡ true → has_secret x (secrets_of_contract k ss) ≡ true)
        → has_secret x (secrets_of_contract k (p ∷ ss)) ≡ true
    by_test true e q ih = elim (or_cases (bytes_eq p.0 n) (is_among n (names_of_party a ss)) q) [
      | inl t ↦ or_left _ _ (and_from _ _ (and_from _ _ (eq-eqb k k refl) e) t)
      | inr t ↦ or_right (same_secret (record { contract = k; party = p.1; secret = p.0 }) x) _ (ih t)
    ]
    by_test false e q ih = or_right (same_secret (record { contract = k; party = p.1; secret = p.0 }) x) _ (ih q)

stands_from : (j k : ℕ) (x : Revealed) (cs : List Advert) (c : Advert) → slice_get cs k ≡ Some c
    → has_secret x (secrets_of_contract (k + j) (secrets c.pre)) ≡ true → has_secret x (secrets_from j cs) ≡ true
stands_from j k x [] c h i = cc
stands_from j zero x (d ∷ cs) c h i =
    let e : d ≡ c = cc in
    let z : 0 + j ≡ j = omega arith in
    has_secret-append x (secrets_of_contract j (secrets d.pre)) (secrets_from (j + 1) cs)
    ∙ or_left (has_secret x (secrets_of_contract j (secrets d.pre))) _
    (subst (λ (y : Advert). has_secret x (secrets_of_contract j (secrets y.pre)) ≡ true) (sym e) (rw z at i))
stands_from j (suc k) x (d ∷ cs) c h i =
    let z : suc k + j ≡ k + (j + 1) = omega arith in
    has_secret-append x (secrets_of_contract j (secrets d.pre)) (secrets_from (j + 1) cs)
    ∙ or_right (has_secret x (secrets_of_contract j (secrets d.pre))) _ (stands_from (j + 1) k x cs c h (rw z at i))

pub in_all : (s : Setup) (k : ℕ) (a n : List ℕ) → is_among n (secrets_at s k a) ≡ true
    → has_secret (record { contract = k; party = a; secret = n }) (all_secrets s) ≡ true
in_all s k a n h = by_contract (contract_at s k) refl h
  where
    by_contract : (o : Option Advert) → contract_at s k ≡ o → is_among n (secrets_of a (pre_of o)) ≡ true
        → has_secret (record { contract = k; party = a; secret = n }) (all_secrets s) ≡ true
    by_contract None e q = cc
    by_contract (Some c) e q =
        let z : k + 0 ≡ k = omega arith in
        stands_from 0 k (record { contract = k; party = a; secret = n }) s.contracts c e (rw z (party_secret k a n (secrets c.pre) q))

-- ---- look-ups in the commitments

digest_more : (ps ys : List Promise) (x : Revealed) → is_some (digest_at ps x) ≡ true → digest_at (ps ++ ys) x ≡ digest_at ps x
digest_more [] ys x h = cc
digest_more (p ∷ ps) ys x h = grind (arith, digest_more ps ys x)

digest_skip : (ps : List Promise) (p : Promise) (x : Revealed) → list_any (is_promise_of x.contract x.party) ps ≡ false
    → digest_at (ps ++ p ∷ []) x ≡ digest_at (p ∷ []) x
digest_skip [] p x h = refl
digest_skip (q ∷ ps) p x h =
    let f = or_parts (is_promise_of x.contract x.party q) (list_any (is_promise_of x.contract x.party) ps) h in
    rw f.0 (digest_skip ps p x f.1)

shown-more : (s : Setup) (posted : List (List ℕ)) (x : Revealed) (ps ys : List Promise) → is_shown s posted (digest_at ps x) ≡ true
    → is_shown s posted (digest_at (ps ++ ys) x) ≡ true
shown-more s posted x ps ys h = subst (λ o. is_shown s posted o ≡ true) (sym (digest_more ps ys x (shown-is_some s posted (digest_at ps x) h))) h

-- ---- the event

module _ (s : Setup) (z : List (List ℕ)) (apart : different_secrets (all_secrets s) ≡ true) (g : Configuration) (w : World)
    (con : Constant s g) (advertised : g.advertised ≡ w.advertised) (kept : KeptSecrets s z g w)
    (k : ℕ) (a : List ℕ) (ds : List (List ℕ × List ℕ))
    (none : first_reason (commit_row s w k a ds) ≡ None) (fresh : first_reason (digest_row s w k a ds) ≡ None) where
  abbrev names : List (List ℕ)
  names = secrets_at s k a

  abbrev digests : List (List ℕ × List ℕ)
  digests = committed_digests s k a ds

  abbrev promise : Promise
  promise = record { contract = k; party = a; digests = arranged [] names digests }

  row : NoneTrue (commit_row s w k a ds)
  row = no_reason-none_true (commit_row s w k a ds) none

  unused : is_some (used_again (used_digests w.promises) digests) ≡ false
  unused = (no_reason-none_true (digest_row s w k a ds) fresh).0

  held : is_honest s a ≡ true → list_all (λ n. is_some (held_secret s a n)) names ≡ true
  held h = held_all s a names (rw h at row.1.1.1.1.1.0)

  long : is_honest s a ≡ true → list_all (λ n. is_secret_long (bytes_or_none (held_secret s a n))) names ≡ true
  long h = long_all s a names (rw h at row.1.1.1.1.1.1.0)

  -- all_among name has its digest
  looked : list_all (λ n. is_some (look_up n digests)) names ≡ true
  looked = digests_looked s k a ds (not-false _ row.1.1.1.1.0)

  fair : (n : List ℕ) → is_among n names ≡ true → is_fair (length_in_run s z a n (or_else_this [] (look_up n digests))) ≡ true
  fair n i = by_honest (is_honest s a) refl
    where
      by_honest : (b : Bool) → is_honest s a ≡ b
          → is_fair (if b then option_map secret_size (held_secret s a n) else option_map secret_size
          (fitting s z (or_else_this [] (look_up n digests)))) ≡ true
      by_honest true e = own_fair (held_secret s a n) (all_among (λ m. is_some (held_secret s a m)) names n (held e) i)
          (all_among (λ m. is_secret_long (bytes_or_none (held_secret s a m))) names n (long e) i)
      by_honest false e = found_fair s (or_else_this [] (look_up n digests)) z

  told : (not (is_among a s.header.honest) || are_known (lengths_in_run s z a (arranged [] names digests))) ≡ true
  told = by_honest (is_honest s a) refl
    where
      by_honest : (b : Bool) → is_honest s a ≡ b → (not b || are_known (lengths_in_run s z a (arranged [] names digests))) ≡ true
      by_honest false e = refl
      by_honest true e =
          all_told s z a digests names (λ n i. rw e (own_told (held_secret s a n) (all_among (λ m. is_some (held_secret s a m)) names n (held e) i)))

  new : not (has_committed g.committed k a) ≡ true
  new = rw (kept.lengths, any_map (λ c. (c.contract == k) && bytes_eq c.party a) (committed_by s z) w.promises) (not_from_false _ row.1.1.1.0)

  abbrev step : Step
  step = steps.Commit k a (commit_lengths s z k a ds)

  pub legal_commit : Legal g (step ∷ [])
  legal_commit = (
    passes g step (
      rw advertised (not-false _ row.1.0),
      (
        and_from _ _ (rw (con.contracts, same_people (contract_at s k)) (not-false _ row.1.1.0)) new,
        (
          rw (con.contracts, same_pre (contract_at s k)) (lists_fair s z a digests names fair),
          (rw con.honest told, tt),
        ),
      ),
    ),
    tt,
  )

  -- what is looked up in the commitment
  look_new : (n d : List ℕ) → look_up n (arranged [] names digests) ≡ Some d → (look_up n digests ≡ Some d) × (is_among n names ≡ true)
  look_new n d h = arranged-look names digests n d h looked

  module _ (hs : List (List ℕ)) (next : World) (ep : next.promises ≡ w.promises ++ promise ∷ []) (et : next.posted ≡ w.posted ++ [])
      (eh : next.hashed ≡ noted_all w.hashed hs) (clear : collision s.hash w.hashed hs ≡ None)
      (heard : (t : List ℕ) → is_among t (committed_strings s k a) ≡ true → is_among t hs ≡ true) (within : Begins z next.posted) where
    same_posted : next.posted ≡ w.posted
    same_posted = et ∙ append-nil w.posted

    -- of an honest party's new digest
    own_new : (x : Revealed) (d : List ℕ) → is_honest s x.party ≡ true → digest_at (promise ∷ []) x ≡ Some d
        → is_own s next.hashed (held_secret s x.party x.secret) (Some d) ≡ true
    own_new x d honest h =
        let n = new_at promise x d h in
        let l = look_new x.secret d n.2 in
        let ha : is_honest s a ≡ true = subst (λ b. is_honest s b ≡ true) n.1 honest in
        let own = own_looked s a x.secret names l.1 in
        let dl : look_up x.secret (own_digests s a names) ≡ Some d = rw ha at l.0 in
        let e : Some (s.hash (bytes_or_none (held_secret s a x.secret))) ≡ Some d = sym own ∙ dl in
        let there = heard (bytes_or_none (held_secret s a x.secret)) (rw ha (own_heard s a x.secret names l.1)) in
        let one = own_one s next.hashed (held_secret s a x.secret) (all_among (λ m. is_some (held_secret s a m)) names x.secret (held ha) l.1)
        (all_among (λ m. is_secret_long (bytes_or_none (held_secret s a m))) names x.secret (long ha) l.1)
        (rw eh (all_new w.hashed hs _ there)) in
        subst (λ b. is_own s next.hashed (held_secret s b x.secret) (Some d) ≡ true) (sym n.1)
        (subst (λ o. is_own s next.hashed (held_secret s a x.secret) o ≡ true) e one)

    own : (x : Revealed) → is_honest s x.party ≡ true → is_own s next.hashed (held_secret s x.party x.secret) (digest_at next.promises x) ≡ true
    own x honest = rw ep (by_value (digest_at (w.promises ++ promise ∷ []) x) refl)
      where
        old : (d : List ℕ) → digest_at w.promises x ≡ Some d → is_own s next.hashed (held_secret s x.party x.secret) (Some d) ≡ true
        old d e = rw eh (is_own-more s w.hashed hs (held_secret s x.party x.secret) (Some d)
            (subst (λ o. is_own s w.hashed (held_secret s x.party x.secret) o ≡ true) e (kept.own x honest)))

        by_value : (r : Option (List ℕ)) → digest_at (w.promises ++ promise ∷ []) x ≡ r → is_own s next.hashed (held_secret s x.party x.secret) r ≡ true
        by_value None e = refl
        by_value (Some d) e = elim (at_push w.promises promise x d e) [ inl q ↦ old d q | inr q ↦ own_new x d honest q ]

    known : (x : Revealed) → is_some (digest_at next.promises x) ≡ true → has_secret x (all_secrets s) ≡ true
    known x h = by_value (digest_at (w.promises ++ promise ∷ []) x) refl (rw ep at h)
      where
        new_one : (d : List ℕ) → digest_at (promise ∷ []) x ≡ Some d → has_secret x (all_secrets s) ≡ true
        new_one d q =
            let n = new_at promise x d q in
            let l = look_new x.secret d n.2 in
            let i = in_all s k a x.secret l.1 in
            let e : record { contract = k; party = a; secret = x.secret } ≡ x = let f = sym n.0 in let h' = sym n.1 in λ j. record {
              contract = f j;
              party = h' j;
              secret = x.secret;
            } in
            subst (λ y. has_secret y (all_secrets s) ≡ true) e i

        by_value : (r : Option (List ℕ)) → digest_at (w.promises ++ promise ∷ []) x ≡ r → is_some r ≡ true → has_secret x (all_secrets s) ≡ true
        by_value None e q = cc
        by_value (Some d) e q = elim (at_push w.promises promise x d e) [ inl y ↦ kept.known x (ap is_some y) | inr y ↦ new_one d y ]

    grows : (x : Revealed) → shown s w x ≡ true → shown s next x ≡ true
    grows x h = rw (ep, same_posted) (shown-more s w.posted x w.promises (promise ∷ []) h)

    clear' : NoCollision s.hash next.hashed
    clear' = rw eh (no_collision s.hash w.hashed hs kept.clear clear)

    heard' : (t : List ℕ) → is_among t next.posted ≡ true → is_among t next.hashed ≡ true
    heard' t h = rw eh (all_more w.hashed hs t (kept.heard t (rw same_posted at h)))

    full : (x : Revealed) → has_promised next x.contract x.party ≡ true → is_among x.secret (secrets_at s x.contract x.party) ≡ true
        → is_some (digest_at next.promises x) ≡ true
    full x p i = rw ep (by_old (has_promised w x.contract x.party) refl)
      where
        both : (list_any (is_promise_of x.contract x.party) w.promises || list_any (is_promise_of x.contract x.party) (promise ∷ [])) ≡ true
        both = sym (any-append (is_promise_of x.contract x.party) w.promises (promise ∷ [])) ∙ ap (list_any (is_promise_of x.contract x.party)) (sym ep) ∙ p

        by_old : (b : Bool) → list_any (is_promise_of x.contract x.party) w.promises ≡ b → is_some (digest_at (w.promises ++ promise ∷ []) x) ≡ true
        by_old true e = let f = kept.full x e i in ap is_some (digest_more w.promises (promise ∷ []) x f) ∙ f
        by_old false e =
            let t : is_promise_of x.contract x.party promise ≡ true = (let q = rw e at both in grind arith) in
            let u = and_parts (k == x.contract) (bytes_eq a x.party) t in
            let ec = eqb-true k x.contract u.0 in
            let ea = bytes-true a x.party u.1 in
            let j : is_among x.secret names ≡ true =
            subst (λ c. is_among x.secret (secrets_at s c a) ≡ true)
            (sym ec) (subst (λ b. is_among x.secret (secrets_at s x.contract b) ≡ true) (sym ea) i) in
            ap is_some (digest_skip w.promises promise x e) ∙ rw t (arranged-some names digests x.secret j)

    abbrev mid : Configuration
    mid = effect g step

    lengths : mid.committed ≡ map (committed_by s z) next.promises
    lengths = ap (λ cs. cs ++ committed_by s z promise ∷ []) kept.lengths ∙ sym (map_append (committed_by s z) w.promises (promise ∷ []))
        ∙ ap (map (committed_by s z)) (sym ep)

    pub legal_all : Legal g (step ∷ reveals s w next)
    legal_all = (legal_commit.0, reveals_legal s z mid w next kept.revealed lengths own known within grows apart)

    pub kept_commit : KeptSecrets s z (after_steps g (step ∷ reveals s w next)) next
    kept_commit = rw (after-reveals (newly_shown s w next) mid) (record {
      lengths = lengths;
      revealed = reveals_agree s z mid w next kept.revealed lengths own known within grows apart;
      known = known;
      own = own;
      clear = clear';
      heard = heard';
      once = rw ep (once_push w.promises promise digests kept.once unused (λ n d h. (look_new n d h).0));
      early = λ b n t o h. rw (ep, used-append w.promises (promise ∷ []))
          (among_left (s.hash t) (used_digests w.promises) _ (kept.early b n t o (rw same_posted at h)));
      full = full;
    })

    -- no honest party's secret comes to be shown
    pub none_shown : (x : Revealed) → shown s next x ≡ true → shown s w x ≡ false → is_honest s x.party ≡ true → ⊥
    none_shown x sh hid honest = by_value (digest_at (w.promises ++ promise ∷ []) x) refl (rw (ep, same_posted) at sh)
      where
        new_one : (d : List ℕ) → digest_at (promise ∷ []) x ≡ Some d → is_shown s w.posted (Some d) ≡ true → ⊥
        new_one d q v =
            let o = is_own-some s next.hashed (held_secret s x.party x.secret) (Some d) (own_new x d honest q) refl in
            let e : d ≡ s.hash o.secret = let u = o.digest in cc in
            let there = posted_own s o.secret o.long next.hashed w.posted clear'
            (λ u i. heard' u (rw same_posted i)) o.heard (subst (λ y. is_shown s w.posted (Some y) ≡ true) e v) in
            let used = kept.early x.party x.secret o.secret o.own there in
            let n = new_at promise x d q in
            both_ways _ (not_before (used_digests w.promises) digests x.secret d unused (look_new x.secret d n.2).0)
            (subst (λ y. is_among y (used_digests w.promises) ≡ true) (sym e) used)

        by_value : (r : Option (List ℕ)) → digest_at (w.promises ++ promise ∷ []) x ≡ r → is_shown s w.posted r ≡ true → ⊥
        by_value None e v = cc
        by_value (Some d) e v = elim (at_push w.promises promise x d e) [
          | inl y ↦ both_ways _ hid (subst (λ o. is_shown s w.posted o ≡ true) (sym y) v)
          | inr y ↦ new_one d y v
        ]
