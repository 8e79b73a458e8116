-- What is legal whatever a chain does: the contract is advertised and agreed on, secrets are revealed, and time passes.
use Rattle.std.proofs.Common.{◌≡◌, ℕ, suc, ◌+◌, ◌-◌, ◌<◌, ◌≤◌, List, [], ◌∷◌, ◌++◌, length, map, Bool, true, false, Some}
use Rattle.std.proofs.Common.{refl, sym, ap, subst, ◌∙◌, inl, inr, cond, arith, append-nil, append_assoc, length-append}
use Rattle.std.specs.Prelude.{◌||◌, ◌&&◌, ◌==◌, not, is_some, nat_lt, nat_le}
use Rattle.std.specs.List.{list_any}
use Rattle.std.specs.Str.{bytes_eq}
use Rattle.std.proofs.lemmas.Bool.{and_parts, and_from, or_left, or_right, not-true, both_ways, eq-eqb, ne_eqb}
use Rattle.std.proofs.lemmas.Bool.Decides.{nat_tests}
use Rattle.spec_data.specs.Lists.{AllTrue, look_up, is_among, are_different}
use Rattle.spec_data.specs.Ranges.{last_height, most_secret_length}
use Rattle.spec_terms.specs.Faults.{IsWellFormed}
use Rattle.spec_terms.specs.Precondition.{Holding, deposits, secrets, secrets_of, names_of, names_of_party}
use Rattle.spec_calculus.specs.declared.step.Owner.{Owner}
use Rattle.spec_calculus.specs.declared.step.Owner.TheVariants as owners
use Rattle.spec_calculus.specs.declared.step.Step.{Step}
use Rattle.spec_calculus.specs.declared.step.Step.TheVariants as steps
use Rattle.spec_calculus.specs.declared.parts.Advertised.{Advertised}
use Rattle.spec_calculus.specs.declared.parts.Committed.{Committed}
use Rattle.spec_calculus.specs.declared.parts.Deposit.{Deposit as LiveDeposit}
use Rattle.spec_calculus.specs.declared.parts.Revealed.{Revealed}
use Rattle.spec_calculus.specs.Beginning.{binds_each, are_bound_apart, fits_deposit, is_any_honest, has_committed, lists_each, are_known}
use Rattle.spec_calculus.specs.Branches.{length_at, is_known, is_revealed}
use Rattle.spec_calculus.specs.Configuration.{Configuration}
use Rattle.spec_calculus.specs.Moves.{deposit_at, made}
use Rattle.spec_calculus.specs.Steps.{fails, after_steps, Legal, owned, commit_premises, reveal_premises}
use Rattle.spec_compiler.specs.Keyed.Instance.{Instance, people}
use Rattle.spec_deal.specs.Needed.{deal_contract}
use Rattle.spec_chain.specs.Following.{reveal_steps}
use Rattle.theory_calculus.specs.Members.{Is_in}
use Rattle.theory_calculus.proofs.Funded.{IsFine}
use Rattle.theory_calculus.proofs.Kept.{fine_after, opening_fine}
use Rattle.theory_calculus.proofs.Names.{bytes-true, bytes_refl, in_named}
use Rattle.theory_calculus.proofs.Runs.{runs_are_one, kept_along}
use Rattle.theory_psbt.proofs.KeysDiffer.{participants_differ}
use Rattle.theory_world.proofs.Contracts.Mentions.{a_person}
use Rattle.theory_world.proofs.Hashed.{among_head, among_tail}
use Rattle.theory_world.proofs.Tests.{any-append}
use Rattle.theory_run.proofs.Steps.Legal.{passes}
use Rattle.theory_chain.specs.ChainSteps.{numbered, deal_bindings, deal_opening, with_lengths, commit_step, agreed_steps, pass_to, passed_to}

-- ---- runs

-- what is kept along a legal run
pub fine_along : (g : Configuration) (ss : List Step) → IsFine g → Legal g ss → IsFine (after_steps g ss)
fine_along g ss fine legal =
    kept_along IsFine (λ c s e f. fine_after c f s e) g ss (after_steps g ss) ((runs_are_one g ss (after_steps g ss)).1 (legal, refl)) fine

-- ---- time

abbrev pub at_time : Configuration → ℕ → Configuration
at_time g time = record g { time = time }

pub passes_to : (g : Configuration) (height : ℕ) → g.time ≤ height → height ≤ last_height
    → Legal g (pass_to g.time height) × (after_steps g (pass_to g.time height) ≡ at_time g height)
passes_to g height below small = by_test (nat_lt g.time height) refl
  where
    by_test : (b : Bool) → nat_lt g.time height ≡ b
        → Legal g (cond b (steps.Delay (height - g.time) ∷ []) [])
        × (after_steps g (cond b (steps.Delay (height - g.time) ∷ []) []) ≡ at_time g height)
    by_test true e =
        let less : g.time < height = grind (arith, nat_tests) in
        let sum : g.time + (height - g.time) ≡ height = omega (arith, less) in
        let one : nat_le 1 (height - g.time) ≡ true = some (height - g.time) (omega (arith, less)) in
        let most : nat_le (g.time + (height - g.time)) last_height ≡ true = ap (λ (n : ℕ). nat_le n last_height) sum ∙ within height small in
        ((passes g (steps.Delay (height - g.time)) (one, (most, tt)), tt), ap (at_time g) sum)
      where
        some : (n : ℕ) → 1 ≤ n → nat_le 1 n ≡ true
        some n h = grind (arith, nat_tests)

        within : (n : ℕ) → n ≤ last_height → nat_le n last_height ≡ true
        within n h = grind (arith, nat_tests)
    by_test false e =
        let most : height ≤ g.time = grind (arith, nat_tests) in
        let same : g.time ≡ height = omega (arith, most, below) in
        (tt, ap (at_time g) same)

pub passed : (time height : ℕ) → time ≤ height → passed_to time height ≡ height
passed time height h = by_test (nat_lt time height) refl
  where
    by_test : (b : Bool) → nat_lt time height ≡ b → cond b height time ≡ height
    by_test true e = refl
    by_test false e = let most : height ≤ time = grind (arith, nat_tests) in omega (arith, most, h)

-- ---- the contract is advertised

same_number : (n : ℕ) → (n == n) ≡ true
same_number n = eq-eqb n n refl

-- the deposit of an owner behind others
made_at : (n : ℕ) (before : List (Owner × ℕ)) (o : Owner × ℕ) (rest : List (Owner × ℕ)) (m : ℕ) → m ≡ n + length before
    → deposit_at (made n (before ++ o ∷ rest)) m ≡ Some (record { number = m; owner = o.0; value = o.1 })
made_at n [] o rest m e =
    let same : n ≡ m = omega (arith, e) in
    ap (λ (b : Bool). cond b (Some (record { number = n; owner = o.0; value = o.1 })) (deposit_at (made (n + 1) rest) m)) (eq-eqb n m same)
    ∙ (λ i. Some (record { number = same i; owner = o.0; value = o.1 }))
made_at n (b ∷ before) o rest m e =
    let more : m ≡ n + 1 + length before = omega (arith, e) in
    let other : (n == m) ≡ false = ne_eqb n m (λ q. omega (arith, q, e)) in
    ap (λ (t : Bool). cond t (Some (record { number = n; owner = b.0; value = b.1 })) (deposit_at (made (n + 1) (before ++ o ∷ rest)) m)) other
    ∙ made_at (n + 1) before o rest m more

abbrev owner_of : List ℕ × Holding → List ℕ × ℕ
owner_of d = ((d.1).owner, (d.1).value)

module _ (all : List (List ℕ × Holding)) where
  abbrev first_deposits : List LiveDeposit
  first_deposits = made 0 (owned (map owner_of all))

  -- each is bound to the deposit of its number
  binds_from : (before ds : List (List ℕ × Holding)) (n : ℕ) → before ++ ds ≡ all → n ≡ length before
      → binds_each first_deposits ds (numbered n (names_of ds)) ≡ true
  binds_from before [] n e k = refl
  binds_from before (d ∷ ds) n e k =
      and_from _ _
      (and_from _ _ (bytes_refl (d.0)) (fits found))
      (binds_from (before ++ d ∷ []) ds (n + 1) (append_assoc before (d ∷ []) ds ∙ e) (let l = length-append before (d ∷ []) in omega (arith, k, l)))
    where
      split_owned : (xs ys : List (List ℕ × Holding)) → owned (map owner_of (xs ++ ys)) ≡ owned (map owner_of xs) ++ owned (map owner_of ys)
      split_owned [] ys = refl
      split_owned (x ∷ xs) ys = ap (λ (zs : List (Owner × ℕ)). (owners.Party ((x.1).owner), (x.1).value) ∷ zs) (split_owned xs ys)

      many : (xs : List (List ℕ × Holding)) → length (owned (map owner_of xs)) ≡ length xs
      many [] = refl
      many (x ∷ xs) = ap suc (many xs)

      found : deposit_at first_deposits n ≡ Some (record { number = n; owner = owners.Party ((d.1).owner); value = (d.1).value })
      found =
          ap (λ (xs : List (List ℕ × Holding)). deposit_at (made 0 (owned (map owner_of xs))) n) (sym e)
          ∙ ap (λ (os : List (Owner × ℕ)). deposit_at (made 0 os) n) (split_owned before (d ∷ ds))
          ∙ made_at 0 (owned (map owner_of before)) (owners.Party ((d.1).owner), (d.1).value) (owned (map owner_of ds)) n
          (let l = many before in omega (arith, k, l))

      fits : deposit_at first_deposits n ≡ Some (record { number = n; owner = owners.Party ((d.1).owner); value = (d.1).value })
          → fits_deposit first_deposits n ((d.1).owner) ((d.1).value) ≡ true
      fits f = rw f (and_from _ _ (bytes_refl ((d.1).owner)) (same_number ((d.1).value)))

-- numbers from n on are bound apart
above : (n m : ℕ) (names : List (List ℕ)) → m < n → list_any (λ (c : List ℕ × ℕ). c.1 == m) (numbered n names) ≡ false
above n m [] h = refl
above n m (x ∷ names) h = rw (ne_eqb n m (λ q. omega (arith, q, h))) (above (n + 1) m names (omega (arith, h)))

bound_apart : (n : ℕ) (names : List (List ℕ)) → are_bound_apart (numbered n names) ≡ true
bound_apart n [] = refl
bound_apart n (x ∷ names) = rw (above (n + 1) n names (omega arith)) (bound_apart (n + 1) names)

any_person : (ps all : List (List ℕ)) (p : List ℕ) → is_among p ps ≡ true → is_among p all ≡ true → is_any_honest ps all ≡ true
any_person [] all p h k = cc
any_person (q ∷ ps) all p h k = by_test (bytes_eq q p) refl h (any_person ps all p)
  where
    by_test : (b : Bool) → bytes_eq q p ≡ b → (b || is_among p ps) ≡ true
        → (is_among p ps ≡ true → is_among p all ≡ true → is_any_honest ps all ≡ true) → (is_among q all || is_any_honest ps all) ≡ true
    by_test true e l later = or_left _ _ (subst (λ (x : List ℕ). is_among x all ≡ true) (sym (bytes-true q p e)) k)
    by_test false e l later = or_right (is_among q all) _ (later l k)

module _ (s : Instance) (lengths : List ℕ → ℕ) (fair : (name : List ℕ) → lengths name ≤ most_secret_length) where
  abbrev pub advertised_deal : Advertised
  advertised_deal = record { contract = deal_contract; bindings = deal_bindings s }

  abbrev pub committed_by : List ℕ → Committed
  committed_by party = record { contract = deal_contract; party = party; lengths = with_lengths lengths (secrets_of party s.advert.pre) }

  abbrev pub after_advert : Configuration
  after_advert = record (deal_opening s) { advertised = advertised_deal ∷ [] }

  some_person : IsWellFormed s.advert → is_any_honest (people s) (people s) ≡ true
  some_person well =
      let p = a_person s.advert well in
      any_person (people s) (people s) p.0 p.1 p.1

  advert_legal : IsWellFormed s.advert → fails (deal_opening s) (steps.Advertise deal_contract (deal_bindings s)) ≡ 0
  advert_legal well =
      passes (deal_opening s) (steps.Advertise deal_contract (deal_bindings s)) (
        refl,
        (
          and_from _ _ (binds_from (deposits s.advert.pre) [] (deposits s.advert.pre) 0 refl refl)
              (bound_apart 0 (names_of (deposits s.advert.pre))),
          (some_person well, tt),
        ),
      )

  -- ---- and agreed on

  abbrev after_commits : List (List ℕ) → Configuration
  after_commits ps = record after_advert { committed = map committed_by ps }

  lists_all : (names : List (List ℕ)) → lists_each names (with_lengths lengths names) ≡ true
  lists_all [] = refl
  lists_all (a ∷ names) = and_from _ _ (and_from _ _ (bytes_refl a) (small (lengths a) (fair a))) (lists_all names)
    where
      small : (n : ℕ) → n ≤ most_secret_length → nat_le n most_secret_length ≡ true
      small n h = grind (arith, nat_tests)

  all_known : (names : List (List ℕ)) → are_known (with_lengths lengths names) ≡ true
  all_known [] = refl
  all_known (a ∷ names) = all_known names

  not_committed : (before : List (List ℕ)) (p : List ℕ) → is_among p before ≡ false → has_committed (map committed_by before) deal_contract p ≡ false
  not_committed [] p h = refl
  not_committed (q ∷ before) p h =
      let r = neither (bytes_eq q p) (is_among p before) h in
      rw r.0 (not_committed before p r.1)
    where
      neither : (a b : Bool) → (a || b) ≡ false → (a ≡ false) × (b ≡ false)
      neither true b k = cc
      neither false b k = (refl, k)

  map_more : (before : List (List ℕ)) (p : List ℕ) → map committed_by (before ++ p ∷ []) ≡ map committed_by before ++ committed_by p ∷ []
  map_more [] p = refl
  map_more (q ∷ before) p = ap (λ (xs : List Committed). committed_by q ∷ xs) (map_more before p)

  commits_legal : (before ps : List (List ℕ)) → before ++ ps ≡ people s → are_different (people s) ≡ true
      → Legal (after_commits before) (map (commit_step lengths s) ps)
      × (after_steps (after_commits before) (map (commit_step lengths s) ps) ≡ after_commits (people s))
  commits_legal before [] e apart = (tt, ap after_commits (sym (append-nil before) ∙ e))
  commits_legal before (p ∷ ps) e apart =
      let there : is_among p (people s) ≡ true = subst (λ (xs : List (List ℕ)). is_among p xs ≡ true) e (later p before ps) in
      let new : is_among p before ≡ false = earlier p before ps (subst (λ (xs : List (List ℕ)). are_different xs ≡ true) (sym e) apart) in
      let row : AllTrue (commit_premises (after_commits before) deal_contract p (with_lengths lengths (secrets_of p s.advert.pre)) (Some s.advert)) = (
        refl,
        (
          and_from _ _ there (ap not (not_committed before p new)),
          (lists_all (secrets_of p s.advert.pre), (or_right (not (is_among p (people s))) _ (all_known (secrets_of p s.advert.pre)), tt)),
        ),
      ) in
      let more : record (after_commits before) { committed = map committed_by before ++ committed_by p ∷ [] } ≡ after_commits (before ++ p ∷ []) =
      ap (λ (xs : List Committed). record after_advert { committed = xs }) (sym (map_more before p)) in
      let rest = commits_legal (before ++ p ∷ []) ps (append_assoc before (p ∷ []) ps ∙ e) apart in (
        (
          passes (after_commits before) (commit_step lengths s p) row,
          subst
              (λ (g : Configuration). Legal g (map (commit_step lengths s) ps)) (sym more) rest.0,
        ),
        ap (λ (g : Configuration). after_steps g (map (commit_step lengths s) ps)) more ∙ rest.1,
      )
    where
      later : (x : List ℕ) (xs ys : List (List ℕ)) → is_among x (xs ++ x ∷ ys) ≡ true
      later x [] ys = among_head x ys
      later x (z ∷ xs) ys = among_tail x z (xs ++ x ∷ ys) (later x xs ys)

      earlier : (x : List ℕ) (xs ys : List (List ℕ)) → are_different (xs ++ x ∷ ys) ≡ true → is_among x xs ≡ false
      earlier x [] ys h = refl
      earlier x (z ∷ xs) ys h =
          let r = and_parts (not (is_among z (xs ++ x ∷ ys))) (are_different (xs ++ x ∷ ys)) h in
          by_test (bytes_eq z x) refl (not-true _ r.0) (earlier x xs ys r.1)
        where
          by_test : (b : Bool) → bytes_eq z x ≡ b → is_among z (xs ++ x ∷ ys) ≡ false → is_among x xs ≡ false → (b || is_among x xs) ≡ false
          by_test true e none ih =
              absurd (both_ways _ none (subst (λ (y : List ℕ). is_among y (xs ++ x ∷ ys) ≡ true) (sym (bytes-true z x e)) (later x xs ys)))
          by_test false e none ih = ih

  -- the configuration when all have agreed
  abbrev pub agreed : Configuration
  agreed = record after_advert { committed = map committed_by (people s) }

  pub agreed_legal : IsWellFormed s.advert
      → Legal (deal_opening s) (agreed_steps lengths s) × (after_steps (deal_opening s) (agreed_steps lengths s) ≡ agreed)
  agreed_legal well =
      let r = commits_legal [] (people s) refl (participants_differ s.advert) in
      ((advert_legal well, r.0), r.1)

  pub agreed_fine : IsWellFormed s.advert → IsFine agreed
  agreed_fine well =
      let r = agreed_legal well in
      subst IsFine r.1
      (fine_along (deal_opening s) (agreed_steps lengths s)
      (opening_fine (people s) (people s) (map owner_of (deposits s.advert.pre)) (s.advert ∷ []) (well, tt)) r.0)

  -- ---- secrets are revealed

  abbrev pub revealed_by : List ℕ × List ℕ → Revealed
  revealed_by p = record { contract = deal_contract; party = p.1; secret = p.0 }

  length_found : (ps : List (List ℕ)) (party secret : List ℕ) → is_among party ps ≡ true
      → length_at (map committed_by ps) deal_contract party secret ≡ look_up secret (with_lengths lengths (secrets_of party s.advert.pre))
  length_found [] party secret h = cc
  length_found (p ∷ ps) party secret h = by_test (bytes_eq p party) refl h (length_found ps party secret)
    where
      by_test : (b : Bool) → bytes_eq p party ≡ b → (b || is_among party ps) ≡ true
          → (is_among party ps ≡ true → length_at (map committed_by ps) deal_contract party secret
          ≡ look_up secret (with_lengths lengths (secrets_of party s.advert.pre)))
          → cond b (look_up secret (with_lengths lengths (secrets_of p s.advert.pre))) (length_at (map committed_by ps) deal_contract party secret)
          ≡ look_up secret (with_lengths lengths (secrets_of party s.advert.pre))
      by_test true e k later = ap (λ (x : List ℕ). look_up secret (with_lengths lengths (secrets_of x s.advert.pre))) (bytes-true p party e)
      by_test false e k later = later k

  looked_length : (names : List (List ℕ)) (a : List ℕ) → is_among a names ≡ true → look_up a (with_lengths lengths names) ≡ Some (Some (lengths a))
  looked_length [] a h = cc
  looked_length (n ∷ names) a h = by_test (bytes_eq n a) refl h (looked_length names a)
    where
      by_test : (b : Bool) → bytes_eq n a ≡ b → (b || is_among a names) ≡ true
          → (is_among a names ≡ true → look_up a (with_lengths lengths names) ≡ Some (Some (lengths a)))
          → cond b (Some (Some (lengths n))) (look_up a (with_lengths lengths names)) ≡ Some (Some (lengths a))
      by_test true e k later = ap (λ (x : List ℕ). Some (Some (lengths x))) (bytes-true n a e)
      by_test false e k later = later k

  own_secret : (ss : List (List ℕ × List ℕ)) (p : List ℕ × List ℕ) → Is_in p ss → is_among (p.0) (names_of_party (p.1) ss) ≡ true
  own_secret [] p h = absurd h
  own_secret (x ∷ ss) p (inl e) =
      subst (λ (b : Bool). is_among (p.0) (cond b (x.0 ∷ names_of_party (p.1) ss) (names_of_party (p.1) ss)) ≡ true)
      (sym (ap (λ (y : List ℕ × List ℕ). bytes_eq (y.1) (p.1)) (sym e) ∙ bytes_refl (p.1)))
      (subst (λ (y : List ℕ × List ℕ). is_among (p.0) (y.0 ∷ names_of_party (p.1) ss) ≡ true) e (among_head (p.0) (names_of_party (p.1) ss)))
  own_secret (x ∷ ss) p (inr h) = by_test (bytes_eq (x.1) (p.1)) (own_secret ss p h)
    where
      by_test : (b : Bool) → is_among (p.0) (names_of_party (p.1) ss) ≡ true
          → is_among (p.0) (cond b (x.0 ∷ names_of_party (p.1) ss) (names_of_party (p.1) ss)) ≡ true
      by_test true k = among_tail (p.0) (x.0) (names_of_party (p.1) ss) k
      by_test false k = k

  -- the length to which a participant has committed
  pub committed_length : (p : List ℕ × List ℕ) → Is_in p (secrets s.advert.pre) → is_among (p.1) (people s) ≡ true
      → length_at (map committed_by (people s)) deal_contract (p.1) (p.0) ≡ Some (Some (lengths (p.0)))
  committed_length p h party =
      length_found (people s) (p.1) (p.0) party ∙ looked_length (secrets_of (p.1) s.advert.pre) (p.0) (own_secret (secrets s.advert.pre) p h)

  abbrev with_revealed : Configuration → List Revealed → Configuration
  with_revealed g xs = record g { revealed = xs }

  unrevealed_more : (xs : List Revealed) (p q : List ℕ × List ℕ) → bytes_eq (p.0) (q.0) ≡ false
      → is_revealed xs deal_contract (q.1) (q.0) ≡ false → is_revealed (xs ++ revealed_by p ∷ []) deal_contract (q.1) (q.0) ≡ false
  unrevealed_more xs p q other none =
      any-append _ xs (revealed_by p ∷ [])
      ∙ (λ i. none i || ((bytes_eq (p.1) (q.1) && other i) || false))
      ∙ last (bytes_eq (p.1) (q.1))
    where
      last : (b : Bool) → (false || ((b && false) || false)) ≡ false
      last true = refl
      last false = refl

  -- different secrets that aren't revealed may be revealed one after another
  pub reveals_legal : (g : Configuration) (ps : List (List ℕ × List ℕ)) (xs : List Revealed) → g.committed ≡ map committed_by (people s)
      → are_different (names_of ps) ≡ true
      → ((p : List ℕ × List ℕ) → Is_in p ps → Is_in p (secrets s.advert.pre) × (is_among (p.1) (people s) ≡ true)
      × (is_revealed xs deal_contract (p.1) (p.0) ≡ false))
      → Legal (with_revealed g xs) (reveal_steps ps)
      × (after_steps (with_revealed g xs) (reveal_steps ps) ≡ with_revealed g (xs ++ map revealed_by ps))
  reveals_legal g [] xs committed apart each = (tt, ap (with_revealed g) (sym (append-nil xs)))
  reveals_legal g (p ∷ ps) xs committed apart each =
      let q = and_parts (not (is_among (p.0) (names_of ps))) (are_different (names_of ps)) apart in
      let e = each p (inl refl) in
      let known = ap (λ (cs : List Committed). length_at cs deal_contract (p.1) (p.0)) committed ∙ committed_length p e.0 e.1 in
      let row : AllTrue (reveal_premises (with_revealed g xs) deal_contract (p.1) (p.0)) = (ap is_some known, (ap is_known known, (ap not e.2, tt))) in
      let rest = reveals_legal g ps (xs ++ revealed_by p ∷ []) committed q.1 (λ r h.
      let f = each r (inr h) in
      (f.0, f.1, unrevealed_more xs p r (other p r ps h (not-true _ q.0)) f.2)) in (
        (passes (with_revealed g xs) (steps.Reveal deal_contract (p.1) (p.0)) row, rest.0),
        rest.1 ∙ ap (with_revealed g) (append_assoc xs (revealed_by p ∷ []) (map revealed_by ps)),
      )
    where
      other : (x y : List ℕ × List ℕ) (ys : List (List ℕ × List ℕ)) → Is_in y ys → is_among (x.0) (names_of ys) ≡ false → bytes_eq (x.0) (y.0) ≡ false
      other x y ys h none = by_test (bytes_eq (x.0) (y.0)) refl
        where
          by_test : (b : Bool) → bytes_eq (x.0) (y.0) ≡ b → b ≡ false
          by_test true k =
              absurd (both_ways _ none (subst (λ (z : List ℕ). is_among z (names_of ys) ≡ true) (sym (bytes-true (x.0) (y.0) k)) (in_named ys y h)))
          by_test false k = refl
