-- Configurations that differ only in the lengths that are committed: steps keep them so, and they offer the same.
use Rattle.std.proofs.Common.{◌≡◌, ℕ, ◌+◌, List, [], ◌∷◌, ◌++◌, map, Bool, true, false, Option, Some, None, refl, sym, ap, ◌∙◌}
use Rattle.std.specs.Prelude.{◌==◌, if◌then◌else◌, is_some, nat_le}
use Rattle.std.specs.List.{filter, flat_map, list_all}
use Rattle.std.proofs.lemmas.Bool.{and_parts, and_from}
use Rattle.spec_data.specs.Lists.{first_false, look_up}
use Rattle.spec_terms.specs.Advert.{Advert}
use Rattle.spec_terms.specs.Term as term
use Rattle.spec_terms.specs.Term.{put_reveal, withdraw, split, auth, after as later, Pred}
use Rattle.spec_terms.specs.Core.{core}
use Rattle.spec_terms.specs.Value.{holds}
use Rattle.spec_terms.specs.Precondition.{secrets}
use Rattle.spec_terms.specs.declared.pre.Pre.{Pre}
use Rattle.spec_calculus.specs.declared.parts.ActiveContract.{ActiveContract}
use Rattle.spec_calculus.specs.declared.parts.Committed.{Committed}
use Rattle.spec_calculus.specs.declared.step.Step.{Step}
use Rattle.spec_calculus.specs.declared.step.Step.TheVariants as steps
use Rattle.spec_calculus.specs.Configuration.{Configuration}
use Rattle.spec_calculus.specs.Beginning.{contract_at, pre_of, has_committed, have_committed, participants_of, bindings_of, are_there}
use Rattle.spec_calculus.specs.Branches.{length_at, known_length, length_by, is_revealed, is_revealed_by, are_revealed, secret_length, secret_lengths, active_at, advert_of, contract_number, reveals_of_taken, test_of_taken, is_put, lock_of, asks_of, puts_of_taken, have_branch_authorised}
use Rattle.spec_calculus.specs.Offers.{is_enabled, beginnings, taking, takings, branches_of, all_takings}
use Rattle.spec_calculus.specs.Steps.{effect, after_steps, fails, branch_at}
use Rattle.spec_run.specs.Offers.{offers_of, offers}
use Rattle.theory_world.proofs.Tests.{all_alike, all-append}

-- ---- what is committed is left out

-- a configuration without what is committed
abbrev pub blank : Configuration → Configuration
blank g = record g { committed = [] }

-- a step without the lengths that it commits
abbrev pub unmeasured : Step → Step
unmeasured (steps.Commit contract party lengths) = steps.Commit contract party []
unmeasured x = x

-- with what the other has committed it is the other
pub fill : (g h : Configuration) → blank g ≡ blank h → record g { committed = h.committed } ≡ h
fill g h e = ap (λ (c : Configuration). record c { committed = h.committed }) e

effect-blank : (g : Configuration) (cs : List Committed) (x : Step) → blank (effect g x) ≡ blank (effect (record g { committed = cs }) x)
effect-blank g cs (steps.Delay blocks) = refl
effect-blank g cs (steps.AuthMove party action) = refl
effect-blank g cs (steps.Move action) = refl
effect-blank g cs (steps.Advertise contract bindings) = refl
effect-blank g cs (steps.Commit contract party lengths) = refl
effect-blank g cs (steps.AuthInit contract party deposit) = refl
effect-blank g cs (steps.Init contract) = refl
effect-blank g cs (steps.Reveal contract party secret) = refl
effect-blank g cs (steps.AuthBranch party output branch) = refl
effect-blank g cs (steps.PutReveal output branch) = refl
effect-blank g cs (steps.Withdraw output branch) = refl
effect-blank g cs (steps.Split output branch) = refl

effect-unmeasured : (g : Configuration) (x : Step) → blank (effect g x) ≡ blank (effect g (unmeasured x))
effect-unmeasured g (steps.Delay blocks) = refl
effect-unmeasured g (steps.AuthMove party action) = refl
effect-unmeasured g (steps.Move action) = refl
effect-unmeasured g (steps.Advertise contract bindings) = refl
effect-unmeasured g (steps.Commit contract party lengths) = refl
effect-unmeasured g (steps.AuthInit contract party deposit) = refl
effect-unmeasured g (steps.Init contract) = refl
effect-unmeasured g (steps.Reveal contract party secret) = refl
effect-unmeasured g (steps.AuthBranch party output branch) = refl
effect-unmeasured g (steps.PutReveal output branch) = refl
effect-unmeasured g (steps.Withdraw output branch) = refl
effect-unmeasured g (steps.Split output branch) = refl

effect-alike : (g h : Configuration) (x : Step) → blank g ≡ blank h → blank (effect g x) ≡ blank (effect h x)
effect-alike g h x e = effect-blank g h.committed x ∙ ap (λ c. blank (effect c x)) (fill g h e)

after-alike : (xs : List Step) (g h : Configuration) → blank g ≡ blank h → blank (after_steps g xs) ≡ blank (after_steps h xs)
after-alike [] g h e = e
after-alike (x ∷ xs) g h e = after-alike xs (effect g x) (effect h x) (effect-alike g h x e)

after-unmeasured : (xs : List Step) (g : Configuration) → blank (after_steps g xs) ≡ blank (after_steps g (map unmeasured xs))
after-unmeasured [] g = refl
after-unmeasured (x ∷ xs) g =
    after-alike xs (effect g x) (effect g (unmeasured x)) (effect-unmeasured g x) ∙ after-unmeasured xs (effect g (unmeasured x))

-- steps that differ only in the lengths that they commit
pub after-measured : (xs ys : List Step) (g h : Configuration) → map unmeasured xs ≡ map unmeasured ys → blank g ≡ blank h
    → blank (after_steps g xs) ≡ blank (after_steps h ys)
after-measured xs ys g h same e =
    after-alike xs g h e ∙ after-unmeasured xs h ∙ ap (λ zs. blank (after_steps h zs)) same ∙ sym (after-unmeasured ys h)

-- ---- offers

-- the steps by which contracts begin or go on
abbrev is_offered : Step → Bool
is_offered (steps.Init contract) = true
is_offered (steps.PutReveal output branch) = true
is_offered (steps.Withdraw output branch) = true
is_offered (steps.Split output branch) = true
is_offered x = false

beginnings_offered : (k : ℕ) (cs : List Advert) → list_all is_offered (beginnings k cs) ≡ true
beginnings_offered k [] = refl
beginnings_offered k (c ∷ cs) = beginnings_offered (k + 1) cs

taking_offered : (n i : ℕ) (b : term.Guarded) → list_all is_offered (taking n i b) ≡ true
taking_offered n i (put_reveal puts reveals test next) = refl
taking_offered n i (withdraw party) = refl
taking_offered n i (split parts) = refl
taking_offered n i (auth party body) = refl
taking_offered n i (later height body) = refl

both_offered : (xs ys : List Step) → list_all is_offered xs ≡ true → list_all is_offered ys ≡ true → list_all is_offered (xs ++ ys) ≡ true
both_offered xs ys h k = all-append is_offered xs ys ∙ and_from _ _ h k

takings_offered : (n i : ℕ) (bs : List term.Guarded) → list_all is_offered (takings n i bs) ≡ true
takings_offered n i [] = refl
takings_offered n i (b ∷ bs) =
    both_offered (taking n i (core b)) (takings n (i + 1) bs) (taking_offered n i (core b)) (takings_offered n (i + 1) bs)

all_offered : (cs : List Advert) (active : List ActiveContract) → list_all is_offered (all_takings cs active) ≡ true
all_offered cs [] = refl
all_offered cs (a ∷ rest) =
    both_offered (takings a.number 0 (branches_of cs a)) (all_takings cs rest)
    (takings_offered a.number 0 (branches_of cs a)) (all_offered cs rest)

-- two tests that agree on what is offered
filter_same : (p q : Step → Bool) (xs : List Step) → list_all is_offered xs ≡ true → ((x : Step) → is_offered x ≡ true → p x ≡ q x)
    → filter p xs ≡ filter q xs
filter_same p q [] h k = refl
filter_same p q (x ∷ xs) h k =
    let a = and_parts (is_offered x) (list_all is_offered xs) h in
    let e = k x a.0 in
    let ih = filter_same p q xs a.1 k in
    λ i. if e i then x ∷ ih i else ih i

-- behind a test that fails nothing counts
fails_before : (n : ℕ) (xs ys zs : List Bool) → first_false n (xs ++ false ∷ ys) ≡ first_false n (xs ++ false ∷ zs)
fails_before n [] ys zs = refl
fails_before n (x ∷ xs) ys zs = ap (λ m. if x then m else n) (fails_before (n + 1) xs ys zs)

module _ (g : Configuration) (cs : List Committed)
    (who : (k : ℕ) (party : List ℕ) → has_committed g.committed k party ≡ has_committed cs k party)
    (long : (k : ℕ) (party secret : List ℕ) → is_revealed g.revealed k party secret ≡ true
    → length_at g.committed k party secret ≡ length_at cs k party secret) where
  abbrev there : Configuration
  there = record g { committed = cs }

  length_same : (k : ℕ) (o : Option (List ℕ)) (secret : List ℕ) → is_revealed_by g.revealed k o secret ≡ true
      → length_by g.committed k o secret ≡ length_by cs k o secret
  length_same k None secret h = refl
  length_same k (Some party) secret h = ap known_length (long k party secret h)

  lengths_same : (k : ℕ) (pre : List Pre) (names : List (List ℕ)) → are_revealed g.revealed k pre names ≡ true
      → secret_lengths g.committed k pre names ≡ secret_lengths cs k pre names
  lengths_same k pre [] h = refl
  lengths_same k pre (x ∷ names) h =
      let a = and_parts (is_revealed_by g.revealed k (look_up x (secrets pre)) x) (are_revealed g.revealed k pre names) h in
      let e : secret_length g.committed k pre x ≡ secret_length cs k pre x = length_same k (look_up x (secrets pre)) x a.0 in
      let ih = lengths_same k pre names a.1 in
      λ i. (x, e i) ∷ ih i

  -- the predicate counts only where the secrets are revealed
  put_same : (prefix : List Bool) (k : ℕ) (pre : List Pre) (names : List (List ℕ)) (test : Pred)
      → first_false 1 (prefix ++ are_revealed g.revealed k pre names ∷ holds (secret_lengths g.committed k pre names) test ∷ [])
      ≡ first_false 1 (prefix ++ are_revealed g.revealed k pre names ∷ holds (secret_lengths cs k pre names) test ∷ [])
  put_same prefix k pre names test = by_test (are_revealed g.revealed k pre names) refl
    where
      by_test : (b : Bool) → are_revealed g.revealed k pre names ≡ b
          → first_false 1 (prefix ++ b ∷ holds (secret_lengths g.committed k pre names) test ∷ [])
          ≡ first_false 1 (prefix ++ b ∷ holds (secret_lengths cs k pre names) test ∷ [])
      by_test true h = ap (λ ls. first_false 1 (prefix ++ true ∷ holds ls test ∷ [])) (lengths_same k pre names h)
      by_test false h =
          fails_before 1 prefix (holds (secret_lengths g.committed k pre names) test ∷ []) (holds (secret_lengths cs k pre names) test ∷ [])

  committed_same : (k : ℕ) (people : List (List ℕ)) → have_committed g.committed k people ≡ have_committed cs k people
  committed_same k people = all_alike (λ p. has_committed g.committed k p) (λ p. has_committed cs k p) people (who k)

  enabled_same : (x : Step) → is_offered x ≡ true → is_enabled g x ≡ is_enabled there x
  enabled_same x h = ap (λ n. n == 0) (fails_same x h)
    where
      fails_same : (x : Step) → is_offered x ≡ true → fails g x ≡ fails there x
      fails_same (steps.Delay blocks) h = cc
      fails_same (steps.AuthMove party action) h = cc
      fails_same (steps.Move action) h = cc
      fails_same (steps.Advertise contract bindings) h = cc
      fails_same (steps.Commit contract party lengths) h = cc
      fails_same (steps.AuthInit contract party deposit) h = cc
      fails_same (steps.Init k) h = rw (committed_same k (participants_of (contract_at g.contracts k))) refl
      fails_same (steps.Reveal contract party secret) h = cc
      fails_same (steps.AuthBranch party output branch) h = cc
      fails_same (steps.PutReveal n i) h =
          let a = active_at g.active n in
          let b = branch_at g n i in
          let prefix : List Bool =
          is_some a
          ∷ is_put b
          ∷ nat_le (lock_of b) g.time
          ∷ have_branch_authorised g.branch_authorised n i (asks_of b)
          ∷ are_there g.deposits (bindings_of g.advertised (contract_number a)) (puts_of_taken b)
          ∷ [] in
          put_same prefix (contract_number a) (pre_of (advert_of g.contracts a)) (reveals_of_taken b) (test_of_taken b)
      fails_same (steps.Withdraw n i) h = refl
      fails_same (steps.Split n i) h = refl

  offers_there : offers g ≡ offers there
  offers_there =
      let xs = beginnings 0 g.contracts ++ all_takings g.contracts g.active in
      ap (flat_map offers_of) (filter_same (λ x. is_enabled g x) (λ x. is_enabled there x) xs
      (both_offered (beginnings 0 g.contracts) (all_takings g.contracts g.active)
      (beginnings_offered 0 g.contracts) (all_offered g.contracts g.active)) enabled_same)

-- configurations that differ only in what is committed offer the same, where the same parties have committed, and revealed secrets have
-- the same lengths
pub same_offers : (g h : Configuration) → blank g ≡ blank h
    → ((k : ℕ) (party : List ℕ) → has_committed g.committed k party ≡ has_committed h.committed k party)
    → ((k : ℕ) (party secret : List ℕ) → is_revealed g.revealed k party secret ≡ true
    → length_at g.committed k party secret ≡ length_at h.committed k party secret)
    → offers g ≡ offers h
same_offers g h e who long = offers_there g h.committed who long ∙ ap offers (fill g h e)
