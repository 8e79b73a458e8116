-- What is found of the contracts that are told, and of what is committed.
use Rattle.std.proofs.Common.{◌≡◌, ℕ, List, [], ◌∷◌, Bool, true, false, Some, None, refl}
use Rattle.std.specs.Prelude.{◌||◌, ◌==◌, is_some, if◌then◌else◌}
use Rattle.std.specs.List.{list_any}
use Rattle.spec_data.specs.Lists.{look_up}
use Rattle.spec_calculus.specs.declared.parts.Advertised.{Advertised}
use Rattle.spec_calculus.specs.declared.parts.Revealed.{Revealed}
use Rattle.spec_calculus.specs.Beginning.{bindings_of, is_advertised}
use Rattle.spec_run.specs.World.{Promise, is_promise_of, bindings_at}
use Rattle.spec_run.specs.Secrets.{digest_at}
use Rattle.bm_calculus.specs.Answers.{advertised_with}
use Rattle.bm_exchange.specs.Exchanged.{digests_by}

-- ---- bindings

pub bindings_none : (told : List Advertised) (k : ℕ) → false ≡ list_any (λ a. a.contract == k) told → [] ≡ bindings_at told k
bindings_none [] k h = refl
bindings_none (a ∷ told) k h = by_test (a.contract == k) h (bindings_none told k)
  where
    by_test : (b : Bool) → false ≡ (b || list_any (λ a. a.contract == k) told)
        → (false ≡ list_any (λ a. a.contract == k) told → [] ≡ bindings_at told k) → [] ≡ (if b then a.bindings else bindings_at told k)
    by_test true e ih = cc
    by_test false e ih = ih e

pub with_none : (told : List Advertised) (k : ℕ) → None ≡ advertised_with told k → [] ≡ bindings_of told k
with_none [] k h = refl
with_none (a ∷ told) k h = by_test (a.contract == k) h (with_none told k)
  where
    by_test : (b : Bool) → None ≡ (if b then Some a.bindings else advertised_with told k)
        → (None ≡ advertised_with told k → [] ≡ bindings_of told k) → [] ≡ (if b then a.bindings else bindings_of told k)
    by_test true e ih = cc
    by_test false e ih = ih e

pub with_some : (told : List Advertised) (k : ℕ) (bs : List (List ℕ × ℕ)) → Some bs ≡ advertised_with told k → bs ≡ bindings_of told k
with_some [] k bs h = cc
with_some (a ∷ told) k bs h = by_test (a.contract == k) h (with_some told k bs)
  where
    by_test : (b : Bool) → Some bs ≡ (if b then Some a.bindings else advertised_with told k)
        → (Some bs ≡ advertised_with told k → bs ≡ bindings_of told k) → bs ≡ (if b then a.bindings else bindings_of told k)
    by_test true e ih = cc
    by_test false e ih = ih e

pub with_there : (told : List Advertised) (k : ℕ) → is_some (advertised_with told k) ≡ is_advertised told k
with_there [] k = refl
with_there (a ∷ told) k = by_test (a.contract == k) (with_there told k)
  where
    by_test : (b : Bool) → is_some (advertised_with told k) ≡ is_advertised told k
        → is_some (if b then Some a.bindings else advertised_with told k) ≡ (b || is_advertised told k)
    by_test true ih = refl
    by_test false ih = ih

-- ---- digests

pub digests_none : (ps : List Promise) (k : ℕ) (party : List ℕ) → false ≡ list_any (is_promise_of k party) ps → [] ≡ digests_by ps k party
digests_none [] k party h = refl
digests_none (p ∷ ps) k party h = by_test (is_promise_of k party p) h (digests_none ps k party)
  where
    by_test : (b : Bool) → false ≡ (b || list_any (is_promise_of k party) ps)
        → (false ≡ list_any (is_promise_of k party) ps → [] ≡ digests_by ps k party) → [] ≡ (if b then p.digests else digests_by ps k party)
    by_test true e ih = cc
    by_test false e ih = ih e

-- a secret's digest is looked up among those of its party
pub digest_looked : (ps : List Promise) (x : Revealed) → look_up x.secret (digests_by ps x.contract x.party) ≡ digest_at ps x
digest_looked [] x = refl
digest_looked (p ∷ ps) x = by_test (is_promise_of x.contract x.party p) (digest_looked ps x)
  where
    by_test : (b : Bool) → look_up x.secret (digests_by ps x.contract x.party) ≡ digest_at ps x
        → look_up x.secret (if b then p.digests else digests_by ps x.contract x.party) ≡ (if b then look_up x.secret p.digests else digest_at ps x)
    by_test true ih = refl
    by_test false ih = ih
