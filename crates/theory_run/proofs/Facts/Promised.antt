-- Each commitment is to secrets of its party.
use Rattle.std.proofs.Common.{◌≡◌, ℕ, List, [], ◌∷◌, ◌++◌, Bool, true, false, Some, refl, sym, subst, inl, inr}
use Rattle.std.specs.Prelude.{if◌then◌else◌, ◌||◌, ◌⊎◌}
use Rattle.std.specs.Str.{bytes_eq}
use Rattle.spec_data.specs.Lists.{is_among, look_up}
use Rattle.spec_run.specs.Setup.{Setup}
use Rattle.spec_run.specs.World.{Promise}
use Rattle.spec_run.specs.Advertising.{arranged, or_else_this}
use Rattle.spec_run.specs.Committing.{secrets_at}
use Rattle.theory_calculus.specs.Members.{Is_in}
use Rattle.theory_run.specs.KeptPromises.{PromisesNamed}

pub none_named : (s : Setup) → PromisesNamed s []
none_named s = record { named = λ p i n d h. absurd i }

pub in_pushed : (ps : List Promise) (q p : Promise) → Is_in p (ps ++ q ∷ []) → (Is_in p ps) ⊎ (p ≡ q)
in_pushed [] q p (inl e) = inr e
in_pushed [] q p (inr i) = absurd i
in_pushed (x ∷ ps) q p (inl e) = inl (inl e)
in_pushed (x ∷ ps) q p (inr i) = elim (in_pushed ps q p i) [ inl a ↦ inl (inr a) | inr b ↦ inr b ]

-- what is arranged by names has these names alone
pub arranged_named : (other : List ℕ) (names : List (List ℕ)) (entries : List (List ℕ × List ℕ)) (n d : List ℕ)
    → look_up n (arranged other names entries) ≡ Some d → is_among n names ≡ true
arranged_named other [] entries n d h = cc
arranged_named other (m ∷ names) entries n d h = by_test (bytes_eq m n) h (arranged_named other names entries n d)
  where
    by_test : (b : Bool) → (if b then Some (or_else_this other (look_up m entries)) else look_up n (arranged other names entries)) ≡ Some d
        → (look_up n (arranged other names entries) ≡ Some d → is_among n names ≡ true) → (b || is_among n names) ≡ true
    by_test true q ih = refl
    by_test false q ih = ih q

-- one more commitment, in the order of its party's secrets
pub one_more_named : (s : Setup) (ps : List Promise) (k : ℕ) (a : List ℕ) (entries : List (List ℕ × List ℕ)) → PromisesNamed s ps
    → PromisesNamed s (ps ++ record { contract = k; party = a; digests = arranged [] (secrets_at s k a) entries } ∷ [])
one_more_named s ps k a entries h = record { named = λ p i n d l. by_place p n d l (in_pushed ps _ p i) }
  where
    by_place : (p : Promise) (n d : List ℕ) → look_up n p.digests ≡ Some d
        → (Is_in p ps) ⊎ (p ≡ record { contract = k; party = a; digests = arranged [] (secrets_at s k a) entries })
        → is_among n (secrets_at s p.contract p.party) ≡ true
    by_place p n d l (inl i) = h.named p i n d l
    by_place p n d l (inr e) =
        let q : look_up n (arranged [] (secrets_at s k a) entries) ≡ Some d = subst (λ (x : Promise). look_up n x.digests ≡ Some d) e l in
        subst (λ (x : Promise). is_among n (secrets_at s x.contract x.party) ≡ true) (sym e) (arranged_named [] (secrets_at s k a) entries n d q)
