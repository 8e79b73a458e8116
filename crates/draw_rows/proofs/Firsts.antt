-- The words of several parties are those of the first, and then those of the others.
use Rattle.std.proofs.Common.{◌≡◌, ℕ, List, [], ◌∷◌, ◌++◌, map, Bool, true, false, refl}
use Rattle.std.specs.Prelude.{filter, not, codes, if◌then◌else◌}
use Rattle.std.specs.List.{list_any}
use Rattle.spec_terms.specs.Precondition.{persistent}
use Rattle.spec_terms.specs.Term.{Guarded}
use Rattle.spec_terms.specs.declared.pre.Pre.{Pre}
use Rattle.spec_calculus.specs.Configuration.{Configuration}
use Rattle.spec_run.specs.Setup.{Setup}
use Rattle.spec_run.specs.Steps.{is_awaited}
use Rattle.spec_next.specs.declared.requirement.Requirement.{Requirement}
use Rattle.spec_next.specs.Candidates.{has_started}
use Rattle.spec_next.specs.Prospects.{is_for}
use Rattle.spec_page.specs.EventWords.{does_text, are_several}
use Rattle.spec_page.specs.Moments.{Move}
use Rattle.spec_page.specs.Outlooks.{agree_text, commit_words, may_commit, awaited_of}
use Rattle.draw_rows.specs.Signing.{signing, agreeing}

filter_first : {X : Type 0} → (f : X → Bool) (x : X) (xs : List X) → filter f (x ∷ xs) ≡ filter f (x ∷ []) ++ filter f xs
filter_first f x xs = by_test (f x)
  where
    by_test : (b : Bool) → (if b then x ∷ filter f xs else filter f xs) ≡ (if b then x ∷ [] else []) ++ filter f xs
    by_test true = refl
    by_test false = refl

mapped_first : {X Y : Type 0} → (g : X → Y) (f : X → Bool) (x : X) (xs : List X)
    → map g (filter f (x ∷ xs)) ≡ map g (filter f (x ∷ [])) ++ map g (filter f xs)
mapped_first g f x xs = by_test (f x)
  where
    by_test : (b : Bool) → map g (if b then x ∷ filter f xs else filter f xs) ≡ map g (if b then x ∷ [] else []) ++ map g (filter f xs)
    by_test true = refl
    by_test false = refl

pub awaited_first : (x : List ℕ) (xs : List (List ℕ)) (lacks : List Requirement)
    → awaited_of (x ∷ xs) lacks ≡ awaited_of (x ∷ []) lacks ++ awaited_of xs lacks
awaited_first x xs lacks = filter_first (λ party. list_any (λ requirement. is_for requirement party) lacks) x xs

pub commit_first : (s : Setup) (g : Configuration) (k : ℕ) (x : List ℕ) (xs : List (List ℕ))
    → commit_words s g k (x ∷ xs) ≡ commit_words s g k (x ∷ []) ++ commit_words s g k xs
commit_first s g k x xs = mapped_first (λ p. does_text (are_several s) k p (codes " commits")) (may_commit s g k) x xs

pub sign_first : (several : Bool) (g : Configuration) (k : ℕ) (pre : List Pre) (x : List ℕ) (xs : List (List ℕ))
    → signing several g k pre (x ∷ xs) ≡ signing several g k pre (x ∷ []) ++ signing several g k pre xs
sign_first several g k pre x xs =
    mapped_first (λ p. does_text several k p (codes " signs")) (λ p. not (has_started g k (persistent pre) p)) x xs

pub agree_first : (several : Bool) (g : Configuration) (n i : ℕ) (b : Guarded) (m : Move) (x : List ℕ) (xs : List (List ℕ))
    → agreeing several g n i b m (x ∷ xs) ≡ agreeing several g n i b m (x ∷ []) ++ agreeing several g n i b m xs
agree_first several g n i b m x xs = mapped_first (agree_text several m) (is_awaited g n i b) x xs
