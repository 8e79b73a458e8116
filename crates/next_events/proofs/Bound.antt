-- What a contract is bound to.
use Rattle.std.proofs.Common.{◌≡◌, ℕ, List, [], ◌∷◌, Bool, true, false, Some, None, refl}
use Rattle.std.specs.Prelude.{◌==◌, if◌then◌else◌}
use Rattle.spec_calculus.specs.declared.parts.Advertised.{Advertised}
use Rattle.spec_calculus.specs.Beginning.{bindings_of}
use Rattle.bm_calculus.specs.Answers.{advertised_with}

pub bindings_there : (told : List Advertised) (k : ℕ) (bs : List (List ℕ × ℕ)) → advertised_with told k ≡ Some bs → bindings_of told k ≡ bs
bindings_there [] k bs h = cc
bindings_there (a ∷ rest) k bs h = by_first (λ q. bindings_there rest k bs q) (a.contract == k) h
  where
    by_first : (advertised_with rest k ≡ Some bs → bindings_of rest k ≡ bs) → (b : Bool) → (if b then Some a.bindings else advertised_with rest k) ≡ Some bs
        → (if b then a.bindings else bindings_of rest k) ≡ bs
    by_first later true q = cc
    by_first later false q = later q

pub bindings_nowhere : (told : List Advertised) (k : ℕ) → advertised_with told k ≡ None → bindings_of told k ≡ []
bindings_nowhere [] k h = refl
bindings_nowhere (a ∷ rest) k h = by_first (λ q. bindings_nowhere rest k q) (a.contract == k) h
  where
    by_first : (advertised_with rest k ≡ None → bindings_of rest k ≡ []) → (b : Bool) → (if b then Some a.bindings else advertised_with rest k) ≡ None → (if b then a.bindings else bindings_of rest k) ≡ []
    by_first later true q = cc
    by_first later false q = later q
