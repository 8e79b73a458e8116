-- What a contract without a fault has.
use Rattle.std.proofs.Common.{◌≡◌, List, [], ◌∷◌, Option, Some, None, refl, Bool, true, false, not}
use Rattle.std.specs.Prelude.{option_map, if◌then◌else◌}
use Rattle.std.proofs.lemmas.Bool.{not-false}
use Rattle.spec_data.proofs.ListLemmas.{or_else-none}
use Rattle.spec_terms.specs.Advert.{Advert}
use Rattle.spec_terms.specs.Faults.{IsWellFormed, first_found, faults, exceeded, at_core}
use Rattle.spec_terms.specs.declared.place.Place.{Place}
use Rattle.spec_terms.specs.Term.{Guarded}
use Rattle.spec_terms.specs.Core.{core}
use Rattle.spec_terms.specs.Paths.{Subterm, position, at_branch}

-- none of these has a place
abbrev pub AllNone : {K : Type 0} → List (K × Option Place) → Type 0
AllNone [] = Unit {0}
AllNone (f ∷ fs) = (f.1 ≡ None) × AllNone fs

pub map_none : {A B : Type 0} (f : A → B) (o : Option A) → option_map f o ≡ None → o ≡ None
map_none f None h = refl
map_none f (Some x) h = cc

pub none_found : {K : Type 0} (fs : List (K × Option Place)) → first_found fs ≡ None → AllNone fs
none_found [] h = tt
none_found {K} (f ∷ fs) h =
    let p = or_else-none {R = K × Place} (option_map (λ place. (f.0, place)) f.1) (first_found fs) h in
    (map_none (λ place. (f.0, place)) f.1 p.0, none_found fs p.1)

pub no_fault : (a : Advert) → IsWellFormed a → AllNone (faults a)
no_fault a h = none_found (faults a) h.faultless

pub no_limit : (a : Advert) → IsWellFormed a → AllNone (exceeded a)
no_limit a h = none_found (exceeded a) h.limited

-- where no place is shown, its test is false
pub no_place : (b : Bool) (p : Place) → (if b then Some p else None) ≡ None → b ≡ false
no_place true p h = cc
no_place false p h = refl

-- ---- of a core

-- the test is true of a branch's core
abbrev pub of_core : (Guarded → Bool) → Subterm → Bool
of_core f (position c) = true
of_core f (at_branch b) = f (core b)

pub core_says : (f : Guarded → Bool) (p : Subterm) → at_core (λ b. not (f b)) p ≡ false → of_core f p ≡ true
core_says f (position c) h = refl
core_says f (at_branch b) h = not-false (f (core b)) h
