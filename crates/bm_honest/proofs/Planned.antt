-- A key that is found among those of a compiled contract is the plan's.
use Rattle.std.proofs.Common.{◌≡◌, ℕ, List, [], ◌∷◌, Bool, true, false, Option, Some, None, refl, ap, map}
use Rattle.std.specs.Prelude.{IfSome, if◌then◌else◌, option_map}
use Rattle.std.specs.Str.{bytes_eq}
use Rattle.theory_calculus.proofs.Names.{bytes-true}
use Rattle.spec_terms.specs.Advert.{Advert}
use Rattle.spec_terms.specs.Parties.{participants}
use Rattle.spec_terms.specs.declared.path.PathStep.{PathStep}
use Rattle.spec_bitcoin.specs.Keys.{key_of}
use Rattle.spec_compiler.specs.declared.prepared.Prepared.{Prepared}
use Rattle.spec_compiler.specs.Instance.{Instance, branch_label, branch_keys}
use Rattle.bm_honest.specs.Beside.{key_beside}

-- the key beside a party is what this gives for it
beside : (key : List ℕ → List ℕ) (party : List ℕ) (people : List (List ℕ)) → IfSome (key_beside party people (map key people)) (λ k. k ≡ key party)
beside key party [] = tt
beside key party (p ∷ ps) = by_test (bytes_eq p party) refl (beside key party ps)
  where
    by_test : (b : Bool) → bytes_eq p party ≡ b → IfSome (key_beside party ps (map key ps)) (λ k. k ≡ key party)
        → IfSome (if b then Some (key p) else key_beside party ps (map key ps)) (λ k. k ≡ key party)
    by_test true e ih = ap key (bytes-true p party e)
    by_test false e ih = ih

pub planned : (hash : List ℕ → List ℕ) (s : Instance) (contract : ℕ) (advert : Advert) (party : List ℕ) (path : List PathStep)
    (row : List (List ℕ)) (made : Option Prepared) → Some row ≡ option_map (λ m. branch_keys hash s path) made → s.contract ≡ contract
    → s.advert ≡ advert
    → IfSome (key_beside party (participants advert) row) (λ k. k ≡ key_of hash (branch_label contract path party))
planned hash s contract advert party path row None is number text = cc
planned hash s contract advert party path row (Some m) is number text =
    let here : row ≡ branch_keys hash s path = cc in
    rw (here, ← text, ← number) (beside (λ p. key_of hash (branch_label s.contract path p)) party (participants s.advert))
