-- The branch that a stack chooses, by its top item and the items below.
use Rattle.std.proofs.Common.{◌≡◌, ℕ, suc, ◌+◌, ◌-◌, ◌<◌, List, [], ◌∷◌, ◌++◌, true, false, refl, arith}
use Rattle.std.specs.Prelude.{take, reverse}
use Rattle.std.proofs.lemmas.List.{reverse-append}
use Rattle.spec_bitcoin.specs.Effects.{truth}
use Rattle.spec_compiler.specs.Witness.{first_true}

top_first : (prefix : List (List ℕ)) (x : List ℕ) → reverse (prefix ++ x ∷ []) ≡ x ∷ reverse prefix
top_first prefix x = reverse-append prefix (x ∷ [])

-- an item that is true is chosen
pub chosen_here : (k most : ℕ) (x : List ℕ) (prefix : List (List ℕ)) → k < most → truth x ≡ true
    → first_true k most (take (most - k) (reverse (prefix ++ x ∷ []))) ≡ k
chosen_here k most x prefix h t =
    let m : most - k ≡ suc (most - (k + 1)) = omega arith in
    rw (top_first prefix x, m, t) refl

-- and one that isn't is passed over
pub chosen_later : (k most : ℕ) (x : List ℕ) (prefix : List (List ℕ)) → k < most → truth x ≡ false
    → first_true k most (take (most - k) (reverse (prefix ++ x ∷ []))) ≡ first_true (k + 1) most (take (most - (k + 1)) (reverse prefix))
chosen_later k most x prefix h t =
    let m : most - k ≡ suc (most - (k + 1)) = omega arith in
    rw (top_first prefix x, m, t) refl
