-- The first of some outputs that stands at a position, looked for one by one.
use Rattle.std.proofs.Common.{◌≡◌, ℕ, zero, suc, ◌+◌, ◌<◌, ◌≤◌, List, [], ◌∷◌, length, Bool, true, false, Option, Some, None, refl, sym, ap, ◌∙◌}
use Rattle.std.proofs.Common.{drop, get_or, add-one, arith}
use Rattle.std.specs.Prelude.{slice_get, if◌then◌else◌}
use Rattle.std.proofs.Math.ListN.{drop_of_length-le}
use Rattle.spec_terms.specs.declared.path.PathStep.{PathStep}
use Rattle.spec_run.specs.World.{Output, live_position}
use Rattle.spec_tool.specs.Turns.{stands_at, standing_from}

-- the outputs from a number on: the one of this number first
from_here : (m k : ℕ) (position : List PathStep) (n : ℕ) (os : List Output) → n < length os
    → standing_from m k position (drop n os)
    ≡ (if stands_at k position (live_position (slice_get os n)) then Some m else standing_from (m + 1) k position (drop (suc n) os))
from_here m k position n [] less = absurd (omega (arith, less))
from_here m k position zero (o ∷ os) less = refl
from_here m k position (suc n) (o ∷ os) less = from_here m k position n os (omega (arith, less))

abbrev pub LookedFor : ℕ → List PathStep → List Output → Option ℕ → Type 0
LookedFor n position os all = standing_from n 0 position (drop n os) ≡ all

-- it stands there
pub found_here : (position : List PathStep) (n : ℕ) (os : List Output) (all : Option ℕ) (b : Bool) → n < length os
    → b ≡ stands_at 0 position (live_position (slice_get os n)) → b ≡ true → LookedFor n position os all → Some n ≡ all
found_here position n os all b less is stands h =
    ap (λ (x : Bool). if x then Some n else standing_from (n + 1) 0 position (drop (suc n) os)) (sym stands ∙ is)
    ∙ sym (from_here n 0 position n os less) ∙ h

-- it doesn't
pub look_on : (position : List PathStep) (n : ℕ) (os : List Output) (all : Option ℕ) (b : Bool) → n < length os
    → b ≡ stands_at 0 position (live_position (slice_get os n)) → b ≡ false → LookedFor n position os all → LookedFor (n + 1) position os all
look_on position n os all b less is not_here h =
    ap (λ m. standing_from (n + 1) 0 position (drop m os)) (add-one n)
    ∙ ap (λ (x : Bool). if x then Some n else standing_from (n + 1) 0 position (drop (suc n) os)) (sym not_here ∙ is)
    ∙ sym (from_here n 0 position n os less) ∙ h

pub nothing_stands : (position : List PathStep) (n : ℕ) (os : List Output) (all : Option ℕ) → length os ≤ n → LookedFor n position os all → None ≡ all
nothing_stands position n os all over h = ap (λ xs. standing_from n 0 position xs) (sym (drop_of_length-le os over)) ∙ h
