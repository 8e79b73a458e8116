-- The last step of a path, and those before it.
use Rattle.std.proofs.Common.{◌≡◌, ◌-◌, List, [], ◌∷◌, length, take, refl, ap, arith}
use Rattle.std.specs.Prelude.{slice_get}
use Rattle.std.specs.Option.{option_map_or}
use Rattle.spec_terms.specs.declared.path.PathStep.{PathStep}
use Rattle.spec_terms.specs.declared.path.PathStep.TheVariants.{Branch as To, Part as Into}
use Rattle.spec_tool.specs.Weights.{last_branch, position_of}
use Rattle.bm_plan.specs.Listed.{step_branch}

prefix_from : (s : PathStep) (rest : List PathStep) → position_of (s ∷ rest) ≡ take (length rest) (s ∷ rest)
prefix_from s [] = refl
prefix_from s (t ∷ rest) = ap (λ steps. s ∷ steps) (prefix_from t rest)

pub position_is_prefix : (path : List PathStep) → position_of path ≡ take (length path - 1) path
position_is_prefix [] = refl
position_is_prefix (s ∷ rest) =
    let e : length (s ∷ rest) - 1 ≡ length rest = omega arith in
    rw e (prefix_from s rest)

last_from : (s : PathStep) (rest : List PathStep)
    → last_branch (s ∷ rest) ≡ option_map_or step_branch (slice_get (s ∷ rest) (length rest)) 0
last_from (To i) [] = refl
last_from (Into k) [] = refl
last_from (To i) (t ∷ rest) = last_from t rest
last_from (Into k) (t ∷ rest) = last_from t rest

pub last_branch_is : (path : List PathStep)
    → last_branch path ≡ option_map_or step_branch (slice_get path (length path - 1)) 0
last_branch_is [] = refl
last_branch_is (s ∷ rest) =
    let e : length (s ∷ rest) - 1 ≡ length rest = omega arith in
    rw e (last_from s rest)
