-- The order of the text: a contract's position, then each branch in order with all that stands under it.
use Rattle.std.specs.Prelude.{ℕ, ◌+◌, List, [], ◌∷◌, ◌++◌}
use Rattle.spec_terms.specs.Term.{Guarded, auth, after, put_reveal, withdraw, split, Contract, no_branch, branch, Parts, no_part, part}
use Rattle.spec_terms.specs.Paths.{Subterm, position, at_branch}
use Rattle.spec_terms.specs.declared.path.PathStep.{PathStep}
use Rattle.spec_terms.specs.declared.path.PathStep.TheVariants.{Branch as To, Part as Into}

-- a path, and the position or branch that stands at its end
pub record Located : Type 0 where
  pub path : List PathStep
  pub subterm : Subterm

abbrev pub located : List PathStep → Subterm → Located
located path subterm = record { path = path; subterm = subterm }

abbrev mutual
  -- the branches at position q, the first of which has the number i, each with all that stands under it
  pub branches_from : List PathStep → ℕ → Contract → List Located
  branches_from q i no_branch = []
  branches_from q i (branch b bs) =
      located (q ++ To i ∷ []) (at_branch b) ∷ (under (q ++ To i ∷ []) b ++ branches_from q (i + 1) bs)

  -- what stands under the branch at path p
  pub under : List PathStep → Guarded → List Located
  under p (auth party body) = under p body
  under p (after height body) = under p body
  under p (put_reveal puts reveals test next) = located p (position next) ∷ branches_from p 0 next
  under p (withdraw party) = []
  under p (split parts) = parts_from p 0 parts

  -- the parts of the split at path p, the first of which has the number k
  pub parts_from : List PathStep → ℕ → Parts → List Located
  parts_from p k no_part = []
  parts_from p k (part v c ps) =
      located (p ++ Into k ∷ []) (position c) ∷ (branches_from (p ++ Into k ∷ []) 0 c ++ parts_from p (k + 1) ps)

-- all positions and branches of a contract in the order of the text
abbrev pub in_order : Contract → List Located
in_order root = located [] (position root) ∷ branches_from [] 0 root

-- the path before the others, where a branch stands there
abbrev pub if_branch : Subterm → List PathStep → List (List PathStep) → List (List PathStep)
if_branch (position c) path others = others
if_branch (at_branch b) path others = path ∷ others

-- the path before the others, where a position stands there
abbrev pub if_position : Subterm → List PathStep → List (List PathStep) → List (List PathStep)
if_position (position c) path others = path ∷ others
if_position (at_branch b) path others = others

-- the paths of the branches among these
abbrev pub branch_paths_of : List Located → List (List PathStep)
branch_paths_of [] = []
branch_paths_of (s ∷ ss) = if_branch s.subterm s.path (branch_paths_of ss)

-- the paths of the positions among these
abbrev pub position_paths_of : List Located → List (List PathStep)
position_paths_of [] = []
position_paths_of (s ∷ ss) = if_position s.subterm s.path (position_paths_of ss)

-- the paths of all branches in the order of the text
abbrev pub branch_paths : Contract → List (List PathStep)
branch_paths root = branch_paths_of (in_order root)

-- the paths of all positions in the order of the text
abbrev pub position_paths : Contract → List (List PathStep)
position_paths root = position_paths_of (in_order root)
