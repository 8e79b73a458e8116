-- A contract as a list of numbered nodes, in the order of its text, each choice before its branches.
use Rattle.std.specs.Prelude.{ℕ, ◌+◌, List, [], ◌∷◌, ◌++◌}
use Rattle.spec_terms.specs.Term.{Pred, Guarded, auth, after, put_reveal, withdraw, split, Contract, no_branch, branch, Parts, no_part}
use Rattle.spec_terms.specs.Term.{part}
use Rattle.spec_terms.specs.Core.{core, asks, lock}
use Rattle.spec_terms.specs.Parties.{add_all}
use Rattle.spec_terms.specs.declared.path.PathStep.{PathStep}
use Rattle.spec_terms.specs.declared.path.PathStep.TheVariants.{Branch as To, Part as Into}

-- ---- nodes

-- what a branch does when it goes, with the numbers of the choices that it leads to
pub data Deed : Type 0 where
  puts_reveals : (puts reveals : List (List ℕ)) → (test : Pred) → (next : ℕ) → Deed
  withdraws : (party : List ℕ) → Deed
  -- each part's value in satoshi, and its choice
  splits : (parts : List (ℕ × ℕ)) → Deed

pub data Node : Type 0 where
  -- the choice of a position, with the numbers of its branches
  choice_node : (position : List PathStep) → (branches : List ℕ) → Node
  -- a branch, with the parties that it asks, its lock, and what it does
  branch_node : (path : List PathStep) → (asked : List (List ℕ)) → (height : ℕ) → (deed : Deed) → Node

-- ---- how many nodes a term has

abbrev mutual
  -- the branches of a choice
  pub branches_count : Contract → ℕ
  branches_count no_branch = 0
  branches_count (branch b bs) = branch_count b + branches_count bs

  pub branch_count : Guarded → ℕ
  branch_count (auth party body) = branch_count body
  branch_count (after height body) = branch_count body
  branch_count (put_reveal puts reveals test next) = 1 + (1 + branches_count next)
  branch_count (withdraw party) = 1
  branch_count (split parts) = 1 + parts_count parts

  pub parts_count : Parts → ℕ
  parts_count no_part = 0
  parts_count (part v c ps) = 1 + branches_count c + parts_count ps

-- a choice and its branches
abbrev pub choice_count : Contract → ℕ
choice_count c = 1 + branches_count c

-- ---- numbers, from the first one of what follows

-- the numbers of the branches of a choice
abbrev pub branch_numbers : ℕ → Contract → List ℕ
branch_numbers n no_branch = []
branch_numbers n (branch b bs) = n ∷ branch_numbers (n + branch_count b) bs

-- the value of each part, and the number of its choice
abbrev pub part_numbers : ℕ → Parts → List (ℕ × ℕ)
part_numbers n no_part = []
part_numbers n (part v c ps) = (v, n) ∷ part_numbers (n + choice_count c) ps

-- ---- the nodes of a term

-- the parties that a branch asks, each once, outermost first
abbrev pub asks_once : Guarded → List (List ℕ)
asks_once b = add_all [] (asks b)

-- the choice of this number at a position
abbrev pub choice_head : List PathStep → ℕ → Contract → Node
choice_head position n c = choice_node position (branch_numbers (n + 1) c)

abbrev mutual
  -- the branches from number i on of the choice at a position, with all that stands under them; the first node has number n
  pub branches_nodes : List PathStep → ℕ → ℕ → Contract → List Node
  branches_nodes position i n no_branch = []
  branches_nodes position i n (branch b bs) =
      branch_nodes (position ++ To i ∷ []) n (asks_once b) (lock b) b ++ branches_nodes position (i + 1) (n + branch_count b) bs

  -- the branch at a path, which asks these parties and has this lock
  pub branch_nodes : List PathStep → ℕ → List (List ℕ) → ℕ → Guarded → List Node
  branch_nodes path n asked height (auth party body) = branch_nodes path n asked height body
  branch_nodes path n asked height (after h body) = branch_nodes path n asked height body
  branch_nodes path n asked height (put_reveal puts reveals test next) =
      branch_node path asked height (puts_reveals puts reveals test (n + 1))
      ∷ (choice_head path (n + 1) next ∷ branches_nodes path 0 (n + 1 + 1) next)
  branch_nodes path n asked height (withdraw party) = branch_node path asked height (withdraws party) ∷ []
  branch_nodes path n asked height (split parts) =
      branch_node path asked height (splits (part_numbers (n + 1) parts)) ∷ parts_nodes path 0 (n + 1) parts

  -- the parts from number k on of the split at a path
  pub parts_nodes : List PathStep → ℕ → ℕ → Parts → List Node
  parts_nodes path k n no_part = []
  parts_nodes path k n (part v c ps) =
      (choice_head (path ++ Into k ∷ []) n c ∷ branches_nodes (path ++ Into k ∷ []) 0 (n + 1) c)
      ++ parts_nodes path (k + 1) (n + choice_count c) ps

-- the choice at a position, and all that stands under it
abbrev pub choice_nodes : List PathStep → ℕ → Contract → List Node
choice_nodes position n c = choice_head position n c ∷ branches_nodes position 0 (n + 1) c

-- the nodes of a contract; number 0 is its own choice
abbrev pub nodes_of : Contract → List Node
nodes_of root = choice_nodes [] 0 root

-- ---- what a branch's own node says

-- what a core does, where the nodes under it begin with this number
abbrev pub deed_of : ℕ → Guarded → Deed
deed_of n (put_reveal puts reveals test next) = puts_reveals puts reveals test n
deed_of n (withdraw party) = withdraws party
deed_of n (split parts) = splits (part_numbers n parts)
deed_of n (auth party body) = withdraws []
deed_of n (after h body) = withdraws []

-- the node of a branch of this number at a path
abbrev pub branch_head : List PathStep → ℕ → Guarded → Node
branch_head path n b = branch_node path (asks_once b) (lock b) (deed_of (n + 1) (core b))
