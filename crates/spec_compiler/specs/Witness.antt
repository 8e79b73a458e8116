-- The witness of a contract's output (BIP 141), and the branch that a witness chooses.
use Rattle.std.specs.Prelude.{ℕ, ◌+◌, ◌-◌, List, [], ◌∷◌, ◌++◌, Bool, true, false, if◌then◌else◌, nat_lt, take, drop, replicate, reverse}
use Rattle.spec_bitcoin.specs.Effects.{truth}

-- the selectors of branch i of n, in the order in which the script consumes them: an empty item for each branch before it, and then 01
-- where it isn't the last
abbrev pub selectors : ℕ → ℕ → List (List ℕ)
selectors i n = if nat_lt (i + 1) n then replicate i [] ++ (1 ∷ []) ∷ [] else replicate i []

-- whether each selector of branch i of n is true, in the order in which the script consumes them
abbrev pub selection : ℕ → ℕ → List Bool
selection i n = if nat_lt (i + 1) n then replicate i false ++ true ∷ [] else replicate i false

-- the stack that opens branch i of n, from its bottom: signatures by participant and secrets by reveal, the last ones first, and the
-- selectors
abbrev pub witness_stack : List (List ℕ) → List (List ℕ) → ℕ → ℕ → List (List ℕ)
witness_stack signatures secrets i n = reverse signatures ++ (reverse secrets ++ reverse (selectors i n))

-- the witness for branch i of n, which ends with the script
abbrev pub witness_of : List (List ℕ) → List (List ℕ) → ℕ → ℕ → List ℕ → List (List ℕ)
witness_of signatures secrets i n script = witness_stack signatures secrets i n ++ script ∷ []

-- the place of the first true item, counted from k, and `last` where none is true
abbrev pub first_true : ℕ → ℕ → List (List ℕ) → ℕ
first_true k last [] = last
first_true k last (x ∷ xs) = if truth x then k else first_true (k + 1) last xs

-- the branch of n that a stack chooses, given from its top
abbrev pub chosen : ℕ → List (List ℕ) → ℕ
chosen n stack = first_true 0 (n - 1) (take (n - 1) stack)

-- the branch of n that a witness chooses, whose last item is the script
abbrev pub chosen_by : ℕ → List (List ℕ) → ℕ
chosen_by n witness = chosen n (drop 1 (reverse witness))
