-- The static balance of each position: what the compiled contract holds there, in satoshi, as a whole number that may be negative.
use Rattle.std.specs.Prelude.{ℕ, ℤ, pos, ◌+ℤ◌, ◌-ℤ◌, ◌+◌, List, [], ◌∷◌, ◌++◌}
use Rattle.spec_terms.specs.Term.{Guarded, auth, after, put_reveal, withdraw, split, Contract, no_branch, branch, Parts, no_part, part}
use Rattle.spec_terms.specs.Advert.{Advert}
use Rattle.spec_terms.specs.Paths.{Subterm, position, at_branch}
use Rattle.spec_terms.specs.Precondition.{Holding, persistent, volatile, total_of, value_of_puts}
use Rattle.spec_terms.specs.declared.path.PathStep.{PathStep}
use Rattle.spec_terms.specs.declared.path.PathStep.TheVariants.{Branch as To, Part as Into}

-- a position or a branch with its path and its static balance, which a branch has from its position
pub record Funded : Type 0 where
  pub path : List PathStep
  pub balance : ℤ
  pub subterm : Subterm

abbrev pub as_funded : List PathStep → ℤ → Subterm → Funded
as_funded path balance subterm = record { path = path; balance = balance; subterm = subterm }

-- the balance after a put of these deposits: they are added, and the fee is left to the miner
abbrev pub after_put : List (List ℕ × Holding) → ℕ → ℤ → List (List ℕ) → ℤ
after_put ds fee balance puts = (balance +ℤ pos (value_of_puts ds puts)) -ℤ pos fee

-- the volatile deposits ds and the fee are those of the advert
module _ (ds : List (List ℕ × Holding)) (fee : ℕ) where
  abbrev mutual
    -- the branches at position q, the first of which has the number i, each with all that stands under it
    pub branches_funded : List PathStep → ℤ → ℕ → Contract → List Funded
    branches_funded q balance i no_branch = []
    branches_funded q balance i (branch b bs) =
        as_funded (q ++ To i ∷ []) balance (at_branch b) ∷ (funded_under (q ++ To i ∷ []) balance b ++ branches_funded q balance (i + 1) bs)

    -- what stands under the branch at path p: a put's or reveal's continuation, or a split's parts with their values
    pub funded_under : List PathStep → ℤ → Guarded → List Funded
    funded_under p balance (auth party body) = funded_under p balance body
    funded_under p balance (after height body) = funded_under p balance body
    funded_under p balance (put_reveal puts reveals test next) =
        as_funded p (after_put ds fee balance puts) (position next) ∷ branches_funded p (after_put ds fee balance puts) 0 next
    funded_under p balance (withdraw party) = []
    funded_under p balance (split parts) = parts_funded p 0 parts

    -- the parts of the split at path p, the first of which has the number k
    pub parts_funded : List PathStep → ℕ → Parts → List Funded
    parts_funded p k no_part = []
    parts_funded p k (part v c ps) =
        as_funded (p ++ Into k ∷ []) (pos v) (position c) ∷ (branches_funded (p ++ Into k ∷ []) (pos v) 0 c ++ parts_funded p (k + 1) ps)

-- the balance of the root: the persistent deposits, less the fee
abbrev pub root_balance : Advert → ℤ
root_balance a = pos (total_of (persistent a.pre)) -ℤ pos a.fee

-- all positions and branches of an advert in the order of the text
abbrev pub all_funded : Advert → List Funded
all_funded a = as_funded [] (root_balance a) (position a.root) ∷ branches_funded (volatile a.pre) a.fee [] (root_balance a) 0 a.root
