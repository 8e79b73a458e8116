-- The terms of contracts of BitML as finite trees: expressions, predicates, branches, choices and parts.
use Rattle.std.specs.Prelude.{ℕ, List, [], ◌∷◌}

-- an expression of the lengths of secrets
pub data Expr : Type 0 where
  constant : ℕ → Expr
  -- the length of the secret of this name
  length_of : List ℕ → Expr
  plus : Expr → Expr → Expr
  minus : Expr → Expr → Expr

-- a predicate of the lengths of secrets
pub data Pred : Type 0 where
  always : Pred
  both : Pred → Pred → Pred
  negation : Pred → Pred
  equal : Expr → Expr → Pred
  less : Expr → Expr → Pred

mutual
  -- a branch of a choice
  pub data Guarded : Type 0 where
    -- the branch, once this party has authorised it
    auth : List ℕ → Guarded → Guarded
    -- the branch, from this block height on
    after : ℕ → Guarded → Guarded
    -- puts these volatile deposits, reveals these secrets, and goes on if the test is true of their lengths
    put_reveal : List (List ℕ) → List (List ℕ) → Pred → Contract → Guarded
    -- pays the balance to the party
    withdraw : List ℕ → Guarded
    -- divides the balance among the parts
    split : Parts → Guarded

  -- a contract: its branches in order, of which one is taken
  pub data Contract : Type 0 where
    no_branch : Contract
    branch : Guarded → Contract → Contract

  -- the parts of a split in order, each with its value in satoshi and its contract
  pub data Parts : Type 0 where
    no_part : Parts
    part : ℕ → Contract → Parts → Parts

-- the branches as a list
abbrev pub branches : Contract → List Guarded
branches no_branch = []
branches (branch b bs) = b ∷ branches bs

-- the value and the contract of each part
abbrev pub parts_list : Parts → List (ℕ × Contract)
parts_list no_part = []
parts_list (part v c ps) = (v, c) ∷ parts_list ps
