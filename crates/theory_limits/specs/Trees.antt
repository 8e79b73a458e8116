-- The limits that an advert exceeds as a tree, in the order of its text.
use Rattle.std.specs.Prelude.{ℕ, suc, ◌+◌, List, [], ◌∷◌, ◌++◌}
use Rattle.spec_data.specs.Ranges.{max_money, last_height}
use Rattle.spec_terms.specs.Term.{Expr, constant, length_of, plus, minus, Pred, always, both, negation, equal, less, Guarded, auth, after}
use Rattle.spec_terms.specs.Term.{put_reveal, withdraw, split, Contract, no_branch, branch, Parts, no_part, part}
use Rattle.spec_terms.specs.Advert.{Advert}
use Rattle.spec_terms.specs.Readable.{greatest_constant, most_depth, most_branches, most_choices, most_parts, most_deposits, most_secrets}
use Rattle.spec_terms.specs.Readable.{count_of, count_under}
use Rattle.spec_terms.specs.declared.pre.Pre.{Pre}
use Rattle.spec_terms.specs.declared.pre.Pre.TheVariants.{Persistent, Volatile, Secret}
use Rattle.spec_terms.specs.declared.limit.Limit.{Limit}
use Rattle.spec_terms.specs.declared.limit.Limit.TheVariants as limits
use Rattle.theory_limits.specs.Marks.{over}

-- an expression of this depth
abbrev pub over_formula : ℕ → Expr → List Limit
over_formula d (constant n) = over limits.Number greatest_constant n ++ over limits.Depth most_depth d
over_formula d (length_of name) = over limits.Depth most_depth d
over_formula d (plus e f) = over limits.Depth most_depth d ++ (over_formula (suc d) e ++ over_formula (suc d) f)
over_formula d (minus e f) = over limits.Depth most_depth d ++ (over_formula (suc d) e ++ over_formula (suc d) f)

-- A predicate of this depth. A comparison that is too deep shows in its first expression, which begins with the same token.
abbrev pub over_pred : ℕ → Pred → List Limit
over_pred d always = over limits.Depth most_depth d
over_pred d (negation p) = over limits.Depth most_depth d ++ over_pred (suc d) p
over_pred d (both p q) = over limits.Depth most_depth d ++ (over_pred (suc d) p ++ over_pred (suc d) q)
over_pred d (equal e f) = over_formula (suc d) e ++ over_formula (suc d) f
over_pred d (less e f) = over_formula (suc d) e ++ over_formula (suc d) f

-- The depth d is that of the term or of the branches, and so many branches came in the whole contract before; a branch or
-- part has the number k in its choice or split.
abbrev mutual
  -- a guarded term, without what it exceeds itself
  pub over_under : ℕ → ℕ → Guarded → List Limit
  over_under d before (auth party body) = over limits.Depth most_depth (suc d) ++ over_under (suc d) before body
  over_under d before (after height body) =
      over limits.Number last_height height ++ (over limits.Depth most_depth (suc d) ++ over_under (suc d) before body)
  over_under d before (put_reveal puts reveals test next) = over_pred 1 test ++ over_branches (suc d) before 1 next
  over_under d before (withdraw party) = []
  over_under d before (split parts) = over_parts (suc d) before 1 parts

  -- branches from number k on
  pub over_branches : ℕ → ℕ → ℕ → Contract → List Limit
  over_branches d before k no_branch = []
  over_branches d before k (branch b bs) =
      (over limits.Depth most_depth d ++ (over limits.Branches most_branches (suc before) ++ over limits.Choice most_choices k))
      ++ (over_under d (suc before) b ++ over_branches d (suc before + count_under b) (suc k) bs)

  -- parts from number k on
  pub over_parts : ℕ → ℕ → ℕ → Parts → List Limit
  over_parts d before k no_part = []
  over_parts d before k (part value next ps) =
      (over limits.Number max_money value ++ over limits.Split most_parts k)
      ++ (over_branches d before 1 next ++ over_parts d (before + count_of next) (suc k) ps)

-- entries, where so many deposits and secrets came before
abbrev pub over_entries : ℕ → ℕ → List Pre → List Limit
over_entries deposits secrets [] = []
over_entries deposits secrets (Persistent party value name ∷ es) =
    over limits.Deposits most_deposits (suc deposits) ++ (over limits.Number max_money value ++ over_entries (suc deposits) secrets es)
over_entries deposits secrets (Volatile party value name ∷ es) =
    over limits.Deposits most_deposits (suc deposits) ++ (over limits.Number max_money value ++ over_entries (suc deposits) secrets es)
over_entries deposits secrets (Secret party name ∷ es) =
    over limits.Secrets most_secrets (suc secrets) ++ over_entries deposits (suc secrets) es

-- an advert
abbrev pub over_advert : Advert → List Limit
over_advert a = over_entries 0 0 a.pre ++ (over limits.Number max_money a.fee ++ over_branches 1 0 1 a.root)
