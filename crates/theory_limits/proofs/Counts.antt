-- The counts of a branch, and the limit that the reader finds by what is left.
use Rattle.std.proofs.Common.{◌≡◌, ℕ, zero, suc, ◌+◌, ◌-◌, ◌≤◌, inl, inr, ◌⊎◌, true, List, [], ◌∷◌, ◌++◌, Some, None, Err, refl, arith}
use Rattle.std.specs.Prelude.{nat_le}
use Rattle.spec_terms.specs.Readable.{most_depth, most_branches, most_choices}
use Rattle.spec_terms.specs.declared.limit.Limit.{Limit}
use Rattle.spec_terms.specs.declared.limit.Limit.TheVariants as limits
use Rattle.spec_text.specs.declared.token.Keyword.TheVariants as word
use Rattle.spec_text.specs.declared.lexeme.Lexeme.{Lexeme}
use Rattle.spec_text.specs.declared.lexeme.Lexeme.TheVariants.{Keyword as keyword, Name as name}
use Rattle.spec_text.specs.Reading.{too_many}
use Rattle.spec_text.specs.ReadContract.{begins_branch, branch_limit, allowed_branch, branch_at}
use Rattle.theory_text.proofs.Again.Steps.{not_zero, no_limit}
use Rattle.theory_limits.specs.Awaited.{Awaited, branch, wrapped}
use Rattle.theory_limits.specs.Marks.{over, over_counts}
use Rattle.theory_limits.proofs.Judged.{judged, Counts, Walks_on, counts_as}
use Rattle.theory_limits.proofs.Formulas.{within, above}

-- ---- what is over

-- a limit that a branch is above, of the reader and of the walk
pub record Over (d k before b j i : ℕ) : Type 0 where
  pub first : Limit
  pub others : List Limit
  pub reader : branch_limit k b i ≡ Some first
  pub counts : over_counts d j before ≡ first ∷ others

-- a branch that is above no limit
pub record Under (d k before b j i : ℕ) : Type 0 where
  pub depth : 1 ≤ k
  pub branches : 1 ≤ b
  pub choice : 1 ≤ i
  pub reader : branch_limit k b i ≡ None
  pub counts : over_counts d j before ≡ []

pub counted : (d k before b j i : ℕ) → d + k ≡ suc most_depth → before + b ≡ most_branches → j + i ≡ suc most_choices
    → Over d k before b j i ⊎ Under d k before b j i
counted d zero before b j i p q r = inl (record {
  first = limits.Depth;
  others = over limits.Branches most_branches (suc before) ++ over limits.Choice most_choices j;
  reader = refl;
  counts = rw (above d most_depth (omega arith)) refl;
})
counted d (suc k) before zero j i p q r = inl (record {
  first = limits.Branches;
  others = over limits.Choice most_choices j;
  reader = rw (not_zero (suc k) (omega arith)) refl;
  counts = rw (within d most_depth (omega arith), above (suc before) most_branches (omega arith)) refl;
})
counted d (suc k) before (suc b) j zero p q r = inl (record {
  first = limits.Choice;
  others = [];
  reader = rw (not_zero (suc k) (omega arith), not_zero (suc b) (omega arith)) refl;
  counts = rw (within d most_depth (omega arith), within (suc before) most_branches (omega arith), above j most_choices (omega arith)) refl;
})
counted d (suc k) before (suc b) j (suc i) p q r = inr (record {
  depth = omega arith;
  branches = omega arith;
  choice = omega arith;
  reader = no_limit (suc k) (suc b) (suc i) (omega arith) (omega arith) (omega arith);
  counts =
      rw (within d most_depth (omega arith), within (suc before) most_branches (omega arith), within j most_choices (omega arith)) refl;
})

-- ---- the walk at a branch

-- a branch that is above a limit
pub over_stops : (d j before : ℕ) (w : Limit) (ws : List Limit) (more : List Awaited) (ts : List Lexeme) → over_counts d j before ≡ w ∷ ws
    → judged (branch d j ∷ more) before ts ≡ Err (too_many w begins_branch ts)
over_stops d j before w ws more [] e = refl
over_stops d j before w ws more (name x ∷ ts) e = rw e refl
over_stops d j before w ws more (keyword word.After ∷ ts) e = rw e refl
over_stops d j before w ws more (keyword word.Put ∷ ts) e = rw e refl
over_stops d j before w ws more (keyword word.Reveal ∷ ts) e = rw e refl
over_stops d j before w ws more (keyword word.Withdraw ∷ ts) e = rw e refl
over_stops d j before w ws more (keyword word.Split ∷ ts) e = rw e refl
over_stops d j before w ws more (t ∷ ts) e = refl

-- a branch that is above none goes on as a guarded term behind a name
pub under_goes : (d j before : ℕ) (more : List Awaited) (ts : List Lexeme) → over_counts d j before ≡ [] → nat_le d most_depth ≡ true
    → judged (branch d j ∷ more) before ts ≡ judged (wrapped d ∷ more) (suc before) ts
under_goes d j before more [] e le = refl
under_goes d j before more (t ∷ ts) e le = rw (e, le) refl

-- the reader of guarded terms of this depth
abbrev pub WalksBranch : ℕ → ℕ → Type 0
WalksBranch d k = Walks_on (wrapped d ∷ []) (branch_at k)

allowed_by : (d k before b j i : ℕ) (more : List Awaited) (ts : List Lexeme) → WalksBranch d k → d + k ≡ suc most_depth
    → before + b ≡ most_branches → Over d k before b j i ⊎ Under d k before b j i
    → Counts (judged (branch d j ∷ more) before ts) more (allowed_branch (branch_at k) (branch_limit k b i) b ts)
allowed_by d k before b j i more ts w p q (inl o) = rw o.reader (over_stops d j before o.first o.others more ts o.counts)
allowed_by d k before b j i more ts w p q (inr u) =
    let m = u.depth in
    let n = u.branches in
    rw u.reader
    (counts_as (judged (branch d j ∷ more) before ts) (judged (wrapped d ∷ more) (suc before) ts) more (branch_at k (b - 1) ts)
    (under_goes d j before more ts u.counts (within d most_depth (omega arith)))
    (w.goes more (suc before) (b - 1) ts (omega arith)))

-- a branch of a choice, of which so many may still come
pub walks_allowed : (d k j i : ℕ) → WalksBranch d k → d + k ≡ suc most_depth → j + i ≡ suc most_choices
    → Walks_on (branch d j ∷ []) (λ b ts. allowed_branch (branch_at k) (branch_limit k b i) b ts)
walks_allowed d k j i w p r =
    record { goes = λ more before b ts q. allowed_by d k before b j i more ts w p q (counted d k before b j i p q r) }
