-- What is claimed of locks: from when on a branch may be taken, said of each height above its core.
use Rattle.std.specs.Prelude.{◌≡◌, ◌↔◌, ◌≤◌, ℕ, nat_le, true, List, [], ◌∷◌, Some}
use Rattle.std.specs.List.{list_all}
use Rattle.spec_terms.specs.Term.{Guarded, auth, after, put_reveal, withdraw, split}
use Rattle.spec_terms.specs.Core.{lock}
use Rattle.spec_calculus.specs.declared.step.Step.TheVariants as steps
use Rattle.spec_calculus.specs.Configuration.{Configuration}
use Rattle.spec_calculus.specs.Steps.{fails, branch_at}

-- the heights in an `after` above the core, outermost first
abbrev pub heights : Guarded → List ℕ
heights (auth party body) = heights body
heights (after height body) = height ∷ heights body
heights (put_reveal puts reveals test next) = []
heights (withdraw party) = []
heights (split parts) = []

-- whether the time has reached each height above a core
abbrev pub AreReached : ℕ → Guarded → Type 0
AreReached time b = list_all (λ height. nat_le height time) (heights b) ≡ true

-- a time has reached the lock of a branch exactly where it has reached every height above the core
abbrev pub LockIsReached : Type 0
LockIsReached = (b : Guarded) (time : ℕ) → (lock b ≤ time) ↔ AreReached time b

-- and so a branch is taken only at a time that has reached each of them
pub record BranchesWait : Type 0 where
  pub put_reveal : (g : Configuration) (output branch : ℕ) (b : Guarded) → branch_at g output branch ≡ Some b
      → fails g (steps.PutReveal output branch) ≡ 0 → AreReached g.time b
  pub withdraw : (g : Configuration) (output branch : ℕ) (b : Guarded) → branch_at g output branch ≡ Some b
      → fails g (steps.Withdraw output branch) ≡ 0 → AreReached g.time b
  pub split : (g : Configuration) (output branch : ℕ) (b : Guarded) → branch_at g output branch ≡ Some b
      → fails g (steps.Split output branch) ≡ 0 → AreReached g.time b
