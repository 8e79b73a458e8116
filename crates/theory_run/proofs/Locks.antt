-- A lock is reached where each height above the core is.
use Rattle.std.proofs.Common.{◌≡◌, ◌≤◌, ℕ, max, true, Some, sym, subst, ap, ◌∙◌, arith}
use Rattle.std.specs.Prelude.{nat_le, ◌&&◌}
use Rattle.std.specs.List.{list_all}
use Rattle.std.proofs.lemmas.Bool.Decides.{nat_tests}
use Rattle.spec_terms.specs.Term.{Guarded, auth, after, put_reveal, withdraw, split}
use Rattle.spec_terms.specs.Core.{lock}
use Rattle.spec_calculus.specs.declared.step.Step.TheVariants as steps
use Rattle.spec_calculus.specs.Configuration.{Configuration}
use Rattle.spec_calculus.specs.Branches.{lock_of}
use Rattle.spec_calculus.specs.Steps.{premises, branch_at}
use Rattle.theory_run.specs.Locks.{heights, AreReached, LockIsReached, BranchesWait}
use Rattle.theory_calculus.proofs.Members.{no_false}

none_waits : (time : ℕ) → nat_le 0 time ≡ true
none_waits time = grind (arith, nat_tests)

-- the test of the lock is that of all heights
pub lock_as_heights : (b : Guarded) (time : ℕ) → nat_le (lock b) time ≡ list_all (λ height. nat_le height time) (heights b)
lock_as_heights (auth party body) time = lock_as_heights body time
lock_as_heights (after height body) time = both height (lock body) time ∙ ap (λ t. nat_le height time && t) (lock_as_heights body time)
  where
    both : (m n time : ℕ) → nat_le (max m n) time ≡ (nat_le m time && nat_le n time)
    both m n time = grind (arith, nat_tests)
lock_as_heights (put_reveal puts reveals test next) time = none_waits time
lock_as_heights (withdraw party) time = none_waits time
lock_as_heights (split parts) time = none_waits time

pub lock_is_reached : LockIsReached
lock_is_reached b time =
    (λ h. sym (lock_as_heights b time) ∙ told (lock b) time h, λ h. known (lock b) time (lock_as_heights b time ∙ h))
  where
    told : (m n : ℕ) → m ≤ n → nat_le m n ≡ true
    told m n h = grind (arith, nat_tests)

    known : (m n : ℕ) → nat_le m n ≡ true → m ≤ n
    known m n h = grind (arith, nat_tests)

reached : (g : Configuration) (output branch : ℕ) (b : Guarded) → branch_at g output branch ≡ Some b
    → nat_le (lock_of (branch_at g output branch)) g.time ≡ true → AreReached g.time b
reached g output branch b e h = sym (lock_as_heights b g.time) ∙ subst (λ o. nat_le (lock_of o) g.time ≡ true) e h

pub branches_wait : BranchesWait
branches_wait = record {
  put_reveal = λ g output branch b e f.
      let p = no_false 1 (premises g (steps.PutReveal output branch)) (omega arith) f in reached g output branch b e (p.1.1.0);
  withdraw = λ g output branch b e f.
      let p = no_false 1 (premises g (steps.Withdraw output branch)) (omega arith) f in reached g output branch b e (p.1.1.0);
  split = λ g output branch b e f.
      let p = no_false 1 (premises g (steps.Split output branch)) (omega arith) f in reached g output branch b e (p.1.1.0);
}
