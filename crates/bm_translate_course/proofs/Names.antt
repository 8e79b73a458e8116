-- The numbers that steps make.
use Rattle.std.proofs.Common.{◌≡◌, ◌+◌, ◌≤◌, List, [], ◌∷◌, refl, arith}
use Rattle.spec_calculus.specs.declared.step.Step.{Step}
use Rattle.spec_calculus.specs.declared.step.Step.TheVariants as steps
use Rattle.spec_calculus.specs.Configuration.{Configuration}
use Rattle.spec_calculus.specs.Steps.{effect, names_made, after_steps}

-- the next number after a step
pub next_after : (g : Configuration) (step : Step) → (effect g step).next ≡ g.next + names_made g step
next_after g (steps.Delay blocks) = omega arith
next_after g (steps.AuthMove party action) = omega arith
next_after g (steps.Move action) = refl
next_after g (steps.Advertise contract bindings) = omega arith
next_after g (steps.Commit contract party lengths) = omega arith
next_after g (steps.AuthInit contract party deposit) = omega arith
next_after g (steps.Init contract) = refl
next_after g (steps.Reveal contract party secret) = omega arith
next_after g (steps.AuthBranch party output branch) = omega arith
next_after g (steps.PutReveal output branch) = refl
next_after g (steps.Withdraw output branch) = refl
next_after g (steps.Split output branch) = refl

-- it never falls
pub next_rises : (ss : List Step) (g : Configuration) → g.next ≤ (after_steps g ss).next
next_rises [] g = omega arith
next_rises (step ∷ ss) g =
    let e = next_after g step in
    let h = next_rises ss (effect g step) in
    omega (arith, e, h)
