-- Which steps are contract steps, and in which order they are offered.
use Rattle.std.specs.Prelude.{ℕ, ◌==◌, nat_lt, Bool, true, false, ◌&&◌, ◌||◌}
use Rattle.spec_calculus.specs.declared.step.Step.{Step}
use Rattle.spec_calculus.specs.declared.step.Step.TheVariants as steps

-- whether a contract begins or goes on by the step
abbrev pub is_contract_step : Step → Bool
is_contract_step (steps.Init contract) = true
is_contract_step (steps.PutReveal output branch) = true
is_contract_step (steps.Withdraw output branch) = true
is_contract_step (steps.Split output branch) = true
is_contract_step (steps.Delay blocks) = false
is_contract_step (steps.AuthMove party action) = false
is_contract_step (steps.Move action) = false
is_contract_step (steps.Advertise contract bindings) = false
is_contract_step (steps.Commit contract party lengths) = false
is_contract_step (steps.AuthInit contract party deposit) = false
is_contract_step (steps.Reveal contract party secret) = false
is_contract_step (steps.AuthBranch party output branch) = false

-- ---- in which order

-- where a step stands in the order of offers: beginnings first, by contract, and then the others by output and branch
abbrev pub key_of : Step → ℕ × ℕ × ℕ
key_of (steps.Init contract) = (0, contract, 0)
key_of (steps.PutReveal output branch) = (1, output, branch)
key_of (steps.Withdraw output branch) = (1, output, branch)
key_of (steps.Split output branch) = (1, output, branch)
key_of (steps.Delay blocks) = (2, 0, 0)
key_of (steps.AuthMove party action) = (2, 0, 0)
key_of (steps.Move action) = (2, 0, 0)
key_of (steps.Advertise contract bindings) = (2, 0, 0)
key_of (steps.Commit contract party lengths) = (2, 0, 0)
key_of (steps.AuthInit contract party deposit) = (2, 0, 0)
key_of (steps.Reveal contract party secret) = (2, 0, 0)
key_of (steps.AuthBranch party output branch) = (2, 0, 0)

-- whether the first of two keys is less: by the first of their numbers that differ
abbrev pub is_key_less : ℕ × ℕ × ℕ → ℕ × ℕ × ℕ → Bool
is_key_less a b = nat_lt (a.0) (b.0) || (a.0 == b.0) && (nat_lt (a.1) (b.1) || (a.1 == b.1) && nat_lt (a.2) (b.2))

-- whether one offer stands before another
abbrev pub is_offered_before : Step → Step → Bool
is_offered_before a b = is_key_less (key_of a) (key_of b)
