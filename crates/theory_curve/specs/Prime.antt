-- Primes.
use Rattle.std.specs.Prelude.{ℕ, ◌%◌, ◌<◌}

pub record Prime (m : ℕ) : Type 0 where
  pub above : 1 < m
  pub none : (d : ℕ) → 1 < d → d < m → 0 < m % d
