-- A balance after one more put.
use Rattle.std.proofs.Common.{ℕ, ◌+◌, ◌^◌, ℤ, pos, ◌+ℤ◌, ◌-ℤ◌, ◌≤ℤ◌, arith}
use Rattle.std.proofs.lemmas.Int.{ints}
use Rattle.bm_wellformed.specs.Small.{IsBalance}

pub next_balance : (n : ℕ) (v w : ℤ) → (v -ℤ pos (2 ^ 64)) ≤ℤ w → w ≤ℤ (v +ℤ pos (2 ^ 114)) → IsBalance n v → IsBalance (n + 1) w
next_balance n v w low high h = record { low = omega (arith, ints, low, h.low); high = omega (arith, ints, high, h.high) }
