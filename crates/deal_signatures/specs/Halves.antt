-- Whether a number of two halves, each below 2^128, is at most half the order of the curve.
use Rattle.std.specs.Prelude.{ℕ, Bool, ◌&&◌, ◌||◌, ◌==◌, nat_le, nat_lt}

abbrev pub half_high : ℕ
half_high = 0x7fffffffffffffffffffffffffffffff

abbrev pub half_low : ℕ
half_low = 0x5d576e7357a4501ddfe92f46681b20a0

abbrev pub is_low_of : ℕ → ℕ → Bool
is_low_of high low = nat_lt high half_high || ((high == half_high) && nat_le low half_low)
