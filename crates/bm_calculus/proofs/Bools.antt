-- The parts of a conjunction.
use Rattle.std.proofs.Common.{◌≡◌, Bool, true, false, ◌&&◌}

pub second_true : (a b : Bool) → (a && b) ≡ true → b ≡ true
second_true true b h = h
second_true false b h = cc
