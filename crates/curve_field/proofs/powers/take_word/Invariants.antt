use Rattle.std.proofs.Common.{◌≡◌, ℕ, ◌+◌, ◌-◌, ◌*◌, ◌/◌, ◌^◌, ◌<◌}
use Rattle.spec_curve.specs.Field.{power}
use Rattle.curve_field.specs.Value.{value}
use Rattle.curve_field.proofs.powers.take_word.Given as goal

-- the bits so far are taken in
pub record IsTaken (m x before after w b : ℕ) : Type 0 where
  pub below : after < m
  pub same : (i n : ℕ) → before ≡ power i m x n → after ≡ power (i + b) m x (n * 2 ^ b + w / 2 ^ (64 - b))

abbrev pub invariant-loop-b : goal.invariant-loop-b
invariant-loop-b g l = IsTaken g.M.Modulus.modulus (value l.x) (value l.fn.so_far) (value l.all) l.word l.b
