-- A size that is held fits exactly where the size does.
use Rattle.std.proofs.Common.{◌≡◌, ℕ, ◌≤◌, ◌<◌, ◌^◌, min, ◌⊎◌, inl, inr, arith, ap}
use Rattle.std.specs.Prelude.{nat_le, ◌&&◌}
use Rattle.std.proofs.lemmas.Bool.{cases_lt}
use Rattle.spec_terms.specs.Cost.{held_size}
use Rattle.spec_terms.specs.Faults.{fits_a_script}
use Rattle.spec_terms.specs.declared.script_size.ScriptSize.{ScriptSize}

held_by : (n m : ℕ) → m < 2 ^ 63 → (n < 2 ^ 63) ⊎ (2 ^ 63 ≤ n) → nat_le (min n (2 ^ 63)) m ≡ nat_le n m
held_by n m h (inl k) = ap (λ x. nat_le x m) (omega (arith, k))
held_by n m h (inr k) = grind (arith, h, k)

held_le : (n m : ℕ) → m < 2 ^ 63 → nat_le (min n (2 ^ 63)) m ≡ nat_le n m
held_le n m h = held_by n m h (cases_lt n (2 ^ 63))

pub fits_held : (x : ScriptSize) → fits_a_script (held_size x) ≡ fits_a_script x
fits_held x = λ i. held_le x.bytes 10000 (omega arith) i && held_le x.operations 201 (omega arith) i
