-- Sizes that are held, put together.
use Rattle.std.proofs.Common.{◌≡◌, ◌+◌, ◌^◌, min, arith}
use Rattle.spec_terms.specs.Cost.{size, and, held_size}
use Rattle.spec_terms.specs.declared.script_size.ScriptSize.{ScriptSize}
use Rattle.bm_pred.specs.Held.{IsHeld}

-- two operands and an operation on them
pub held_operation : (x y r a b : ScriptSize) → IsHeld x a → IsHeld y b → r.bytes ≡ min (x.bytes + y.bytes + 1) (2 ^ 63) → r.operations
    ≡ min (x.operations + y.operations + 1) (2 ^ 63) → IsHeld r (and (and a b) (size 1 1))
held_operation x y r a b h k bytes operations =
    record { bytes = omega (arith, h.bytes, k.bytes, bytes); operations = omega (arith, h.operations, k.operations, operations) }

-- both numbers held make the size held
pub held_whole : (x a : ScriptSize) → IsHeld x a → x ≡ held_size a
held_whole x a h = λ i. size (h.bytes i) (h.operations i)
