-- A size as the code counts it.
use Rattle.std.specs.Prelude.{◌≡◌}
use Rattle.spec_terms.specs.Bound.{held}
use Rattle.spec_terms.specs.declared.script_size.ScriptSize.{ScriptSize}

-- each number of the size, held at 2 ^ 63
pub record IsHeld (result : ScriptSize) (exact : ScriptSize) : Type 0 where
  pub bytes : result.bytes ≡ held exact.bytes
  pub operations : result.operations ≡ held exact.operations
