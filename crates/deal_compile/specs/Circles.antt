-- Output scripts of positions, as they are kept.
use Rattle.std.specs.Prelude.{ℕ, List}
use Rattle.deal_compile.specs.declared.circle.PositionOutput.{PositionOutput}

abbrev pub output_in : PositionOutput → List ℕ
output_in output = output.script
