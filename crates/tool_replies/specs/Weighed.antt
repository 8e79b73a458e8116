-- What is printed of a contract's weights, by a world.
use Rattle.std.specs.Prelude.{ℕ, List, ◌++◌}
use Rattle.spec_run.specs.Setup.{Setup}
use Rattle.spec_run.specs.World.{World}
use Rattle.spec_run.specs.Compiled.{compiled_instance}
use Rattle.spec_text.specs.RunText.{newline}
use Rattle.spec_tool.specs.WeighText.{plan_value}

abbrev pub weigh_line : Setup → World → List ℕ
weigh_line s w = plan_value s.hash 0 (compiled_instance s w 0) ++ newline
