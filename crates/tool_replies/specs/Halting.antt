-- What is replied where a run halts.
use Rattle.std.specs.Prelude.{Option, Some, None}
use Rattle.spec_text.specs.PlayText.{collided_line, guessed_line}
use Rattle.spec_tool.specs.Commands.{Printed, prints}
use Rattle.bm_world.specs.declared.halt.Halt.{Halt}
use Rattle.bm_world.specs.declared.halt.Halt.TheVariants.{Collided, Guessed, Memory}

-- by the halt; nothing where memory was short
abbrev pub halt_printed : Halt → Option Printed
halt_printed (Collided earlier later) = Some (prints 8 (collided_line earlier later))
halt_printed (Guessed party secret) = Some (prints 7 (guessed_line party secret))
halt_printed Memory = None
