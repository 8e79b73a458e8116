-- What halted a run.
use Rattle.std.specs.Prelude.{[], Option, Some, None}
use Rattle.spec_run.specs.declared.event.Event.{Event}
use Rattle.spec_run.specs.Pending.{Halt, Collided, Guessed}
use Rattle.draw_rows.specs.declared.halted.Halted.{Halted}
use Rattle.draw_rows.specs.declared.halted.Halted.TheVariants as halted

-- rows don't read which strings collide
abbrev pub halt_of : Halted → Option (Event × Halt)
halt_of halted.Nothing = None
halt_of (halted.Guesses event party secret) = Some (event, Guessed party secret)
halt_of (halted.Collides event) = Some (event, Collided [] [])
