-- What halts a run, as the definitions have it.
use Rattle.std.specs.Prelude.{◌≡◌, ◌⊎◌, Option, Some, None}
use Rattle.spec_run.specs.Pending as run
use Rattle.bm_world.specs.declared.halt.Halt.{Halt}
use Rattle.bm_world.specs.declared.halt.Halt.TheVariants.{Collided, Guessed, Memory}

-- the halt that it is; out of memory is none
abbrev pub halt_of : Halt → Option run.Halt
halt_of (Collided earlier later) = Some (run.Collided earlier later)
halt_of (Guessed party secret) = Some (run.Guessed party secret)
halt_of Memory = None

-- the same once more, unless memory is short
abbrev pub IsAgain : Halt → Halt → Type 0
IsAgain earlier halt = (halt ≡ earlier) ⊎ (halt ≡ Memory)
