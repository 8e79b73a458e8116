-- How a run ends, as the definitions have it.
use Rattle.std.specs.Prelude.{◌<◌, ◌^◌, length}
use Rattle.spec_text.specs.PlayText as play
use Rattle.bm_report.specs.declared.ending.Ending.{Ending}
use Rattle.bm_report.specs.declared.ending.Ending.TheVariants.{Whole, Guessed, Collided}

abbrev pub ending_of : Ending → play.Ending
ending_of (Whole tip live config offers) = play.whole tip live config offers
ending_of (Guessed event party secret) = play.guessed event party secret
ending_of (Collided event first second) = play.collided event first second

-- the contracts of the last configuration can be numbered
abbrev pub IsNumbered : Ending → Type 0
IsNumbered (Whole tip live config offers) = length config.contracts < 2 ^ 32
IsNumbered (Guessed event party secret) = Unit {0}
IsNumbered (Collided event first second) = Unit {0}
