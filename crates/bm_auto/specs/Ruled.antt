-- The events of rules on a branch, by the output and the branch that are taken, where some are.
use Rattle.std.specs.Prelude.{ℕ, List, Option, Some, None}
use Rattle.spec_run.specs.declared.event.Event.{Event}
use Rattle.spec_run.specs.declared.event.Event.TheVariants.{Authorise, Fire}

abbrev pub authorises : List ℕ → Option (ℕ × ℕ) → Option Event
authorises party None = None
authorises party (Some p) = Some (Authorise party (p.0) (p.1))

abbrev pub fires : Option (ℕ × ℕ) → Option Event
fires None = None
fires (Some p) = Some (Fire (p.0) (p.1))
