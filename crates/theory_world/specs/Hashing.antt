-- What is claimed of the strings that events hash: those of their row in the table, and where an event is refused at most these.
use Rattle.std.specs.Prelude.{◌≡◌, ℕ, List, ◌++◌, false, true}
use Rattle.spec_run.specs.declared.event.Event.{Event}
use Rattle.spec_run.specs.Setup.{Setup}
use Rattle.spec_run.specs.World.{World}
use Rattle.spec_run.specs.Pending.{Pending}
use Rattle.spec_run.specs.Event.{pending}
use Rattle.spec_run.specs.Hashing.{event_strings}
use Rattle.spec_run.specs.Values.{is_refused}

-- the event hashes its row where it isn't refused, and a prefix of it where it is
pub record HashesRow (s : Setup) (w : World) (e : Event) (d : Pending) : Type 0 where
  pub row : is_refused d.outcome ≡ false → d.hashes ≡ event_strings s w e
  pub rest : List (List ℕ)
  pub prefix : is_refused d.outcome ≡ true → d.hashes ++ rest ≡ event_strings s w e

abbrev pub EventsHashRows : Type 0
EventsHashRows = (s : Setup) (w : World) (e : Event) → HashesRow s w e (pending s w e)
