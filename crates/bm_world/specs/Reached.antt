-- The events of a run, and the world that they led to.
use Rattle.std.specs.Prelude.{◌≡◌, ℕ, List, map, true, Some, None}
use Rattle.std.specs.List.{AllByRecursion}
use Rattle.spec_data.specs.Lists.{is_among}
use Rattle.bm_hash.specs.Messages.{message_of}
use Rattle.spec_run.specs.declared.event.Event.{Event}
use Rattle.spec_run.specs.declared.outcome.Record.{Record}
use Rattle.spec_run.specs.Setup.{Setup}
use Rattle.spec_run.specs.World.{World}
use Rattle.spec_run.specs.Conditions.{IsEvent}
use Rattle.spec_run.specs.Event.{Passed, record_of, opening_world, opening_collision, played}
use Rattle.spec_run.specs.Translation.{world_after}

-- the events of these records
abbrev pub events_of : List Record → List Event
events_of trace = map (λ r. r.event) trace

-- the world that these left, but that more may have been hashed since
pub record IsLeft (last w : World) : Type 0 where
  pub same : record w { hashed = last.hashed } ≡ last
  pub heard : (message : List ℕ) → is_among message last.hashed ≡ true → is_among message w.hashed ≡ true

-- the records are those of a run whose events all went on, and they led to this world
pub record IsReached (s : Setup) (w : World) (trace : List Record) : Type 0 where
  pub opens : opening_collision s ≡ None
  pub events : AllByRecursion (IsEvent s) (events_of trace)
  pub passed : List Passed
  pub plays : played s (events_of trace) ≡ record { passed = passed; halt = None }
  pub records : map (λ p. record_of p.event p.pending) passed ≡ trace
  pub left : IsLeft (world_after (opening_world s) passed) w

-- each of these strings is the message of its digest
abbrev pub AreFound : (List ℕ → List ℕ) → List (List ℕ) → List (List ℕ) → Type 0
AreFound hash messages strings = (t : List ℕ) → is_among t strings ≡ true → message_of hash messages (hash t) ≡ Some t
