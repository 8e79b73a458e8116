-- How the events of a run are played one after another.
use Rattle.std.specs.Prelude.{◌≡◌, ℕ, ◌+◌, List, [], ◌∷◌, ◌++◌, length, map, slice_get, Option, Some, None, option_map}
use Rattle.spec_run.specs.declared.event.Event.{Event}
use Rattle.spec_run.specs.declared.outcome.Record.{Record}
use Rattle.spec_run.specs.Pending.{Halted}
use Rattle.spec_run.specs.Pending as pending
use Rattle.spec_run.specs.Event as run
use Rattle.spec_run.specs.Event.{Passed, Progress, onto_passed, played_from, record_of}
use Rattle.spec_run.specs.Translation.{world_after}
use Rattle.bm_world.specs.Playing as world
use Rattle.bm_world.specs.Playing.{setup_in, SameSetup}
use Rattle.bm_world.specs.Halts.{halt_of}
use Rattle.bm_world.specs.declared.halt.Halt.{Halt}

-- ---- one event

-- it went on, and is recorded
pub record GoesOn {H : Type 0} (digest : H → List ℕ → List ℕ) (old new : world.Played H) (e : Event) : Type 0 where
  pub setup : SameSetup old new
  pub going : new.halt ≡ None
  pub went : run.event (setup_in digest old) old.world e ≡ pending.Went (run.pending (setup_in digest old) old.world e) new.world
  pub trace : new.trace ≡ old.trace ++ record_of e (run.pending (setup_in digest old) old.world e) ∷ []

-- it was halted by this, and nothing changed but the messages that were hashed
pub record Stops {H : Type 0} (digest : H → List ℕ → List ℕ) (old new : world.Played H) (e : Event) (halt : Halt) : Type 0 where
  pub setup : SameSetup old new
  pub stopped : Some (run.event (setup_in digest old) old.world e) ≡ option_map Halted (halt_of halt)
  pub left : new.world ≡ record old.world { hashed = new.world.hashed }
  pub trace : new.trace ≡ old.trace

abbrev pub Steps : {H : Type 0} → (H → List ℕ → List ℕ) → world.Played H → world.Played H → Event → Option Halt → Type 0
Steps digest old new e None = GoesOn digest old new e
Steps digest old new e (Some halt) = Stops digest old new e halt

-- ---- several

abbrev pub record_passed : Passed → Record
record_passed p = record_of p.event p.pending

-- events that went on before others that are played
abbrev pub behind : List Passed → Progress → Progress
behind [] later = later
behind (p ∷ ps) later = onto_passed p (behind ps later)

-- these events went on, and the others are to be played from here
pub record Midway {H : Type 0} (digest : H → List ℕ → List ℕ) (old now : world.Played H) (es rest : List Event) : Type 0 where
  pub setup : SameSetup old now
  pub going : now.halt ≡ None
  pub prefix : List Passed
  pub joined : played_from (setup_in digest old) old.world es ≡ behind prefix (played_from (setup_in digest old) now.world rest)
  pub left : world_after old.world prefix ≡ now.world
  pub count : length prefix + length rest ≡ length es
  pub trace : now.trace ≡ old.trace ++ map record_passed prefix

-- the halt of these events, with its event
abbrev pub StopIs : List Event → Option (ℕ × Halt) → Option (Event × pending.Halt) → Type 0
StopIs es None first = first ≡ None
StopIs es (Some stop) first =
    (e : Event) × (h : pending.Halt) × (slice_get es (stop.0) ≡ Some e) × (halt_of (stop.1) ≡ Some h) × (first ≡ Some (e, h))

-- how a run of events left a world that they were played from: stopped as is said, and everything recorded
pub record Plays {H : Type 0} (digest : H → List ℕ → List ℕ) (old new : world.Played H) (es : List Event) (stop : Option (ℕ × Halt)) : Type 0 where
  pub setup : SameSetup old new
  -- the world isn't halted where none of these events was
  pub going : stop ≡ None → new.halt ≡ None
  pub stops : StopIs es stop (played_from (setup_in digest old) old.world es).halt
  pub trace : new.trace ≡ old.trace ++ map record_passed (played_from (setup_in digest old) old.world es).passed
  pub left : new.world ≡ record (world_after old.world (played_from (setup_in digest old) old.world es).passed) { hashed = new.world.hashed }
  pub whole : stop ≡ None → new.world ≡ world_after old.world (played_from (setup_in digest old) old.world es).passed
