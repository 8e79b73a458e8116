-- What an event would come to, without playing it.
use Rattle.std.specs.Prelude.{◌≡◌, ℕ, List, Option, Some, None}
use Rattle.spec_data.specs.Messages.{collision}
use Rattle.spec_data.specs.Messages.{noted_all as heard_all}
use Rattle.spec_run.specs.declared.event.Event.{Event}
use Rattle.spec_run.specs.declared.outcome.Outcome.{Outcome}
use Rattle.spec_run.specs.Setup.{Setup}
use Rattle.spec_run.specs.World.{World}
use Rattle.spec_run.specs.Pending.{Answer, Went, Halted}
use Rattle.spec_run.specs.Event.{pending, event}
use Rattle.bm_hash.specs.Messages.{evidence_of}
use Rattle.bm_world.specs.declared.halt.Halt.{Halt}
use Rattle.bm_world.specs.Playing.{Played, setup_in, OnlyHears, StoppedBy, JudgedHalts}

-- what an event came to, none where it halts
abbrev pub outcome_in : Answer → Option Outcome
outcome_in (Went d next) = Some d.outcome
outcome_in (Halted halt) = None

-- the event would come to this; its strings are hashed, and collide with none
pub record Foretells (s : Setup) (w : World) (messages : List (List ℕ)) (e : Event) (result : Option Outcome) : Type 0 where
  pub hashed : messages ≡ heard_all w.hashed (pending s w e).hashes
  pub clear : evidence_of s.hash messages ≡ None
  pub calm : collision s.hash w.hashed (pending s w e).hashes ≡ None
  pub comes : result ≡ outcome_in (event s w e)

-- the same of a world, in which only more is hashed
pub record Foresees {H : Type 0} (digest : H → List ℕ → List ℕ) (old new : Played H) (e : Event) (result : Option Outcome) : Type 0 where
  pub hears : OnlyHears old new (heard_all old.world.hashed (pending (setup_in digest old) old.world e).hashes)
  pub calm : collision (setup_in digest old).hash old.world.hashed (pending (setup_in digest old) old.world e).hashes ≡ None
  pub comes : result ≡ outcome_in (event (setup_in digest old) old.world e)

-- an event that was asked for halted the run: its strings collided, as the messages then show, or memory was short
abbrev pub StoppedForeseeing : {H : Type 0} → (H → List ℕ → List ℕ) → Played H → Played H → Event → Halt → Type 0
StoppedForeseeing digest old new e halt = StoppedBy old new halt (
    JudgedHalts (setup_in digest old).hash old.world.hashed new.world.hashed (pending (setup_in digest old) old.world e).hashes halt)
