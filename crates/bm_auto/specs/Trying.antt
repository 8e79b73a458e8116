-- How one rule of a strategy is tried.
use Rattle.std.specs.Prelude.{◌≡◌, ℕ, List, [], ◌∷◌, ◌++◌, Option, Some, None, Err}
use Rattle.spec_run.specs.declared.event.Event.{Event}
use Rattle.spec_run.specs.Setup.{Setup}
use Rattle.spec_run.specs.World.{World}
use Rattle.spec_run.specs.Pending as pending
use Rattle.spec_tool.specs.declared.rule.Rule.{Rule}
use Rattle.spec_tool.specs.Turns.{rule_event, Progressed, keeps, takes, tried_if}
use Rattle.bm_world.specs.Playing.{Played, setup_in, SameSetup, StoppedBy}
use Rattle.bm_world.specs.Reached.{events_of}
use Rattle.bm_world.specs.Halts.{halt_of}
use Rattle.bm_world.specs.declared.halt.Halt.{Halt}
use Rattle.bm_world.specs.declared.halt.Halt.TheVariants as halts
use Rattle.bm_auto.specs.Taking.{taken_if}

-- a rule before what comes of those behind it, where it was taken with this event
abbrev pub passed_by : Rule → Option Event → Progressed → Progressed
passed_by r None later = keeps r later
passed_by r (Some e) later = takes e later

abbrev pub taken_by : Option Event → List Event
taken_by None = []
taken_by (Some e) = e ∷ []

-- the rules that are left of this one
abbrev pub kept_by : Rule → Option Event → List Rule
kept_by r None = r ∷ []
kept_by r (Some e) = []

-- the rule comes to this, whatever comes of those behind it, and only an event that was taken is recorded
pub record Tries {H : Type 0} (digest : H → List ℕ → List ℕ) (old new : Played H) (r : Rule) (taken : Option Event) : Type 0 where
  pub setup : SameSetup old new
  pub halt : new.halt ≡ old.halt
  -- after a halt nothing changes
  pub stays : (earlier : Halt) → old.halt ≡ Some earlier → new ≡ old
  pub comes : (go : World → Progressed) → tried_if (setup_in digest old) old.world r (rule_event (setup_in digest old) old.world r) go
      ≡ passed_by r taken (go new.world)
  pub adds : (later : World → List Event) → taken_if (setup_in digest old) old.world (rule_event (setup_in digest old) old.world r) later
      ≡ taken_by taken ++ later new.world
  pub grows : events_of new.trace ≡ events_of old.trace ++ taken_by taken

-- the rounds end with this halt; out of memory may come anywhere
abbrev pub IsCause : Halt → Progressed → Type 0
IsCause halt comes = (h : pending.Halt) → halt_of halt ≡ Some h → comes ≡ Err h

-- the event of the rule halts, whatever comes of those behind it
pub record Ends (s : Setup) (w : World) (r : Rule) (halt : Halt) : Type 0 where
  pub comes : (go : World → Progressed) → IsCause halt (tried_if s w r (rule_event s w r) go)
  pub adds : (halt ≡ halts.Memory → ⊥) → (later : World → List Event) → taken_if s w (rule_event s w r) later ≡ []

-- the rule halted, or came after a halt
abbrev pub StopsTrying : {H : Type 0} → (H → List ℕ → List ℕ) → Played H → Played H → Rule → Halt → Type 0
StopsTrying digest old new r halt = StoppedBy old new halt (Ends (setup_in digest old) old.world r halt)
