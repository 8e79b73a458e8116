-- How the rules of a strategy go on with a run, round by round.
use Rattle.std.specs.Prelude.{◌≡◌, ℕ, ◌+◌, List, [], ◌++◌, length, Some, Ok}
use Rattle.std.specs.List.{AllByRecursion}
use Rattle.spec_run.specs.declared.event.Event.{Event}
use Rattle.spec_tool.specs.declared.rule.Rule.{Rule}
use Rattle.spec_tool.specs.Turns.{after_events, rounds, extended}
use Rattle.bm_world.specs.Playing.{Played, setup_in, SameSetup}
use Rattle.bm_world.specs.Reached.{events_of}
use Rattle.bm_world.specs.declared.halt.Halt.{Halt}
use Rattle.theory_auto.specs.OwnRules.{IsHonest}
use Rattle.bm_auto.specs.Taking.{rounds_take, extended_takes}
use Rattle.bm_auto.specs.Turning.{Stops}

-- some rounds were made: these rules are left, the events of the others were taken, and more rounds may come
pub record Between {H : Type 0} (digest : H → List ℕ → List ℕ) (old now : Played H) (rules left : List Rule) (events : List Event) (made : ℕ) : Type 0 where
  pub setup : SameSetup old now
  pub halt : now.halt ≡ old.halt
  pub stays : (earlier : Halt) → old.halt ≡ Some earlier → now ≡ old
  pub more : ℕ
  pub fuel : more + made ≡ length rules + 1
  pub comes : extended (setup_in digest old) old.world rules ≡ after_events events (rounds more (setup_in digest old) now.world left)
  pub adds : extended_takes (setup_in digest old) old.world rules ≡ events ++ rounds_take more (setup_in digest old) now.world left
  pub grows : events_of now.trace ≡ events_of old.trace ++ events
  pub count : length left + length events ≡ length rules
  pub honest : AllByRecursion (IsHonest old.header) left

-- The rules went on by these events, which stand in the trace. What it doesn't name, as the rules that are left, is in the
-- definition's answer.
pub record Extends {H : Type 0} (digest : H → List ℕ → List ℕ) (old new : Played H) (rules : List Rule) (events : List Event) : Type 0 where
  pub setup : SameSetup old new
  pub halt : new.halt ≡ old.halt
  pub stays : (earlier : Halt) → old.halt ≡ Some earlier → new ≡ old
  pub left : List Rule
  pub comes : extended (setup_in digest old) old.world rules ≡ Ok (record { world = new.world; left = left; events = events })
  pub grows : events_of new.trace ≡ events_of old.trace ++ events

-- the rounds halted, or came after a halt; the events that were taken before stand in the trace
abbrev pub StopsExtending : {H : Type 0} → (H → List ℕ → List ℕ) → Played H → Played H → List Rule → Halt → Type 0
StopsExtending digest old new rules halt =
    Stops old new (extended (setup_in digest old) old.world rules) (extended_takes (setup_in digest old) old.world rules) halt
