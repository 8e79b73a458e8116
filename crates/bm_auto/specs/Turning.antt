-- How the rules of a strategy are tried in a round.
use Rattle.std.specs.Prelude.{◌≡◌, ℕ, ◌+◌, List, [], ◌++◌, length, Option, Some, None, Ok, Err}
use Rattle.std.specs.List.{AllByRecursion}
use Rattle.spec_run.specs.declared.event.Event.{Event}
use Rattle.spec_tool.specs.declared.rule.Rule.{Rule}
use Rattle.spec_tool.specs.Turns.{Progress, Progressed, round}
use Rattle.bm_world.specs.Playing.{Played, setup_in, SameSetup}
use Rattle.bm_world.specs.Reached.{events_of}
use Rattle.bm_world.specs.Halts.{IsAgain}
use Rattle.bm_world.specs.declared.halt.Halt.{Halt}
use Rattle.bm_world.specs.declared.halt.Halt.TheVariants as halts
use Rattle.theory_auto.specs.OwnRules.{IsHonest}
use Rattle.bm_auto.specs.Taking.{round_takes}
use Rattle.bm_auto.specs.Trying.{IsCause}

-- ---- halts

-- rounds that come to this and take these events halted, or came after a halt
pub record Stops {H : Type 0} (old new : Played H) (comes : Progressed) (takes : List Event) (halt : Halt) : Type 0 where
  pub setup : SameSetup old new
  -- after a halt it is the same one, unless memory is short, and nothing changes
  pub again : (earlier : Halt) → old.halt ≡ Some earlier → IsAgain earlier halt × (new ≡ old)
  pub kept : (halt ≡ halts.Memory → ⊥) → new.halt ≡ Some halt
  -- the events that were taken so far are recorded, and no others
  pub taken : List Event
  pub rest : List Event
  pub so_far : takes ≡ taken ++ rest
  pub grows : events_of new.trace ≡ events_of old.trace ++ taken
  -- and unless memory is short it is the halt that ends the rounds, before which these are all
  pub cause : old.halt ≡ None → IsCause halt comes
  pub all : old.halt ≡ None → (halt ≡ halts.Memory → ⊥) → rest ≡ []

-- ---- a round

-- rules that weren't taken and events that were, before what comes of the rules behind them
abbrev pub onto : List Rule → List Event → Progressed → Progressed
onto left taken (Err halt) = Err halt
onto left taken (Ok p) = Ok (record { world = p.world; left = left ++ p.left; events = taken ++ p.events })

-- some rules were tried: these are left of them, and the events of the others stand behind those before; the rest is to be tried
pub record Midway {H : Type 0} (digest : H → List ℕ → List ℕ) (old now : Played H) (rules left rest : List Rule) (before later : List Event) : Type 0 where
  pub setup : SameSetup old now
  pub halt : now.halt ≡ old.halt
  pub stays : (earlier : Halt) → old.halt ≡ Some earlier → now ≡ old
  pub taken : List Event
  pub events : later ≡ before ++ taken
  pub comes : round (setup_in digest old) old.world rules ≡ onto left taken (round (setup_in digest old) now.world rest)
  pub adds : round_takes (setup_in digest old) old.world rules ≡ taken ++ round_takes (setup_in digest old) now.world rest
  pub grows : events_of now.trace ≡ events_of old.trace ++ taken
  pub count : length left + length taken + length rest ≡ length rules
  pub honest_left : AllByRecursion (IsHonest old.header) left
  pub honest_rest : AllByRecursion (IsHonest old.header) rest

-- the round comes to this: these rules are left, and the events of the others stand behind those before
pub record Turns {H : Type 0} (digest : H → List ℕ → List ℕ) (old new : Played H) (rules left : List Rule) (before later : List Event) : Type 0 where
  pub setup : SameSetup old new
  pub halt : new.halt ≡ old.halt
  pub stays : (earlier : Halt) → old.halt ≡ Some earlier → new ≡ old
  pub taken : List Event
  pub events : later ≡ before ++ taken
  pub comes : round (setup_in digest old) old.world rules ≡ Ok (record { world = new.world; left = left; events = taken })
  pub adds : round_takes (setup_in digest old) old.world rules ≡ taken
  pub grows : events_of new.trace ≡ events_of old.trace ++ taken
  pub count : length left + length taken ≡ length rules
  pub honest : AllByRecursion (IsHonest old.header) left

abbrev pub StopsTurning : {H : Type 0} → (H → List ℕ → List ℕ) → Played H → Played H → List Rule → Halt → Type 0
StopsTurning digest old new rules halt =
    Stops old new (round (setup_in digest old) old.world rules) (round_takes (setup_in digest old) old.world rules) halt
