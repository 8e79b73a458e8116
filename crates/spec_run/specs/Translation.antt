-- The course of a run, one row for each event: what it came to, its steps in the calculus of BitML, and what it left.
use Rattle.std.specs.Prelude.{ℕ, List, [], ◌∷◌, ◌++◌, map, Option}
use Rattle.spec_bitcoin.specs.declared.tx.Tx.{Tx}
use Rattle.spec_calculus.specs.declared.step.Step.{Step}
use Rattle.spec_calculus.specs.Configuration.{Configuration}
use Rattle.spec_calculus.specs.Steps.{after_steps, opening}
use Rattle.spec_run.specs.declared.event.Event.{Event}
use Rattle.spec_run.specs.declared.outcome.Outcome.{Outcome}
use Rattle.spec_run.specs.declared.outcome.Record.{Record}
use Rattle.spec_run.specs.Setup.{Setup}
use Rattle.spec_run.specs.World.{World}
use Rattle.spec_run.specs.Pending.{Halt}
use Rattle.spec_run.specs.Event.{Passed, Progress, opening_world, played}
use Rattle.spec_run.specs.Steps.{steps_of}

-- the configuration before any event
abbrev pub opening_configuration : Setup → Configuration
opening_configuration s = opening s.header.parties s.header.honest s.header.deposits s.contracts

-- ---- the rows

-- an event of a run: what it came to, its steps, and the configuration and the world that it left
pub record Turn : Type 0 where
  pub event : Event
  pub outcome : Outcome
  -- the accepted transaction with its witnesses
  pub tx : Option Tx
  pub steps : List Step
  pub configuration : Configuration
  pub world : World

-- the events up to the first halt, and the halt with its event
pub record Course : Type 0 where
  pub turns : List Turn
  pub halt : Option (Event × Halt)

abbrev pub turn_by : Configuration → Passed → List Step → Turn
turn_by g p steps = record {
  event = p.event;
  outcome = p.pending.outcome;
  tx = p.pending.tx;
  steps = steps;
  configuration = after_steps g steps;
  world = p.world;
}

-- the turn of an event that went on, after this configuration and world, in a run that posts these strings
abbrev pub turn_of : Setup → List (List ℕ) → Configuration → World → Passed → Turn
turn_of s strings g w p = turn_by g p (steps_of s strings g w p.world p.event p.pending)

-- a turn, and those from what it left
abbrev pub onto_turn : Turn → (Configuration → World → List Turn) → List Turn
onto_turn t later = t ∷ later t.configuration t.world

-- the turns of these events, from this configuration and world on
abbrev pub turns_from : Setup → List (List ℕ) → Configuration → World → List Passed → List Turn
turns_from s strings g w [] = []
turns_from s strings g w (p ∷ ps) = onto_turn (turn_of s strings g w p) (λ g' w'. turns_from s strings g' w' ps)

-- the world that the last of these left
abbrev pub world_after : World → List Passed → World
world_after w [] = w
world_after w (p ∷ ps) = world_after p.world ps

-- the steps need the strings that are posted in the whole run, so they are added once all events are played
abbrev pub course_of : Setup → Progress → Course
course_of s p = record {
  turns = turns_from s (world_after (opening_world s) p.passed).posted (opening_configuration s) (opening_world s) p.passed;
  halt = p.halt;
}

-- the course of a run
abbrev pub course : Setup → List Event → Course
course s es = course_of s (played s es)

-- ---- what is read off the course

-- the last of these, where there is one
abbrev pub last_or : {X : Type 0} → X → List X → X
last_or first [] = first
last_or first (x ∷ xs) = last_or x xs

-- the last world and the last configuration of a course
abbrev pub end_world : Setup → Course → World
end_world s c = last_or (opening_world s) (map (λ t. t.world) c.turns)

abbrev pub end_configuration : Setup → Course → Configuration
end_configuration s c = last_or (opening_configuration s) (map (λ t. t.configuration) c.turns)

abbrev pub record_in : Turn → Record
record_in t = record { event = t.event; outcome = t.outcome; tx = t.tx }

-- what each event of a run came to, up to the first halt
abbrev pub trace : Setup → List Event → List Record
trace s es = map record_in (course s es).turns

-- the steps of each event of a run
abbrev pub translated : Setup → List Event → List (List Step)
translated s es = map (λ t. t.steps) (course s es).turns

-- the world and the configuration at the end of a run
abbrev pub last_world : Setup → List Event → World
last_world s es = end_world s (course s es)

abbrev pub last_configuration : Setup → List Event → Configuration
last_configuration s es = end_configuration s (course s es)

-- the halt of a run, with its event
abbrev pub first_halt : Setup → List Event → Option (Event × Halt)
first_halt s es = (course s es).halt

-- all these steps, one list after the other
abbrev pub in_order : List (List Step) → List Step
in_order [] = []
in_order (steps ∷ later) = steps ++ in_order later
