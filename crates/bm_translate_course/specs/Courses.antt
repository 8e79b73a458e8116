-- A run that was played to its end, and a moment in its course.
use Rattle.std.specs.Prelude.{◌≡◌, ℕ, ◌<◌, ◌^◌, List, [], ◌++◌, map}
use Rattle.spec_calculus.specs.declared.step.Step.{Step}
use Rattle.spec_calculus.specs.Configuration.{Configuration}
use Rattle.spec_calculus.specs.Steps.{after_steps, Legal}
use Rattle.spec_run.specs.declared.event.Event.{Event}
use Rattle.spec_run.specs.declared.outcome.Record.{Record}
use Rattle.spec_run.specs.Setup.{Setup}
use Rattle.spec_run.specs.World.{World}
use Rattle.spec_run.specs.Pending.{applied}
use Rattle.spec_run.specs.Event.{Passed, pending, opening_world, played, record_of}
use Rattle.spec_run.specs.Steps.{outcome_steps}
use Rattle.spec_run.specs.Translation.{Turn, opening_configuration, turns_from, world_after, last_or, record_in}
use Rattle.spec_run.specs.Statements.{Claim, IsRun, HoldsFrom}
use Rattle.theory_run.specs.KeptRuns.{KeptRun}
use Rattle.bm_match.specs.Matches.{all_compiled}
use Rattle.bm_world_board.specs.declared.board.Board.{Board}
use Rattle.bm_world_board.specs.Accounts.{account_of}
use Rattle.bm_translate.specs.declared.running.Running.{Running}
use Rattle.bm_translate.specs.Shown.{noted, watched_all}
use Rattle.bm_translate.specs.Moments.{AreHeard, IsMoment, IsTurn}
use Rattle.bm_translate_course.specs.Passing.{after_all}

-- ---- a run

abbrev pub events_of : List Record → List Event
events_of trace = map (λ r. r.event) trace

-- what was played of the events of a trace
abbrev pub passed_in : Setup → List Record → List Passed
passed_in s trace = (played s (events_of trace)).passed

-- the world that they left
abbrev pub end_of : Setup → List Record → World
end_of s trace = world_after (opening_world s) (passed_in s trace)

-- the events of the trace were played, and the board is what they left. Each string that they posted is the message of its digest, though
-- more may have been hashed
pub record IsPlayed (s : Setup) (b : Board) (messages : List (List ℕ)) (trace : List Record) : Type 0 where
  pub run : IsRun s (events_of trace)
  pub records : map (λ p. record_of p.event p.pending) (passed_in s trace) ≡ trace
  pub header : b.header ≡ s.header
  pub contracts : b.contracts ≡ s.contracts
  pub accounts : b.accounts ≡ map (account_of s.hash) s.header.parties
  pub compiled : b.compiled ≡ all_compiled s (end_of s trace)
  pub outputs : b.coins.outputs ≡ (end_of s trace).outputs
  pub posted : b.exchange.posted ≡ (end_of s trace).posted
  pub promises : b.exchange.promises ≡ (end_of s trace).promises
  pub advertised : b.exchange.advertised ≡ (end_of s trace).advertised
  pub heard : AreHeard s.hash messages (end_of s trace).posted

-- ---- an event of it

-- what is kept before an event and after it, and what it is
pub record IsHere (s : Setup) (z : List (List ℕ)) (g : Configuration) (w : World) (t : Turn) : Type 0 where
  pub kept : KeptRun s z g w
  pub passed : record_in t ≡ record_of t.event (pending s w t.event)
  pub left : t.world ≡ applied w (pending s w t.event)
  pub legal : Legal g t.steps
  pub after : KeptRun s z t.configuration t.world

abbrev pub here : Setup → List (List ℕ) → Claim
here s z before g w t = IsHere s z g w t

-- what is to be known before an event: it is one of the run, its steps may be taken, and there are numbers for what they make
pub record IsNext (s : Setup) (b : Board) (messages : List (List ℕ)) (r : Running) (x : Record) : Type 0 where
  pub end : World
  pub world : World
  pub next : World
  pub turn : IsTurn s b messages end world next r x
  pub legal : Legal r.config (outcome_steps s end.posted r.config world next x.event x.tx x.outcome)
  pub room : (after_steps r.config (outcome_steps s end.posted r.config world next x.event x.tx x.outcome)).next < 2 ^ 32

-- ---- a moment in its course

-- what is known before any event
abbrev pub started : Setup → Board → List (List ℕ) → Running
started s b messages = record {
  config = opening_configuration s;
  inits = [];
  asked = [];
  secrets = watched_all s.hash messages b.exchange.promises [] s.contracts;
}

-- what is known after an event that stands for these steps and posted these strings
abbrev pub passed_by : Running → List Step → List (List ℕ) → Running
passed_by r made posts = record (after_all r made) { secrets = map (noted posts) r.secrets }

-- so many events are played, and these records are left: their steps, after those so far, are all steps
pub record IsUnderWay (s : Setup) (b : Board) (messages : List (List ℕ)) (f : World) (r : Running) (rest : List Record)
    (so_far all : List (List Step)) (last : Configuration) : Type 0 where
  pub world : World
  pub passed : List Passed
  pub before : List Record
  pub records : map (λ p. record_of p.event p.pending) passed ≡ rest
  pub moment : IsMoment s b messages f world r
  pub holds : HoldsFrom (here s f.posted) before r.config world (turns_from s f.posted r.config world passed)
  pub ends : world_after world passed ≡ f
  pub steps : so_far ++ map (λ t. t.steps) (turns_from s f.posted r.config world passed) ≡ all
  pub last_is : last_or r.config (map (λ t. t.configuration) (turns_from s f.posted r.config world passed)) ≡ last
