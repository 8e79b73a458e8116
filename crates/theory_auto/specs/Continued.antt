-- What is claimed of the rules of a strategy that go on with a run.
use Rattle.std.specs.Prelude.{◌≡◌, ℕ, List, [], ◌∷◌, ◌++◌, map, true, false, Option, Some, None, Ok, Err, IsPermutation}
use Rattle.std.specs.Prelude.{◌+◌, length}
use Rattle.std.specs.List.{AllByRecursion}
use Rattle.spec_data.specs.Lists.{is_among}
use Rattle.spec_run.specs.declared.event.Event.{Event}
use Rattle.spec_run.specs.declared.outcome.Record.{Record}
use Rattle.spec_run.specs.Setup.{Setup}
use Rattle.spec_run.specs.World.{World}
use Rattle.spec_run.specs.Pending.{Pending, Halt, Answer, Went, Halted}
use Rattle.spec_run.specs.Event.{event}
use Rattle.spec_run.specs.Halting.{HaltIsThere}
use Rattle.spec_run.specs.Values.{is_refused}
use Rattle.spec_run.specs.Translation.{trace, last_world, first_halt}
use Rattle.spec_run.specs.Statements.{IsRun}
use Rattle.spec_tool.specs.declared.rule.Rule.{Rule}
use Rattle.spec_tool.specs.Turns.{rule_event, Progress, extended}

-- ---- rules that are taken

-- the rule has this event in the world, where it is done or accepted, and so it goes later
pub record IsTaken (s : Setup) (w : World) (r : Rule) (e : Event) (later : World → Type 0) : Type 0 where
  pub has : rule_event s w r ≡ Some e
  pub came_to : Pending
  pub next : World
  pub went : event s w e ≡ Went came_to next
  pub not_refused : is_refused came_to.outcome ≡ false
  pub goes_on : later next

-- from this world on these rules are taken one after the other, by these events, and they lead to the last world
abbrev pub AreTaken : Setup → World → List Rule → List Event → World → Type 0
AreTaken s w [] [] last = w ≡ last
AreTaken s w [] (e ∷ es) last = ⊥
AreTaken s w (r ∷ rs) [] last = ⊥
AreTaken s w (r ∷ rs) (e ∷ es) last = IsTaken s w r e (λ next. AreTaken s next rs es last)

-- the world has all these messages, and whatever else was hashed by events that were tried
pub record HashedMore (w tried : World) : Type 0 where
  pub same : tried ≡ record w { hashed = tried.hashed }
  pub more : (message : List ℕ) → is_among message w.hashed ≡ true → is_among message tried.hashed ≡ true

-- ---- rules that aren't enabled

-- the event is refused, and nothing halts it
abbrev pub IsRefusal : Answer → Type 0
IsRefusal (Halted halt) = ⊥
IsRefusal (Went d next) = is_refused d.outcome ≡ true

abbrev pub IsRefusedIf : Setup → World → Option Event → Type 0
IsRefusedIf s w None = Unit {0}
IsRefusedIf s w (Some e) = IsRefusal (event s w e)

-- the rule has no event in this world, or its event is refused
abbrev pub IsIdle : Setup → World → Rule → Type 0
IsIdle s w r = IsRefusedIf s w (rule_event s w r)

-- ---- what a strategy leaves

-- the run with the events of the rules behind its own
abbrev pub with_events : List Event → Progress → List Event
with_events es p = es ++ p.events

-- the event was done or accepted
abbrev pub IsNotRefused : Record → Type 0
IsNotRefused r = is_refused r.outcome ≡ false

-- what a run came to behind this trace: these events, all done or accepted
pub record GrewBy (before after : List Record) (es : List Event) : Type 0 where
  pub records : List Record
  pub behind : after ≡ before ++ records
  pub events : map (λ r. r.event) records ≡ es
  pub not_refused : AllByRecursion IsNotRefused records

pub record GoesOnBy (s : Setup) (es : List Event) (rules : List Rule) (p : Progress) : Type 0 where
  -- each rule is taken once or left
  pub rules_taken : List Rule
  pub each_once : IsPermutation (rules_taken ++ p.left) rules
  -- so there are no more events than rules
  pub count : length p.events + length p.left ≡ length rules
  -- the events are theirs, each in the world that the run with those before it leaves
  pub taken : AreTaken s (last_world s es) rules_taken p.events (last_world s (with_events es p))
  -- the longer run isn't halted, and comes to the same and then to these events
  pub whole : first_halt s (with_events es p) ≡ None
  pub grown : GrewBy (trace s es) (trace s (with_events es p)) p.events
  -- the world that the rules leave is the last one of the longer run, but that more may be hashed
  pub world : HashedMore (last_world s (with_events es p)) p.world
  -- no rule that is left is enabled, neither in that world nor in the longer run's
  pub idle : AllByRecursion (IsIdle s p.world) p.left
  pub idle_in_run : AllByRecursion (IsIdle s (last_world s (with_events es p))) p.left

-- a tried event that halts: after these rules were taken, in the world that they left with what was hashed besides
pub record HaltsAt (s : Setup) (w : World) (rules : List Rule) (halt : Halt) : Type 0 where
  pub rules_taken : List Rule
  pub events : List Event
  pub last : World
  pub taken : AreTaken s w rules_taken events last
  pub tried : World
  pub world : HashedMore last tried
  -- the rule stands among the others, and its event halts there with what is there
  pub rule : Rule
  pub others : List Rule
  pub each_once : IsPermutation (rules_taken ++ rule ∷ others) rules
  pub halting : Event
  pub has : rule_event s tried rule ≡ Some halting
  pub halts : event s tried halting ≡ Halted halt
  pub there : HaltIsThere s tried halting halt

-- of a run that isn't halted, by any list of rules
pub record StrategiesGoOn : Type 0 where
  pub goes_on : (s : Setup) (es : List Event) (rules : List Rule) (p : Progress) → IsRun s es → first_halt s es ≡ None
      → extended s (last_world s es) rules ≡ Ok p → GoesOnBy s es rules p
  pub halts : (s : Setup) (es : List Event) (rules : List Rule) (halt : Halt) → IsRun s es → first_halt s es ≡ None
      → extended s (last_world s es) rules ≡ Err halt → HaltsAt s (last_world s es) rules halt
