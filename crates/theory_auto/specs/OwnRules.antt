-- What is claimed of whose events a strategy adds to a run, and of the longer run.
use Rattle.std.specs.Prelude.{◌≡◌, ℕ, List, [], true, None, Ok}
use Rattle.std.specs.List.{Contains, AllByRecursion}
use Rattle.spec_data.specs.Lists.{is_among}
use Rattle.spec_run.specs.declared.event.Event.{Event}
use Rattle.spec_run.specs.declared.event.Event.TheVariants as events
use Rattle.spec_run.specs.declared.header.Header.{Header}
use Rattle.spec_run.specs.Setup.{Setup}
use Rattle.spec_run.specs.Translation.{last_world, first_halt}
use Rattle.spec_run.specs.Statements.{IsRun, Simulates, HoldsThroughout, licensed, spends_with_leave}
use Rattle.spec_tool.specs.declared.rule.Act.{Act}
use Rattle.spec_tool.specs.declared.rule.Act.TheVariants as acts
use Rattle.spec_tool.specs.declared.rule.Rule.{Rule}
use Rattle.spec_tool.specs.Strategy.{read_strategy}
use Rattle.spec_tool.specs.Turns.{Progress, extended}
use Rattle.theory_auto.specs.Continued.{with_events}

-- ---- honest parties

-- the rule is an honest party's
abbrev pub IsHonest : Header → Rule → Type 0
IsHonest h r = is_among r.party h.honest ≡ true

-- so is each rule of a strategy file
abbrev pub StrategiesAreHonest : Type 0
StrategiesAreHonest = (h : Header) (text : List ℕ) (rules : List Rule) → read_strategy h text ≡ Ok rules → AllByRecursion (IsHonest h) rules

-- ---- events of rules

-- the event is what the party of the rule does by it; none is a gift, and none signs or posts otherwise
abbrev pub IsDoneBy : List ℕ → Act → Event → Type 0
IsDoneBy party acts.Commit e = e ≡ events.Commit 0 party []
IsDoneBy party acts.Endorse e = e ≡ events.Endorse 0 party
IsDoneBy party acts.Init e = e ≡ events.Init 0 party
IsDoneBy party (acts.Authorise path) e = (output : ℕ) × (branch : ℕ) × (e ≡ events.Authorise party output branch)
IsDoneBy party (acts.Reveal secret) e = e ≡ events.Reveal 0 party secret
IsDoneBy party acts.FireInit e = e ≡ events.FireInit 0
IsDoneBy party (acts.Fire path) e = (output : ℕ) × (branch : ℕ) × (e ≡ events.Fire output branch)

-- one of these rules has this event
abbrev pub IsOfRule : List Rule → Event → Type 0
IsOfRule rules e = (r : Rule) × Contains rules r × IsDoneBy r.party r.act e

-- ---- the longer run

pub record KeepsToRules (s : Setup) (es : List Event) (rules : List Rule) (p : Progress) : Type 0 where
  -- each event that is added is a rule's
  pub of_rules : AllByRecursion (IsOfRule rules) p.events
  -- the longer run is one of which the theorems on runs speak: its steps are a legal run of the calculus
  pub is_run : IsRun s (with_events es p)
  pub simulates : Simulates s (with_events es p)
  -- honest parties authorise only by their own events, so in the events that are added by their own rules
  pub licence : HoldsThroughout s (licensed s) (with_events es p)
  -- an honest party's deposit goes only by its own gift, or by a transaction that it endorsed or started, in the run or by its own rules
  pub spends : HoldsThroughout s (spends_with_leave s) (with_events es p)

abbrev pub StrategiesKeepToRules : Type 0
StrategiesKeepToRules = (s : Setup) (es : List Event) (rules : List Rule) (p : Progress) → IsRun s es → first_halt s es ≡ None
    → AllByRecursion (IsHonest s.header) rules → extended s (last_world s es) rules ≡ Ok p → KeepsToRules s es rules p
