-- What `auto` shows of a run, its contract and a strategy.
use Rattle.std.specs.Prelude.{◌≡◌, List, ◌⊎◌}
use Rattle.spec_run.specs.declared.event.Event.{Event}
use Rattle.spec_run.specs.Pending.{Halt}
use Rattle.spec_run.specs.Setup.{Setup}
use Rattle.spec_run.specs.Translation.{last_world}
use Rattle.spec_text.specs.RunText.{run_text}
use Rattle.spec_tool.specs.declared.rule.Rule.{Rule}
use Rattle.spec_tool.specs.Answers.{size_of}
use Rattle.spec_tool.specs.AutoText.{strategy_refused, halt_answer, longer_run}
use Rattle.spec_tool.specs.Commands.{Printed, prints}
use Rattle.spec_tool.specs.Reads.{Text}
use Rattle.spec_tool.specs.Turns.{Progress}
use Rattle.theory_auto.specs.Continued.{GoesOnBy, HaltsAt}
use Rattle.theory_auto.specs.OwnRules.{KeepsToRules}
use Rattle.theory_commands.specs.Files.{Judges, IfWhole}
use Rattle.theory_commands.specs.RunFiles.{IsRunFile}
use Rattle.theory_commands.specs.Strategies.{HoldsRules, IsRefusedStrategy, strategy_refusal_text}

-- The run goes on by the rules: what is written is a run file of the run with their events behind its own. Each is a rule's and no
-- rule is taken twice, and no rule that is left could be taken at the end.
pub record GoesOn (s : Setup) (es : List Event) (rules : List Rule) (printed : Printed) : Type 0 where
  pub progress : Progress
  pub by_rules : GoesOnBy s es rules progress
  pub keeps : KeepsToRules s es rules progress
  pub answer : printed ≡ prints 0 (run_text (longer_run s.header es progress))
  pub read : IsRunFile printed.text (longer_run s.header es progress)

-- the event of a rule that is tried halts, and that is written
pub record TurnHalts (s : Setup) (es : List Event) (rules : List Rule) (printed : Printed) : Type 0 where
  pub halt : Halt
  pub tried : HaltsAt s (last_world s es) rules halt
  pub answer : printed ≡ halt_answer halt

-- the strategy is judged before the events
abbrev pub ShowsAuto : Text → Text → Setup → List Event → Printed → Type 0
ShowsAuto run strategy s es printed =
    Judges (HoldsRules (size_of run) s.header es strategy) (IsRefusedStrategy (size_of run) s.header es strategy)
    (λ rules. IfWhole s es printed (GoesOn s es rules printed ⊎ TurnHalts s es rules printed))
    (λ r. printed ≡ strategy_refused (strategy_refusal_text r))
