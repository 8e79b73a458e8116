-- What is claimed of `auto` whose files are there, with a valid run and a well-formed contract: the status and the text of every case.
use Rattle.std.specs.Prelude.{◌≡◌, ℕ, ◌+◌, ◌*◌, ◌≤◌, ◌<◌, List, [], ◌∷◌, length, Some, Ok, Err}
use Rattle.spec_data.specs.Lists.{look_up}
use Rattle.spec_terms.specs.Advert.{Advert}
use Rattle.spec_run.specs.declared.event.Event.{Event}
use Rattle.spec_run.specs.declared.event.Run.{Run}
use Rattle.spec_run.specs.declared.header.Header.{Header}
use Rattle.spec_run.specs.Setup.{Setup}
use Rattle.spec_run.specs.Pending.{Halt}
use Rattle.spec_run.specs.Translation.{last_world}
use Rattle.spec_text.specs.Limits.{most_run_bytes, most_events}
use Rattle.spec_text.specs.RunText.{run_text}
use Rattle.spec_text.specs.Refusals.{run_of}
use Rattle.spec_text.specs.PlayText.{Ending, guessed, collided, guessed_line, collided_line}
use Rattle.spec_text.specs.Played.{ending}
use Rattle.spec_tool.specs.declared.rule.Rule.{Rule}
use Rattle.spec_tool.specs.declared.rule.StrategyFault.{StrategyFault}
use Rattle.spec_tool.specs.Sizes.{most_strategy_bytes, rule_line_bytes}
use Rattle.spec_tool.specs.Commands.{Printed, prints, auto, contracts_from, setup_of, ending_status}
use Rattle.spec_tool.specs.Strategy.{read_strategy}
use Rattle.spec_tool.specs.Turns.{Progress, extended}
use Rattle.spec_tool.specs.AutoText.{size_limit, events_limit, fault_text, strategy_refused, halt_answer, longer_run}
use Rattle.spec_tool.specs.Reading.{Files, answer_there}

-- the files of the command, of which the run is valid and the contract well-formed
pub record AutoFiles (there : Files) (run contract strategy : List ℕ) : Type 0 where
  pub run_bytes : List ℕ
  pub contract_bytes : List ℕ
  pub strategy_bytes : List ℕ
  pub played : Run
  pub adverts : List Advert
  pub run_there : look_up run there ≡ Some run_bytes
  pub contract_there : look_up contract there ≡ Some contract_bytes
  pub strategy_there : look_up strategy there ≡ Some strategy_bytes
  pub valid : run_of run_bytes ≡ Ok played
  pub well_formed : contracts_from 0 (contract_bytes ∷ []) ≡ Ok adverts

-- the strategy file spells these rules, and the run with them stays within the limits of a run file
pub record IsTaken (run_bytes : ℕ) (h : Header) (es : List Event) (strategy : List ℕ) (rules : List Rule) : Type 0 where
  pub size : length strategy ≤ most_strategy_bytes
  pub read : read_strategy h strategy ≡ Ok rules
  pub room : length es + length rules ≤ most_events
  pub fits : run_bytes + rule_line_bytes * length rules < most_run_bytes

-- what the halt of a run is answered with
abbrev pub HaltIsAnswered : Ending → Printed → Type 0
HaltIsAnswered (guessed event party secret) printed = printed ≡ prints 7 (guessed_line party secret)
HaltIsAnswered (collided event earlier later) printed = printed ≡ prints 8 (collided_line earlier later)
HaltIsAnswered _ printed = Unit {0}

module _ (hash : List ℕ → List ℕ) (there : Files) (run contract strategy : List ℕ) (f : AutoFiles there run contract strategy) where
  abbrev pub of_files : Setup
  of_files = setup_of hash f.played f.adverts

  abbrev pub auto_there : Printed
  auto_there = answer_there hash there (auto run contract strategy)

  -- the strategy is taken
  abbrev pub StrategyIs : List Rule → Type 0
  StrategyIs rules = IsTaken (length f.run_bytes) f.played.header f.played.events f.strategy_bytes rules

  pub record AutoAnswers : Type 0 where
    -- a run that isn't halted goes on by the rules: the longer run is written, or the halt of a tried event
    pub goes_on : (rules : List Rule) (progress : Progress) → StrategyIs rules → ending_status (ending of_files f.played.events) ≡ 0
        → extended of_files (last_world of_files f.played.events) rules ≡ Ok progress
        → auto_there ≡ prints 0 (run_text (longer_run f.played.header f.played.events progress))
    pub halts : (rules : List Rule) (halt : Halt) → StrategyIs rules → ending_status (ending of_files f.played.events) ≡ 0
        → extended of_files (last_world of_files f.played.events) rules ≡ Err halt → auto_there ≡ halt_answer halt
    -- of a run that is halted, its halt
    pub halted : (rules : List Rule) → StrategyIs rules → HaltIsAnswered (ending of_files f.played.events) auto_there
    -- a strategy is refused whether the run halts or not: for its size, for its first fault, for events, for the size of the run
    pub too_long : most_strategy_bytes < length f.strategy_bytes → auto_there ≡ strategy_refused size_limit
    pub faulty : (fault : StrategyFault) → length f.strategy_bytes ≤ most_strategy_bytes
        → read_strategy f.played.header f.strategy_bytes ≡ Err fault → auto_there ≡ strategy_refused (fault_text fault)
    pub many_events : (rules : List Rule) → length f.strategy_bytes ≤ most_strategy_bytes
        → read_strategy f.played.header f.strategy_bytes ≡ Ok rules → most_events < length f.played.events + length rules
        → auto_there ≡ strategy_refused events_limit
    pub many_bytes : (rules : List Rule) → length f.strategy_bytes ≤ most_strategy_bytes
        → read_strategy f.played.header f.strategy_bytes ≡ Ok rules → length f.played.events + length rules ≤ most_events
        → most_run_bytes ≤ length f.run_bytes + rule_line_bytes * length rules → auto_there ≡ strategy_refused size_limit

abbrev pub AutoTheorem : Type 0
AutoTheorem = (hash : List ℕ → List ℕ) (there : Files) (run contract strategy : List ℕ) (f : AutoFiles there run contract strategy)
    → AutoAnswers hash there run contract strategy f
