-- What `auto` prints: the run file that goes on by the rules of a strategy.
use Rattle.std.specs.Prelude.{ℕ, ◌+◌, ◌*◌, List, ◌++◌, length, Bool, if◌then◌else◌, nat_lt, nat_le, Some}
use Rattle.std.specs.Prelude.{None, Result, Ok, Err, codes}
use Rattle.std.specs.Fmt.{decimal}
use Rattle.spec_run.specs.declared.event.Event.{Event}
use Rattle.spec_run.specs.declared.event.Run.{Run}
use Rattle.spec_run.specs.declared.header.Header.{Header}
use Rattle.spec_run.specs.Setup.{Setup}
use Rattle.spec_run.specs.Pending.{Halt, Collided, Guessed}
use Rattle.spec_run.specs.Translation.{last_world}
use Rattle.spec_text.specs.Limits.{most_run_bytes, most_events}
use Rattle.spec_text.specs.RunText.{newline, run_text}
use Rattle.spec_text.specs.Refusals.{Judged}
use Rattle.spec_text.specs.PlayText.{guessed_line, collided_line}
use Rattle.spec_tool.specs.declared.rule.Rule.{Rule}
use Rattle.spec_tool.specs.declared.rule.StrategyFault.{StrategyFault}
use Rattle.spec_tool.specs.declared.rule.StrategyFault.TheVariants as faults
use Rattle.spec_tool.specs.Sizes.{rule_line_bytes}
use Rattle.spec_tool.specs.Reads.{Text}
use Rattle.spec_tool.specs.Commands.{Printed, prints}
use Rattle.spec_tool.specs.Strategy.{read_strategy}
use Rattle.spec_tool.specs.Turns.{Progress, Progressed, extended}

-- ---- the strategy

abbrev pub size_limit : List ℕ
size_limit = codes "limit Size"

abbrev pub events_limit : List ℕ
events_limit = codes "limit Events"

abbrev pub fault_text : StrategyFault → List ℕ
fault_text (faults.BadLine n) = codes "line " ++ decimal n
fault_text (faults.Limit n) = events_limit

-- the run with an event for each rule has no more events than a run file may have
abbrev pub has_room : List Event → List Rule → Bool
has_room events rules = nat_le (length events + length rules) most_events

-- the run file with the line of an event for each rule is below the size that a run file may have
abbrev pub fits_within : ℕ → List Rule → Bool
fits_within run_bytes rules = nat_lt (run_bytes + rule_line_bytes * length rules) most_run_bytes

-- the rules stay within the limits of a run file of this many bytes
abbrev pub rules_within : ℕ → List Event → List Rule → Judged (List Rule)
rules_within run_bytes events rules =
    if has_room events rules then (if fits_within run_bytes rules then Ok rules else Err size_limit)
    else Err events_limit

abbrev pub judged_rules : ℕ → List Event → Result (List Rule) StrategyFault → Judged (List Rule)
judged_rules run_bytes events (Err fault) = Err (fault_text fault)
judged_rules run_bytes events (Ok rules) = rules_within run_bytes events rules

-- the rules of a strategy file, beside a run file of this many bytes, or why it is refused
abbrev pub strategy_in : ℕ → Header → List Event → Text → Judged (List Rule)
strategy_in run_bytes h events None = Err size_limit
strategy_in run_bytes h events (Some text) = judged_rules run_bytes events (read_strategy h text)

abbrev pub strategy_refused : List ℕ → Printed
strategy_refused why = prints 11 (codes "strategy refused " ++ (why ++ newline))

-- ---- the answer

abbrev pub halt_answer : Halt → Printed
halt_answer (Collided earlier later) = prints 8 (collided_line earlier later)
halt_answer (Guessed party secret) = prints 7 (guessed_line party secret)

-- the run with the events that the rules took behind its own
abbrev pub longer_run : Header → List Event → Progress → Run
longer_run h es progress = record { header = h; events = es ++ progress.events }

abbrev pub progressed_answer : Header → List Event → Progressed → Printed
progressed_answer h es (Err halt) = halt_answer halt
progressed_answer h es (Ok progress) = prints 0 (run_text (longer_run h es progress))

-- what `auto` answers of a run that isn't halted
unfoldable pub auto_answer : List Rule → Setup → List Event → Printed
auto_answer rules s es = progressed_answer s.header es (extended s (last_world s es) rules)
