-- The events that the rules of a strategy take, up to the halt where one ends them.
use Rattle.std.specs.Prelude.{ℕ, zero, suc, ◌+◌, List, [], ◌∷◌, ◌++◌, length, ◌==◌, if◌then◌else◌, Option, Some, None, Ok, Err}
use Rattle.spec_run.specs.declared.event.Event.{Event}
use Rattle.spec_run.specs.Setup.{Setup}
use Rattle.spec_run.specs.World.{World}
use Rattle.spec_run.specs.Pending.{Answer, Went, Halted}
use Rattle.spec_run.specs.Event.{event}
use Rattle.spec_run.specs.Values.{is_refused}
use Rattle.spec_tool.specs.declared.rule.Rule.{Rule}
use Rattle.spec_tool.specs.Turns.{rule_event, Progressed, round}

-- what a tried event adds to those that are taken behind it
abbrev pub taken_before : Event → Answer → (World → List Event) → List Event
taken_before e (Halted halt) later = []
taken_before e (Went d next) later = if is_refused d.outcome then later next else e ∷ later next

abbrev pub taken_if : Setup → World → Option Event → (World → List Event) → List Event
taken_if s w None later = later w
taken_if s w (Some e) later = taken_before e (event s w e) later

-- those of a round
abbrev pub round_takes : Setup → World → List Rule → List Event
round_takes s w [] = []
round_takes s w (r ∷ rs) = taken_if s w (rule_event s w r) (λ next. round_takes s next rs)

abbrev pub takes_on : Progressed → (World → List Rule → List Event) → List Event
takes_on (Err halt) later = []
takes_on (Ok progress) later = if length progress.events == 0 then [] else later progress.world progress.left

-- those of so many rounds at most
unfoldable pub rounds_take : ℕ → Setup → World → List Rule → List Event
rounds_take zero s w rules = []
rounds_take (suc n) s w rules = round_takes s w rules ++ takes_on (round s w rules) (λ next left. rounds_take n s next left)

-- those of all rounds
abbrev pub extended_takes : Setup → World → List Rule → List Event
extended_takes s w rules = rounds_take (length rules + 1) s w rules
