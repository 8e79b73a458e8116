-- The lines of events, each with its end.
use Rattle.std.specs.Prelude.{ℕ, List, ◌++◌, flat_map}
use Rattle.spec_run.specs.declared.event.Event.{Event}
use Rattle.spec_text.specs.RunText.{event_text, newline}

abbrev pub line : Event → List ℕ
line event = event_text event ++ newline

abbrev pub lines : List Event → List ℕ
lines events = flat_map (λ e. event_text e ++ newline) events
