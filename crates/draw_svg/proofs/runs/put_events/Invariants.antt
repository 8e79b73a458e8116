use Rattle.std.proofs.Common.{◌≡◌, ◌++◌, drop, None}
use Rattle.std.specs.Option.{option_copied}
use Rattle.spec_page.specs.SvgRun.{event_grids}
use Rattle.draw_svg.proofs.runs.put_events.Given as goal

abbrev pub invariant-loop-event : goal.invariant-loop-event
invariant-loop-event l =
    l.rows ++ event_grids (record { parties = l.parties; elsewhere = l.elsewhere }) (option_copied l.before) (drop l.event-index l.events)
    ≡ l.initial.rows ++ event_grids (record { parties = l.parties; elsewhere = l.elsewhere }) None l.events
