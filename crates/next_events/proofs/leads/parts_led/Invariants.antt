use Rattle.std.proofs.Common.{◌≡◌, ◌++◌, drop}
use Rattle.spec_calculus.specs.Branches.{part_values}
use Rattle.spec_next.specs.Leads.{parts_led}
use Rattle.bm_syntax.specs.View.{parts_view}
use Rattle.next_events.proofs.leads.parts_led.Given as goal

abbrev pub invariant-loop-part : goal.invariant-loop-part
invariant-loop-part l =
    l.made ++ parts_led l.path l.number (part_values (parts_view (drop l.part-index l.parts)))
    ≡ parts_led l.path 0 (part_values (parts_view l.parts))
