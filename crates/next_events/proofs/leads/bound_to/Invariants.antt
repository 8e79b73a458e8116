use Rattle.std.proofs.Common.{◌≡◌, drop}
use Rattle.spec_data.specs.Lists.{look_up}
use Rattle.next_events.proofs.leads.bound_to.Given as goal

abbrev pub invariant-loop-binding : goal.invariant-loop-binding
invariant-loop-binding l = look_up l.name (drop l.binding-index l.bindings) ≡ look_up l.name l.bindings
