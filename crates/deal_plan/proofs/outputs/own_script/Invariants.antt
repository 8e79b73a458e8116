use Rattle.std.proofs.Common.{◌≡◌, drop}
use Rattle.spec_data.specs.Lists.{look_up}
use Rattle.deal_plan.proofs.outputs.own_script.Given as goal

abbrev pub invariant-loop-known : goal.invariant-loop-known
invariant-loop-known l = look_up l.name (drop l.known-index l.scripts) ≡ look_up l.name l.scripts
