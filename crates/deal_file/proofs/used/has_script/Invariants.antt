use Rattle.std.proofs.Common.{◌≡◌, drop}
use Rattle.std.specs.Prelude.{is_some}
use Rattle.spec_data.specs.Lists.{look_up}
use Rattle.deal_file.proofs.used.has_script.Given as goal

abbrev pub invariant-loop-other : goal.invariant-loop-other
invariant-loop-other l = is_some (look_up l.name (drop l.other-index l.scripts)) ≡ is_some (look_up l.name l.scripts)
