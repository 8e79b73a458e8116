use Rattle.std.proofs.Common.{◌≡◌, ◌++◌, take}
use Rattle.std.specs.List.{flat_map}
use Rattle.spec_deal.specs.WarnText.{script_warnings}
use Rattle.deal_warn.proofs.warnings.put_scripts.Given as goal

abbrev pub invariant-loop-position : goal.invariant-loop-position
invariant-loop-position l = l.lines.items ≡ l.initial.lines.items ++ flat_map script_warnings (take l.position-index l.scripts)
