use Rattle.std.proofs.Common.{◌≡◌, drop}
use Rattle.spec_data.specs.Lists.{look_up}
use Rattle.bm_translate.proofs.told.is_there.Given as goal

-- what the rest has for the name is what all have
abbrev pub invariant-loop-bound : goal.invariant-loop-bound
invariant-loop-bound l = look_up l.name (drop l.bound-index l.bindings) ≡ look_up l.name l.bindings
