use Rattle.std.proofs.Common.{◌≡◌, drop}
use Rattle.bm_world_fire.specs.Filled.{owner_in}
use Rattle.bm_world_fire.proofs.deposits.owner_of.Given as goal

abbrev pub invariant-loop-entry : goal.invariant-loop-entry
invariant-loop-entry l = owner_in (drop l.entry-index l.pre) l.name ≡ owner_in l.pre l.name
