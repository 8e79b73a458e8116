use Rattle.std.proofs.Common.{◌≡◌, ◌++◌, drop}
use Rattle.bm_world_fire.specs.Filled.{owners_in}
use Rattle.bm_world_fire.proofs.deposits.persistent_owners.Given as goal

abbrev pub invariant-loop-entry : goal.invariant-loop-entry
invariant-loop-entry l = l.owners ++ owners_in (drop l.entry-index l.pre) ≡ owners_in l.pre
