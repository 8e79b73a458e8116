use Rattle.std.proofs.Common.{◌≡◌, ◌++◌, drop, map}
use Rattle.bm_world_fire.specs.Filled.{owner_in}
use Rattle.bm_world_fire.proofs.deposits.volatile_owners.Given as goal

abbrev pub invariant-loop-name : goal.invariant-loop-name
invariant-loop-name l = l.owners ++ map (owner_in l.pre) (drop l.name-index l.names) ≡ map (owner_in l.pre) l.names
