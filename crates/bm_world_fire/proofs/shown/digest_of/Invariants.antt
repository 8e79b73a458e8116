use Rattle.std.proofs.Common.{◌≡◌, drop}
use Rattle.spec_data.specs.Lists.{look_up}
use Rattle.bm_world_fire.proofs.shown.digest_of.Given as goal

abbrev pub invariant-loop-digest : goal.invariant-loop-digest
invariant-loop-digest l = look_up l.name (drop l.digest-index l.digests) ≡ look_up l.name l.digests
