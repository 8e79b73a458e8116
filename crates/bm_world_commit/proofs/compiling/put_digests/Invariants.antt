use Rattle.std.proofs.Common.{◌≡◌, ◌++◌, take}
use Rattle.bm_world_commit.proofs.compiling.put_digests.Given as goal

abbrev pub invariant-loop-digest : goal.invariant-loop-digest
invariant-loop-digest l = l.list ≡ l.fn.list ++ take l.digest-index l.digests
