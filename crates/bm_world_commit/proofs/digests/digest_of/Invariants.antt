use Rattle.std.proofs.Common.{◌≡◌, [], drop, true}
use Rattle.std.specs.Prelude.{is_some}
use Rattle.spec_data.specs.Lists.{look_up}
use Rattle.spec_run.specs.Advertising.{or_else_this}
use Rattle.bm_world_commit.proofs.digests.digest_of.Given as goal

-- the name has a digest among those that are left, and it is the same
abbrev pub invariant-loop-digest : goal.invariant-loop-digest
invariant-loop-digest l = record {
  there : is_some (look_up l.name (drop l.digest-index l.digests)) ≡ true;
  same : or_else_this [] (look_up l.name (drop l.digest-index l.digests)) ≡ or_else_this [] (look_up l.name l.digests);
}
