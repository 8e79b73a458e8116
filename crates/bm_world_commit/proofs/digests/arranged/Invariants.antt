use Rattle.std.proofs.Common.{◌≡◌, ◌++◌, [], drop, true}
use Rattle.std.specs.Prelude.{is_some}
use Rattle.std.specs.List.{list_all}
use Rattle.spec_data.specs.Lists.{look_up}
use Rattle.spec_run.specs.Advertising.{arranged}
use Rattle.bm_world_commit.proofs.digests.arranged.Given as goal

abbrev pub invariant-loop-name : goal.invariant-loop-name
invariant-loop-name l = record {
  there : list_all (λ n. is_some (look_up n l.digests)) (drop l.name-index l.required) ≡ true;
  so_far : l.list ++ arranged [] (drop l.name-index l.required) l.digests ≡ arranged [] l.required l.digests;
}
