use Rattle.std.proofs.Common.{◌≡◌, drop}
use Rattle.std.specs.List.{list_all}
use Rattle.spec_data.specs.Lists.{is_among}
use Rattle.spec_terms.specs.Precondition.{names_of}
use Rattle.bm_world_commit.proofs.digests.are_all_required.Given as goal

abbrev pub invariant-loop-digest : goal.invariant-loop-digest
invariant-loop-digest l =
    list_all (λ n. is_among n l.required) (names_of (drop l.digest-index l.digests)) ≡ list_all (λ n. is_among n l.required) (names_of l.digests)
