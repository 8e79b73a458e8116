use Rattle.std.proofs.Common.{◌≡◌, drop}
use Rattle.std.specs.List.{list_all}
use Rattle.spec_data.specs.Lists.{is_among}
use Rattle.spec_terms.specs.Precondition.{names_of}
use Rattle.bm_world_commit.proofs.digests.are_all_named.Given as goal

abbrev pub invariant-loop-name : goal.invariant-loop-name
invariant-loop-name l =
    list_all (λ n. is_among n (names_of l.digests)) (drop l.name-index l.required) ≡ list_all (λ n. is_among n (names_of l.digests)) l.required
