use Rattle.std.proofs.Common.{◌≡◌, drop}
use Rattle.std.specs.List.{list_all}
use Rattle.spec_data.specs.Lists.{is_among}
use Rattle.spec_terms.specs.Precondition.{names_of}
use Rattle.bm_world_events.proofs.advertising.are_all_bound.Given as goal

abbrev pub invariant-loop-name : goal.invariant-loop-name
invariant-loop-name l =
    list_all (λ n. is_among n (names_of l.bindings)) (drop l.name-index l.required) ≡ list_all (λ n. is_among n (names_of l.bindings)) l.required
