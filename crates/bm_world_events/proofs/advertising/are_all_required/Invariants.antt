use Rattle.std.proofs.Common.{◌≡◌, drop}
use Rattle.std.specs.List.{list_all}
use Rattle.spec_data.specs.Lists.{is_among}
use Rattle.spec_terms.specs.Precondition.{names_of}
use Rattle.bm_world_events.proofs.advertising.are_all_required.Given as goal

abbrev pub invariant-loop-binding : goal.invariant-loop-binding
invariant-loop-binding l =
    list_all (λ n. is_among n l.required) (names_of (drop l.binding-index l.bindings)) ≡ list_all (λ n. is_among n l.required) (names_of l.bindings)
