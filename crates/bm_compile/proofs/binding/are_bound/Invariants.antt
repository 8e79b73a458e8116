use Rattle.std.proofs.Common.{◌≡◌, drop}
use Rattle.std.specs.Prelude.{is_some}
use Rattle.std.specs.List.{list_all}
use Rattle.spec_data.specs.Lists.{look_up}
use Rattle.spec_terms.specs.Precondition.{deposits}
use Rattle.bm_compile.proofs.binding.are_bound.Given as goal

abbrev pub invariant-loop-entry : goal.invariant-loop-entry
invariant-loop-entry l =
    list_all (λ d. is_some (look_up d.0 l.bound)) (deposits (drop l.entry-index l.pre)) ≡ list_all (λ d. is_some (look_up d.0 l.bound)) (deposits l.pre)
