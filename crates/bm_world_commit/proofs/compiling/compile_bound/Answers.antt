use Rattle.std.proofs.Common.{◌∙◌, ap}
use Rattle.std.specs.Prelude.{is_some}
use Rattle.std.specs.List.{list_all}
use Rattle.spec_data.specs.Lists.{look_up}
use Rattle.spec_terms.specs.Precondition.{deposits}
use Rattle.bm_world_commit.proofs.Completed.{all_placed}
use Rattle.bm_world_commit.proofs.compiling.compile_bound.Goals as goal

pub compile-requires : goal.compile-requires
compile-requires g c = record {
  bound =
      ap (λ bound. list_all (λ d. is_some (look_up (d.0) bound)) (deposits c.args.checked.now.pre)) (c.as_slice.ensures ∙ c.in_ok-bound.ensures)
      ∙ all_placed c.args.board.now.coins.outputs c.args.bindings.now (deposits c.args.checked.now.pre) ∙ c.requires.bound;
}
