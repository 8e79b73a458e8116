use Rattle.std.proofs.Common.{map, sym, ap, ◌∙◌}
use Rattle.bm_syntax.specs.View.{guarded}
use Rattle.bm_syntax.proofs.Views.{branches-choice_of}
use Rattle.deal_state.proofs.asked.branches_of.Goals as goal

pub returns : goal.returns
returns c =
    ap (map guarded) c.as_slice.ensures.value ∙ sym (branches-choice_of (map guarded c.args.choice.now.branches.items))
