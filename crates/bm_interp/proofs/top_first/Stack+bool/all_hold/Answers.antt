use Rattle.std.specs.List.{list_all}
use Rattle.std.proofs.Common.{ap, ◌∙◌}
use Rattle.bm_interp.specs.Resuming.{all_hold}
use Rattle.bm_interp.proofs.Conditions.{all_hold-reverse}
use Rattle.bm_interp.proofs.top_first.Stack+bool.all_hold.Goals as goal

pub returns : goal.returns
returns c =
    c.all_true.ensures ∙ ap (λ xs. list_all (λ b. b) xs) c.as_slice.ensures.value ∙ all_hold-reverse c.self.inside.items.items ∙ ap all_hold c.self.view_is
