use Rattle.std.proofs.Common.{ℕ, List, ◌++◌, ap, ◌∙◌}
use Rattle.spec_text.specs.RunText.{newline}
use Rattle.bm_plan.proofs.weights.told.Goals as goal

pub returns : goal.returns
returns c = c.in_ok-put.ensures ∙ ap (λ (t : List ℕ). t ++ newline) (c.in_ok-text.ensures _ c.in_ok-plan.ensures)
