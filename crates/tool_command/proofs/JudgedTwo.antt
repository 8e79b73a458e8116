-- A run and its contract are judged by the first two texts.
use Rattle.std.proofs.Common.{◌≡◌, ◌≤◌, List, [], ◌∷◌, length, get_or, Result, subst, arith}
use Rattle.std.specs.Prelude.{IfOk, slice_range}
use Rattle.spec_tool.specs.Reads.{Text, text_at}
use Rattle.spec_tool.specs.Answers.{run_in}
use Rattle.tool_command.specs.declared.both.Judgement.{Judgement}
use Rattle.tool_command.specs.Judges.{JudgesFiles}

pub judged_two : {E : Type 0} (texts : List Text) (t : Text) (r : Result Judgement E) → 2 ≤ length texts → t ≡ get_or texts 0 t
    → IfOk r (JudgesFiles (run_in t) (slice_range texts 1 2)) → IfOk r (JudgesFiles (run_in (text_at texts 0)) (text_at texts 1 ∷ []))
judged_two [] t r few e h = absurd (omega (arith, few))
judged_two (x ∷ []) t r few e h = absurd (omega (arith, few))
judged_two (x ∷ y ∷ texts) t r few e h = subst (λ (u : Text). IfOk r (JudgesFiles (run_in u) (y ∷ []))) e h
