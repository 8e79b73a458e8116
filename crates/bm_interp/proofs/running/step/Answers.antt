use Rattle.std.proofs.lemmas.Result.{IfOk-weaker}
use Rattle.bm_interp.proofs.running.step.Goals as goal

pub returns-in-Begins : goal.returns-in-Begins
returns-in-Begins g c = IfOk-weaker c.begin_block.result _ _ (λ b does. rw (← c.in-Begins.ensures) (does _ _)) c.begin_block.ensures
