use Rattle.std.proofs.Common.{◌∙◌}
use Rattle.bm_translate.proofs.Kinded.{moving_steps, nothing_first}
use Rattle.bm_translate.proofs.kinds.spending_steps.Goals as goal

pub returns-in_ok-moved-in-None : goal.returns-in_ok-moved-in-None
returns-in_ok-moved-in-None c = λ s f w messages at none.
    c.in_ok-moved-in-None.ensures.run s w (c.as_slice-accounts.ensures ∙ at.end.accounts) at.kept.tracks.money
    ∙ moving_steps s f w c.args.board.now messages c.args.running.now at c.args.tx.now c.args.spent.now
    (nothing_first s f w c.args.board.now messages c.args.running.now at c.args.tx.now c.args.spent.now c.in-None.ensures)
