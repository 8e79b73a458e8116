use Rattle.std.proofs.Common.{◌∙◌}
use Rattle.bm_translate.proofs.Moved.{moves}
use Rattle.bm_translate.proofs.moves.move_steps.Goals as goal

pub returns-clause-run : goal.returns-clause-run
returns-clause-run c = λ s w e money.
    c.in_ok-made.ensures ∙ moves s c.args.config.now w c.args.accounts.now c.args.tx.now c.args.spent.now e money
