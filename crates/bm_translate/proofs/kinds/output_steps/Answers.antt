use Rattle.std.proofs.Common.{◌∙◌}
use Rattle.bm_translate.proofs.Kinded.{taking_is, moving_steps, no_contract}
use Rattle.bm_translate.proofs.kinds.output_steps.Goals as goal

pub returns-in_ok-taken-in-Some : goal.returns-in_ok-taken-in-Some
returns-in_ok-taken-in-Some c = λ s f w messages at none.
    taking_is s f w c.args.board.now messages c.args.running.now at c.args.tx.now c.args.spent.now none c.args.output
    c.in-Some.active.contract c.in-Some.active.position.now c.in-Some.active.balance c.in_ok-taken-in-Some.taken.items
    c.requires.first c.in-Some.ensures c.in_ok-taken-in-Some.ensures

pub returns-in_ok-moved-in-None : goal.returns-in_ok-moved-in-None
returns-in_ok-moved-in-None c = λ s f w messages at none.
    c.in_ok-moved-in-None.ensures.run s w (c.as_slice-accounts.ensures ∙ at.end.accounts) at.kept.tracks.money
    ∙ moving_steps s f w c.args.board.now messages c.args.running.now at c.args.tx.now c.args.spent.now
    (no_contract s f w c.args.board.now messages c.args.running.now at c.args.tx.now c.args.spent.now c.args.output
    c.requires.first c.in-None.ensures)
