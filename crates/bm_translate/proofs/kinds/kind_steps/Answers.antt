use Rattle.std.proofs.Common.{sym, ap, ◌∙◌}
use Rattle.std.specs.Prelude.{slice_get}
use Rattle.spec_run.specs.Setup.{pre_of}
use Rattle.bm_translate.proofs.Kinded.{initial_steps, other_steps, none_begun}
use Rattle.bm_translate.proofs.kinds.kind_steps.Goals as goal

pub returns-in_ok-begun-in-Some : goal.returns-in_ok-begun-in-Some
returns-in_ok-begun-in-Some c = λ s f w messages at.
    let k = c.in-Some.contract in
    c.in_ok-begun-in-Some.ensures.defined s c.args.running.now.config
    (ap (λ cs. pre_of (slice_get cs k)) (sym at.end.contracts) ∙ sym c.pre_of.ensures)
    (sym at.inits ∙ sym c.as_slice-inits.ensures)
    ∙ initial_steps s f w c.args.board.now messages c.args.running.now at c.args.tx.now c.args.spent.now k
    (rw c.as_slice.ensures at c.in-Some.ensures)

pub returns-in_ok-other-in-None : goal.returns-in_ok-other-in-None
returns-in_ok-other-in-None c = λ s f w messages at.
    let begun = rw c.as_slice.ensures at c.in-None.ensures in
    c.in_ok-other-in-None.ensures s f w messages at
    (none_begun s f w c.args.board.now messages c.args.running.now at c.args.tx.now c.args.spent.now begun)
    ∙ other_steps s f w c.args.board.now messages c.args.running.now at c.args.tx.now c.args.spent.now begun
