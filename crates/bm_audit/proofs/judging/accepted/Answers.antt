use Rattle.std.proofs.Common.{◌≡◌, sym, subst, ◌∙◌}
use Rattle.std.specs.Prelude.{IfOk}
use Rattle.bm_audit.proofs.Saying.{now_begun, now_other}
use Rattle.bm_audit.proofs.judging.accepted.Goals as goal

pub returns-in-Some : goal.returns-in-Some
returns-in-Some c = λ s w e f all.
    now_begun s w c.args.tx.now c.args.spent.now c.in-Some.contract
    (sym c.in-Some.is ∙ c.first_initial.ensures.run s w (c.as_slice.ensures ∙ all))

pub returns-in-None : goal.returns-in-None
returns-in-None c = λ s w e f all.
    subst (λ kind. IfOk c.other.result (λ now. now ≡ kind))
    (now_other s w c.args.tx.now c.args.spent.now (sym c.in-None.is ∙ c.first_initial.ensures.run s w (c.as_slice.ensures ∙ all)))
    (c.other.ensures s w e f)
