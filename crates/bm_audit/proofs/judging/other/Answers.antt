use Rattle.std.proofs.Common.{◌≡◌, None, sym, ap, subst, ◌∙◌}
use Rattle.std.specs.Prelude.{IfOk, slice_get}
use Rattle.spec_run.specs.World.{live_position}
use Rattle.spec_run.specs.Ledger.{kind_by, first_position}
use Rattle.spec_tool.specs.Audit.{now_by}
use Rattle.bm_audit.proofs.Saying.{first_some, first_none, now_untaken}
use Rattle.bm_audit.proofs.judging.other.Goals as goal

pub returns-in-Some : goal.returns-in-Some
returns-in-Some c = λ s w e f.
    let number = c.in-Some.number in
    let first = first_some w c.args.spent.now number (sym c.in-Some.is ∙ c.first_of.ensures) in
    subst (λ o. IfOk c.taken.result (λ now. now ≡ now_by (kind_by s c.args.tx.now c.args.spent.now None o)))
    (ap (λ outputs. live_position (slice_get outputs number)) (sym f) ∙ first.1)
    (c.taken.ensures s c.args.spent.now e first.0)

pub returns-in-None : goal.returns-in-None
returns-in-None c = λ s w e f.
    now_untaken s c.args.tx.now c.args.spent.now (first_position w c.args.spent.now)
    (first_none w c.args.spent.now (sym c.in-None.is ∙ c.first_of.ensures))
