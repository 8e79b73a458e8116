use Rattle.std.proofs.Common.{◌≡◌, subst, IfOk}
use Rattle.bm_psbt_plan.proofs.InRun.{is_one}
use Rattle.bm_psbt_plan.proofs.Telling.{told_of_run}
use Rattle.bm_psbt_plan.proofs.texts.psbt_text.Goals as goal

pub told-requires : goal.told-requires
told-requires g c compiled e = is_one _ _ _ c.requires c.args.book.now c.args.which.now compiled e

pub returns-clause-run : goal.returns-clause-run
returns-clause-run g c s w e f k h =
    subst (λ t. IfOk c.told.result (λ text. text.items ≡ t))
    (told_of_run _ c.args.book.now c.args.checked.now _ c.args.which.now s w e f k h) c.told.ensures
