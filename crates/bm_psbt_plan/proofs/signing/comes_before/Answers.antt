use Rattle.std.specs.declared.cmp.Ordering.TheVariants.{Less, Equal, Greater}
use Rattle.bm_psbt.proofs.Putting.{before_cmp}
use Rattle.bm_psbt_plan.proofs.signing.comes_before.Goals as goal

pub returns-in-Less : goal.returns-in-Less
returns-in-Less c = before_cmp c.args.key.now c.args.other.now Less c.in-Less.ensures

pub returns-in-Equal : goal.returns-in-Equal
returns-in-Equal c = before_cmp c.args.key.now c.args.other.now Equal c.in-Equal.ensures

pub returns-in-Greater : goal.returns-in-Greater
returns-in-Greater c = before_cmp c.args.key.now c.args.other.now Greater c.in-Greater.ensures
