use Rattle.std.proofs.Common.{◌∙◌}
use Rattle.bm_ledger.proofs.Witnesses.{last_is_script}
use Rattle.bm_ledger.proofs.inputs.script_of.Goals as goal

pub returns-in-Some : goal.returns-in-Some
returns-in-Some c = c.as_slice.ensures ∙ last_is_script c.args.witness.now c.in-Some.script.now c.in-Some.field-0-1.now c.in-Some.ensures.cases
