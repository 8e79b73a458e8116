use Rattle.std.proofs.Common.{sym, ap, ◌∙◌}
use Rattle.std.specs.Option.{option_copied}
use Rattle.spec_text.specs.Words.{steps}
use Rattle.std.specs.Prelude.{is_some}
use Rattle.tool_which.proofs.PathSteps.{goes, stops}
use Rattle.tool_which.proofs.path_word.are_steps.Goals as goal

pub returns-in_default : goal.returns-in_default
returns-in_default c =
    stops c.loop-rest.rest.now (is_some (steps c.args.bytes.now)) (sym c.is_empty.ensures ∙ c.loop-rest-test.true)
    (sym (ap option_copied c.in_default.is) ∙ c.behind_step.ensures.step) c.loop-rest.invariant

pub loop-rest-preserved : goal.loop-rest-preserved
loop-rest-preserved c =
    goes c.loop-rest.rest.now c.in-Some.more.now (is_some (steps c.args.bytes.now)) (sym c.is_empty.ensures ∙ c.loop-rest-test.true)
    (sym (ap option_copied c.in-Some.is) ∙ c.behind_step.ensures.step) c.loop-rest.invariant
