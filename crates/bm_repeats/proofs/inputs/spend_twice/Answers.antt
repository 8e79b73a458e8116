use Rattle.std.proofs.Common.{ap, ◌∙◌}
use Rattle.spec_bitcoin.specs.Live.{same_outpoint}
use Rattle.bm_repeats.specs.Repeats.{has_repeat}
use Rattle.bm_repeats.proofs.Told.{spent_twice}
use Rattle.bm_repeats.proofs.inputs.spend_twice.Goals as goal

pub returns-in-Ok : goal.returns-in-Ok
returns-in-Ok c = c.repeats.ensures ∙ ap (has_repeat same_outpoint) (c.as_slice.ensures.value ∙ c.in-Ok.ensures) ∙ spent_twice c.args.inputs.now
