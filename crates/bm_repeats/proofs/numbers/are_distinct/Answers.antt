use Rattle.std.proofs.Common.{not, ap, ◌∙◌}
use Rattle.bm_repeats.proofs.Told.{distinct}
use Rattle.bm_repeats.proofs.numbers.are_distinct.Goals as goal

pub returns-in-Some : goal.returns-in-Some
returns-in-Some c = ap not c.in-Some.ensures ∙ distinct c.args.numbers.now

pub returns : goal.returns
returns c = ap not c.repeats.ensures ∙ distinct c.args.numbers.now
