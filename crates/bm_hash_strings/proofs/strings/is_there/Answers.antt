use Rattle.std.proofs.Common.{ap, ◌∙◌}
use Rattle.std.specs.Prelude.{is_some}
use Rattle.bm_hash_strings.proofs.Placing.{placed-among}
use Rattle.bm_hash_strings.proofs.strings.is_there.Goals as goal

pub returns : goal.returns
returns c = c.is_some.ensures ∙ ap is_some c.place_of.ensures ∙ placed-among c.args.strings.now c.args.string.now
