use Rattle.std.proofs.Common.{map, ◌∙◌}
use Rattle.spec_calculus.specs.Moves.{owner_at}
use Rattle.bm_translate.proofs.Once.{added_once}
use Rattle.bm_translate.proofs.moves.owners_once.Goals as goal

pub returns : goal.returns
returns c = c.in_ok-names.ensures ∙ added_once (map (owner_at c.args.config.now.deposits) c.args.numbers.now)
