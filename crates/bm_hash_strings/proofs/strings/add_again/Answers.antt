use Rattle.std.proofs.Common.{rules}
use Rattle.bm_hash_strings.proofs.Placing.{placed_again}
use Rattle.bm_hash_strings.proofs.strings.add_again.Goals as goal

pub returns-clause-placed : goal.returns-clause-placed
returns-clause-placed c = placed_again _ c.args.places.now c.requires.placed c.args.string.now _ c.requires.there (search rules)
