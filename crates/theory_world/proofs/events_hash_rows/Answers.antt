use Rattle.theory_world.proofs.Hashing.{events_hash_rows}
use Rattle.theory_world.proofs.events_hash_rows.Goals as goal

pub returns : goal.returns
returns c = events_hash_rows
