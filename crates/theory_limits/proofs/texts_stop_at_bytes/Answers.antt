use Rattle.theory_limits.proofs.TextPlaces.{texts_are}
use Rattle.theory_limits.proofs.texts_stop_at_bytes.Goals as goal

pub returns : goal.returns
returns c = texts_are
