use Rattle.theory_bitcoin.proofs.Apart.{places_once}
use Rattle.theory_bitcoin.proofs.places_once.Goals as goal

pub returns : goal.returns
returns c = places_once
