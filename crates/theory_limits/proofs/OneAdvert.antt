-- A text spells at most one advert.
use Rattle.std.proofs.Common.{[], refl}
use Rattle.theory_limits.specs.Statements.{OneAdvertTheorem}
use Rattle.theory_text.proofs.Told.AdvertReaders.{advert_clear}

pub one_advert : OneAdvertTheorem
one_advert t a b l m = (advert_clear.apart t [] t [] a b l m refl).0
