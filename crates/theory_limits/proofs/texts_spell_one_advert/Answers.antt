use Rattle.theory_limits.proofs.OneAdvert.{one_advert}
use Rattle.theory_limits.proofs.texts_spell_one_advert.Goals as goal

pub returns : goal.returns
returns c = one_advert
