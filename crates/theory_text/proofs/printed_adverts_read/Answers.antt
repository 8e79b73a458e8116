use Rattle.theory_text.proofs.Printed.Adverts.{printed_advert}
use Rattle.theory_text.proofs.printed_adverts_read.Goals as goal

pub returns : goal.returns
returns c = printed_advert
