use Rattle.theory_bitcoin.proofs.Top.{spelled_is_read}
use Rattle.theory_bitcoin.proofs.spelled_is_read.Goals as goal

pub returns : goal.returns
returns c = spelled_is_read
