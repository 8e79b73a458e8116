use Rattle.theory_text.proofs.Reader.{reader_is}
use Rattle.theory_text.proofs.reader_theorem.Goals as goal

pub returns : goal.returns
returns c = reader_is
