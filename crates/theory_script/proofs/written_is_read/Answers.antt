use Rattle.theory_script.proofs.Encoding.{encode_read}
use Rattle.theory_script.proofs.written_is_read.Goals as goal

pub returns : goal.returns
returns c = encode_read
