use Rattle.theory_text.proofs.Lines.Headers.{printed_header}
use Rattle.theory_text.proofs.printed_headers_read.Goals as goal

pub returns : goal.returns
returns c = printed_header
