use Rattle.theory_play_text.proofs.Reports.{reports_back}
use Rattle.theory_play_text.proofs.reports_read_back.Goals as goal

pub returns : goal.returns
returns c = reports_back
