use Rattle.theory_page.proofs.Told as shown
use Rattle.theory_page.proofs.lines_tell_turns.Goals as goal

pub returns : goal.returns
returns c = shown.lines_tell_turns
