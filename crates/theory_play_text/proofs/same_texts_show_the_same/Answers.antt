use Rattle.theory_play_text.proofs.Reports.{same_texts}
use Rattle.theory_play_text.proofs.same_texts_show_the_same.Goals as goal

pub returns : goal.returns
returns c = same_texts
