use Rattle.theory_play_text.proofs.Plays.{same_plays}
use Rattle.theory_play_text.proofs.same_plays_show_the_same.Goals as goal

pub returns : goal.returns
returns c = same_plays
