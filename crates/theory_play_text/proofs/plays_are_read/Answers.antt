use Rattle.theory_play_text.proofs.Plays.{plays}
use Rattle.theory_play_text.proofs.plays_are_read.Goals as goal

pub returns : goal.returns
returns c = plays
