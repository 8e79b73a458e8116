use Rattle.theory_generator.proofs.RunsPlay.{texts_played}
use Rattle.theory_generator.proofs.generated_texts_are_played.Goals as goal

pub returns : goal.returns
returns c = texts_played
