use Rattle.theory_commands.proofs.Words.{sizes_taken}
use Rattle.theory_commands.proofs.generated_sizes_are_taken.Goals as goal

pub returns : goal.returns
returns c = sizes_taken
