use Rattle.tool_shell.proofs.Determined.{determined}
use Rattle.tool_shell.proofs.theorem.files_determine_answers.Goals as goal

pub returns : goal.returns
returns c = determined
