use Rattle.tool_shell.proofs.Determined.{determined_by_logs}
use Rattle.tool_shell.proofs.theorem.logs_determine_answers.Goals as goal

pub returns : goal.returns
returns c = determined_by_logs
