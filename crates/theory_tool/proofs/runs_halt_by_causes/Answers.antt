use Rattle.theory_tool.proofs.Runs.{runs_halt}
use Rattle.theory_tool.proofs.runs_halt_by_causes.Goals as goal

pub returns : goal.returns
returns c = runs_halt
