use Rattle.theory_tool.proofs.Auto.{auto_answers}
use Rattle.theory_tool.proofs.auto_answers_every_case.Goals as goal

pub returns : goal.returns
returns c = auto_answers
