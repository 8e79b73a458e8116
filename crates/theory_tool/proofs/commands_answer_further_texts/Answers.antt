use Rattle.theory_tool.proofs.FurtherTexts.{further_texts}
use Rattle.theory_tool.proofs.commands_answer_further_texts.Goals as goal

pub returns : goal.returns
returns c = further_texts
