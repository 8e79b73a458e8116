use Rattle.theory_tool.proofs.Texts.{texts_are_answered}
use Rattle.theory_tool.proofs.commands_answer_texts.Goals as goal

pub returns : goal.returns
returns c = texts_are_answered
