use Rattle.tool_command.proofs.JudgedTwo.{judged_two}
use Rattle.tool_command.proofs.both.judge_two.Goals as goal

pub returns-clause-files : goal.returns-clause-files
returns-clause-files c = judged_two c.args.texts.now c.index-texts-0.result c.judge_both.result c.requires c.index-texts-0.is c.judge_both.ensures.files
