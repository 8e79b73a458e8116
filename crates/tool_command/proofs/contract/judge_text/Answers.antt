use Rattle.tool_command.proofs.contract.judge_text.Goals as goal

pub judge-requires : goal.judge-requires
judge-requires c = c.reader_theorem.ensures.fits _ _ c.in-Ok.ensures
