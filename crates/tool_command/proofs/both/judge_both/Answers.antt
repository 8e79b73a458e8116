use Rattle.tool_command.proofs.Taken.{taken_by}
use Rattle.tool_command.proofs.both.judge_both.Goals as goal

pub returns-in-Ok-clause-taken : goal.returns-in-Ok-clause-taken
returns-in-Ok-clause-taken c =
    taken_by c.run_files_spell_runs.ensures c.args.run.now c.in-Ok.taken c.in-Ok.ensures c.args.contracts.now c.judge_contracts.result c.judge_contracts.ensures
