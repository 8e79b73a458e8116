use Rattle.std.proofs.Common.{refl}
use Rattle.tool_command.proofs.Taken.{one_each}
use Rattle.tool_command.proofs.both.judge_contracts.Goals as goal

pub returns-in-Ok : goal.returns-in-Ok
returns-in-Ok c = record { run_is = refl; contracts_are = c.in-Ok.ensures; one_each = one_each c.args.texts.now _ c.in-Ok.ensures }
