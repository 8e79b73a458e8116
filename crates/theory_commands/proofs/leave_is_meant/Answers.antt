use Rattle.theory_commands.proofs.Leave.{leave_meant}
use Rattle.theory_commands.proofs.leave_is_meant.Goals as goal

pub returns : goal.returns
returns c = leave_meant
