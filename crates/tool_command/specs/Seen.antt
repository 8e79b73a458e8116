-- Commands and replies of the code, as the definitions have them.
use Rattle.std.specs.Prelude.{ℕ, ◌≤◌, length, map, ◌&&◌, nat_le, Option, Some, string_bytes}
use Rattle.spec_data.specs.Ranges.{most_contracts}
use Rattle.spec_text.specs.Words.{given}
use Rattle.spec_tool.specs.Commands as spec
use Rattle.tool_command.specs.declared.command.Command.{Command}
use Rattle.tool_command.specs.declared.command.Command.TheVariants as commands

abbrev pub command : Command → spec.Command
command (commands.Check contract) = spec.check contract.now
command (commands.Play run contracts) = spec.play run.now (map string_bytes contracts.now)
command (commands.Plan run contract) = spec.plan run.now contract.now
command (commands.Make number size) = spec.make number size
command (commands.PsbtOf run contract which) = spec.psbt_of run.now contract.now which
command (commands.PsbtShown file) = spec.psbt_shown file.now
command (commands.PsbtJoined first second) = spec.psbt_joined first.now second.now
command (commands.Weigh run contract) = spec.weigh run.now contract.now
command (commands.Audit run contract file) = spec.audit run.now contract.now file.now
command (commands.Auto run contract strategy) = spec.auto run.now contract.now strategy.now

-- the command `make` of these numbers, where the size is one of its sizes
abbrev pub made_of : ℕ → ℕ → Option spec.Command
made_of n s = given (nat_le 1 s && nat_le s spec.most_size) (spec.make n s)

-- a run is played with no more contracts than it may have
abbrev pub HasFew : Option spec.Command → Type 0
HasFew (Some (spec.play run contracts)) = length contracts ≤ most_contracts
HasFew _ = Unit {0}
