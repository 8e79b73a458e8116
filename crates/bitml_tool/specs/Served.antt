-- What is known of the commands that words are.
use Rattle.std.specs.Prelude.{◌≤◌, length, Option, Some}
use Rattle.spec_data.specs.Ranges.{most_contracts}
use Rattle.spec_tool.specs.Commands.{Command, play, make, most_size}
use Rattle.tool_command.specs.Seen.{command}
use Rattle.bitml_tool.specs.declared.tool.ToolCall.{ToolCall}

-- a run is played with no more contracts than it may have, and made of no more stages
abbrev pub IsServed : Option Command → Type 0
IsServed (Some (play run contracts)) = length contracts ≤ most_contracts
IsServed (Some (make number size)) = size ≤ most_size
IsServed _ = Unit {0}

-- the command that is served
abbrev pub seen : ToolCall → Command
seen call = command call.command
