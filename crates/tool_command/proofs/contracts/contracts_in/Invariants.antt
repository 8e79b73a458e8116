use Rattle.std.proofs.Common.{◌≡◌, drop}
use Rattle.spec_tool.specs.Answers as spec
use Rattle.tool_command.specs.Judges.{behind}
use Rattle.tool_command.proofs.contracts.contracts_in.Given as goal

abbrev pub invariant-loop-number : goal.invariant-loop-number
invariant-loop-number l = behind l.contracts.items (spec.contracts_in l.number (drop l.number l.texts)) ≡ spec.contracts_in 0 l.texts
