use Rattle.std.proofs.Common.{◌≡◌, ◌∷◌, map, take}
use Rattle.std.specs.Prelude.{string_bytes}
use Rattle.spec_tool.specs.Commands.{run_file, contract_file}
use Rattle.tool_shell.specs.Asked.{asked}
use Rattle.tool_command.proofs.files.run_files.Given as goal

abbrev pub invariant-loop-contract : goal.invariant-loop-contract
invariant-loop-contract l = map asked l.files.items ≡ run_file l.run ∷ map contract_file (map string_bytes (take l.contract-index l.contracts))
