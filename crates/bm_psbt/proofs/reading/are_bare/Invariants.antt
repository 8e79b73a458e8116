use Rattle.std.proofs.Common.{◌≡◌, drop}
use Rattle.std.specs.List.{list_all}
use Rattle.spec_tool.specs.Psbt.{is_bare_input}
use Rattle.bm_psbt.proofs.reading.are_bare.Given as goal

-- what is left decides
abbrev pub invariant-loop-input : goal.invariant-loop-input
invariant-loop-input l = list_all is_bare_input (drop l.input-index l.inputs) ≡ list_all is_bare_input l.inputs
