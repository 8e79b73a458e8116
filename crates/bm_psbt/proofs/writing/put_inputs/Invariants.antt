use Rattle.std.proofs.Common.{◌≡◌, ◌++◌, drop}
use Rattle.std.specs.List.{flat_map}
use Rattle.spec_tool.specs.Psbt.{map_bytes}
use Rattle.spec_tool.specs.PsbtBytes.{input_records}
use Rattle.bm_psbt.proofs.writing.put_inputs.Given as goal

-- what is written and what is left to write are the whole
abbrev pub invariant-loop-input : goal.invariant-loop-input
invariant-loop-input l =
    l.out.items ++ flat_map (λ input. map_bytes (input_records input)) (drop l.input-index l.inputs)
    ≡ l.initial.out.items ++ flat_map (λ input. map_bytes (input_records input)) l.inputs
