use Rattle.std.proofs.Common.{◌≡◌, drop}
use Rattle.std.specs.List.{list_all}
use Rattle.spec_tool.specs.Psbt.{input_fits}
use Rattle.bm_psbt.specs.Gathered.{pairs}
use Rattle.bm_psbt.proofs.inputs.all_fit.Given as goal

-- what is left decides
abbrev pub invariant-loop-key : goal.invariant-loop-key
invariant-loop-key l = list_all input_fits (pairs (drop l.key-index l.records)) ≡ list_all input_fits (pairs l.records)
