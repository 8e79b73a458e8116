use Rattle.std.proofs.Common.{◌≡◌, drop}
use Rattle.std.specs.List.{list_all}
use Rattle.spec_tool.specs.Psbt.{global_fits}
use Rattle.bm_psbt.specs.Gathered.{pairs}
use Rattle.bm_psbt.proofs.reading.are_global.Given as goal

-- what is left decides
abbrev pub invariant-loop-key : goal.invariant-loop-key
invariant-loop-key l = list_all global_fits (pairs (drop l.key-index l.records)) ≡ list_all global_fits (pairs l.records)
