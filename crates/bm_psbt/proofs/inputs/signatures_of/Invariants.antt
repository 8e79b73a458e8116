use Rattle.std.proofs.Common.{◌≡◌, ◌++◌, true, drop}
use Rattle.std.specs.List.{list_all}
use Rattle.spec_tool.specs.Psbt.{input_fits}
use Rattle.bm_psbt.specs.Gathered.{pairs}
use Rattle.bm_psbt.specs.Ordered.{signatures_in}
use Rattle.bm_psbt.proofs.inputs.signatures_of.Given as goal

-- the records that are left fit, and the signatures so far and those that are left are the whole
abbrev pub invariant-loop-key : goal.invariant-loop-key
invariant-loop-key l = record {
  fit : list_all input_fits (pairs (drop l.key-index l.records)) ≡ true;
  whole : l.signatures ++ signatures_in (pairs (drop l.key-index l.records)) ≡ signatures_in (pairs l.records);
}
