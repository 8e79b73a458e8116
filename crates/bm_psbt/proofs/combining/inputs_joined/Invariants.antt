use Rattle.std.proofs.Common.{◌≡◌, ◌++◌, true, drop}
use Rattle.std.specs.List.{list_all}
use Rattle.spec_tool.specs.PsbtBytes as spec
use Rattle.theory_psbt.proofs.Kept.{signs_ascend}
use Rattle.bm_psbt.proofs.combining.inputs_joined.Given as goal

-- those that are joined and those that are left are the whole
abbrev pub invariant-loop-input : goal.invariant-loop-input
invariant-loop-input l = record {
  inputs : list_all signs_ascend (drop l.input-index l.inputs) ≡ true;
  others : list_all signs_ascend l.rest ≡ true;
  whole : l.all ++ spec.inputs_joined (drop l.input-index l.inputs) l.rest ≡ spec.inputs_joined l.inputs l.others;
}
