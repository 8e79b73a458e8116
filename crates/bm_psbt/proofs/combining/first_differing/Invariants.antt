use Rattle.std.proofs.Common.{◌≡◌, true, drop}
use Rattle.std.specs.List.{list_all}
use Rattle.spec_tool.specs.PsbtBytes.{first_conflict}
use Rattle.theory_psbt.proofs.Kept.{signs_ascend}
use Rattle.bm_psbt.proofs.combining.first_differing.Given as goal

-- those that are left decide
abbrev pub invariant-loop-input : goal.invariant-loop-input
invariant-loop-input l = record {
  number : l.number ≡ l.input-index;
  inputs : list_all signs_ascend (drop l.input-index l.inputs) ≡ true;
  others : list_all signs_ascend l.rest ≡ true;
  same : first_conflict l.number (drop l.input-index l.inputs) l.rest ≡ first_conflict 0 l.inputs l.others;
}
