use Rattle.std.proofs.Common.{◌≡◌, drop}
use Rattle.std.specs.List.{list_all}
use Rattle.theory_psbt.proofs.Kept.{signs_ascend}
use Rattle.bm_psbt.proofs.order.all_in_order.Given as goal

-- what is left decides
abbrev pub invariant-loop-input : goal.invariant-loop-input
invariant-loop-input l = list_all signs_ascend (drop l.input-index l.inputs) ≡ list_all signs_ascend l.inputs
