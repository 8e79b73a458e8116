use Rattle.std.proofs.Common.{◌≡◌, ◌≤◌, drop, length}
use Rattle.bm_psbt_plan.specs.Parts.{signed_by}
use Rattle.bm_psbt_plan.proofs.signing.signatures.Given as goal

abbrev pub invariant-loop-left : goal.invariant-loop-left
invariant-loop-left l = record {
  within : l.left ≤ length l.keys;
  signed : l.signatures.items ≡ signed_by l.book (drop l.left l.keys) l.digest;
}

abbrev pub decreases-loop-left : goal.decreases-loop-left
decreases-loop-left l = l.left
