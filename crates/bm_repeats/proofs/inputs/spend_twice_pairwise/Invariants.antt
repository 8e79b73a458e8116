use Rattle.std.proofs.Common.{◌≡◌, length}
use Rattle.spec_bitcoin.specs.Verdict.{has_repeat}
use Rattle.bm_repeats.proofs.inputs.spend_twice_pairwise.Given as goal

abbrev pub invariant-loop-first : goal.invariant-loop-first
invariant-loop-first l = has_repeat l.rest ≡ has_repeat l.inputs

abbrev pub decreases-loop-first : goal.decreases-loop-first
decreases-loop-first l = length l.rest
