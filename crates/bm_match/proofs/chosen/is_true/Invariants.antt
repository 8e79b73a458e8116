use Rattle.std.proofs.Common.{◌≡◌, drop}
use Rattle.spec_bitcoin.specs.Effects.{truth}
use Rattle.bm_match.proofs.chosen.is_true.Given as goal

-- the rest is true exactly where all is
abbrev pub invariant-loop-i : goal.invariant-loop-i
invariant-loop-i l = truth (drop l.i l.item) ≡ truth l.item
