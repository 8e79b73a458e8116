use Rattle.std.proofs.Common.{◌≡◌, drop}
use Rattle.spec_bitcoin.specs.Effects.{truth}
use Rattle.bm_interp.proofs.effects.is_true.Given as goal

abbrev pub invariant-loop-i : goal.invariant-loop-i
invariant-loop-i l = truth (drop l.i l.item) ≡ truth l.item
