use Rattle.std.proofs.Common.{◌≡◌, drop}
use Rattle.spec_data.specs.Lists.{look_up}
use Rattle.bm_calculus.proofs.secrets.length_in.Given as goal

abbrev pub invariant-loop-length : goal.invariant-loop-length
invariant-loop-length l = look_up l.secret (drop l.length-index l.lengths) ≡ look_up l.secret l.lengths
