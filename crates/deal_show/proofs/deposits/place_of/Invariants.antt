use Rattle.std.proofs.Common.{◌≡◌, drop}
use Rattle.spec_data.specs.Lists.{look_up}
use Rattle.deal_show.proofs.deposits.place_of.Given as goal

abbrev pub invariant-loop-known : goal.invariant-loop-known
invariant-loop-known l = look_up l.name (drop l.known-index l.bound) ≡ look_up l.name l.bound
