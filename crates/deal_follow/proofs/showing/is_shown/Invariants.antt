use Rattle.std.proofs.Common.{◌≡◌, drop}
use Rattle.std.specs.Prelude.{is_some}
use Rattle.spec_data.specs.Lists.{look_up}
use Rattle.deal_follow.proofs.showing.is_shown.Given as goal

abbrev pub invariant-loop-known : goal.invariant-loop-known
invariant-loop-known l =
    is_some (look_up l.name (drop l.known-index l.shown)) ≡ is_some (look_up l.name l.shown)
