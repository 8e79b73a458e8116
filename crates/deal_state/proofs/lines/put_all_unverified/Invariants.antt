use Rattle.std.proofs.Common.{◌≡◌, ◌++◌, drop}
use Rattle.std.specs.List.{flat_map}
use Rattle.deal_state.specs.Lines.{unverified_text}
use Rattle.deal_state.proofs.lines.put_all_unverified.Given as goal

abbrev pub invariant-loop-unverified : goal.invariant-loop-unverified
invariant-loop-unverified l =
    l.out.items ++ flat_map unverified_text (drop l.unverified-index l.all) ≡ l.initial.out.items ++ flat_map unverified_text l.all
