use Rattle.std.proofs.Common.{◌≡◌, ◌++◌, drop}
use Rattle.std.specs.List.{flat_map}
use Rattle.std.specs.Prelude.{filter, option_map}
use Rattle.spec_next.specs.Listed.{is_for_party}
use Rattle.spec_next.specs.OutlookText.{outlook_text}
use Rattle.next_text.proofs.outlook.put_outlooks.Given as goal

abbrev pub invariant-loop-outlook : goal.invariant-loop-outlook
invariant-loop-outlook l =
    let asked = option_map (λ p. p.now) l.party in
    l.out.items ++ flat_map (outlook_text asked l.config) (filter (is_for_party asked) (drop l.outlook-index l.outlooks))
    ≡ l.initial.out.items ++ flat_map (outlook_text asked l.config) (filter (is_for_party asked) l.outlooks)
