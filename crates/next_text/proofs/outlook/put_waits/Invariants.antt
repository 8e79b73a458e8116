use Rattle.std.proofs.Common.{◌≡◌, ◌++◌, drop}
use Rattle.std.specs.List.{flat_map}
use Rattle.std.specs.Prelude.{option_map}
use Rattle.spec_next.specs.Listed.{of_party}
use Rattle.spec_next.specs.OutlookText.{waits_line}
use Rattle.next_text.proofs.outlook.put_waits.Given as goal

abbrev pub invariant-loop-name : goal.invariant-loop-name
invariant-loop-name l =
    l.out.items ++ flat_map waits_line (of_party (option_map (λ p. p.now) l.party) (drop l.name-index l.names))
    ≡ l.initial.out.items ++ flat_map waits_line (of_party (option_map (λ p. p.now) l.party) l.names)
