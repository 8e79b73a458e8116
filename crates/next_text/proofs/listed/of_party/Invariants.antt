use Rattle.std.proofs.Common.{◌≡◌, ◌++◌, drop}
use Rattle.std.specs.Prelude.{option_map}
use Rattle.spec_next.specs.Listed.{of_party}
use Rattle.next_text.proofs.listed.of_party.Given as goal

abbrev pub invariant-loop-name : goal.invariant-loop-name
invariant-loop-name l =
    l.list ++ of_party (option_map (λ p. p.now) l.party) (drop l.name-index l.names) ≡ of_party (option_map (λ p. p.now) l.party) l.names
