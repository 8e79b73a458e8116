use Rattle.std.proofs.Common.{◌≡◌, ◌++◌, drop}
use Rattle.std.specs.Prelude.{option_map}
use Rattle.spec_next.specs.Listed.{by_party}
use Rattle.next_text.proofs.listed.by_party.Given as goal

abbrev pub invariant-loop-prospect : goal.invariant-loop-prospect
invariant-loop-prospect l =
    l.list ++ by_party (option_map (λ p. p.now) l.party) (drop l.prospect-index l.prospects)
    ≡ by_party (option_map (λ p. p.now) l.party) l.prospects
