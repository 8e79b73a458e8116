use Rattle.std.proofs.Common.{◌≡◌, ◌++◌, drop}
use Rattle.std.specs.Prelude.{filter}
use Rattle.spec_next.specs.Prospects.{goes_on}
use Rattle.next_outlook.proofs.living.going.Given as goal

abbrev pub invariant-loop-prospect : goal.invariant-loop-prospect
invariant-loop-prospect l =
    l.list ++ filter (λ p. goes_on p.event p.ruling) (drop l.prospect-index l.prospects) ≡ filter (λ p. goes_on p.event p.ruling) l.prospects
