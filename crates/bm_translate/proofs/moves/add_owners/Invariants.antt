use Rattle.std.proofs.Common.{◌≡◌, [], map, drop}
use Rattle.spec_calculus.specs.Moves.{owner_at}
use Rattle.bm_translate.specs.Moving.{with_owners}
use Rattle.bm_translate.proofs.moves.add_owners.Given as goal

-- the parties so far and the new ones of the rest are those of all
abbrev pub invariant-loop-number : goal.invariant-loop-number
invariant-loop-number l =
    with_owners l.names.items (map (owner_at l.config.deposits) (drop l.number-index l.numbers))
    ≡ with_owners [] (map (owner_at l.config.deposits) l.numbers)
