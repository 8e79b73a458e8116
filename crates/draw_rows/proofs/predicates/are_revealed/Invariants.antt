use Rattle.std.proofs.Common.{◌≡◌, drop}
use Rattle.spec_calculus.specs.Branches.{are_revealed}
use Rattle.draw_rows.proofs.predicates.are_revealed.Given as goal

abbrev pub invariant-loop-name : goal.invariant-loop-name
invariant-loop-name l =
    are_revealed l.config.revealed l.contract l.pre (drop l.name-index l.names) ≡ are_revealed l.config.revealed l.contract l.pre l.names
