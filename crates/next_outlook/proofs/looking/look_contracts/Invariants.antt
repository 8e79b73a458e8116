use Rattle.std.proofs.Common.{drop}
use Rattle.next_outlook.specs.Seen.{MidwayContracts}
use Rattle.next_outlook.proofs.looking.look_contracts.Given as goal

abbrev pub invariant-loop-checked : goal.invariant-loop-checked
invariant-loop-checked g l =
    MidwayContracts g.H.Hash32.digest_of l.initial.world l.world l.config l.contract (drop l.checked-index l.contracts) l.contracts l.list
