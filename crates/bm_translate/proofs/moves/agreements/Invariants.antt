use Rattle.std.proofs.Common.{◌≡◌, map, take}
use Rattle.spec_run.specs.Steps.{auth_move}
use Rattle.bm_translate.proofs.moves.agreements.Given as goal

-- the parties so far have agreed
abbrev pub invariant-loop-party : goal.invariant-loop-party
invariant-loop-party l = l.agreed.items ≡ map (auth_move l.action) (take l.party-index l.parties)
