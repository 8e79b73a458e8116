use Rattle.std.proofs.Common.{◌≡◌, drop}
use Rattle.bm_world_events.specs.Advertising.{unsuited_by}
use Rattle.bm_world_events.proofs.advertising.unsuited.Given as goal

abbrev pub invariant-loop-binding : goal.invariant-loop-binding
invariant-loop-binding l = unsuited_by l.board.accounts l.board.coins.outputs l.entries (drop l.binding-index l.bindings)
    ≡ unsuited_by l.board.accounts l.board.coins.outputs l.entries l.bindings
