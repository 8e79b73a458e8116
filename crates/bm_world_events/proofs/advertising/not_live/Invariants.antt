use Rattle.std.proofs.Common.{◌≡◌, ℕ, List, drop}
use Rattle.spec_run.specs.Advertising.{not_live}
use Rattle.bm_world_board.specs.Prepares.{world_of}
use Rattle.bm_world_events.proofs.advertising.not_live.Given as goal

abbrev pub invariant-loop-binding : goal.invariant-loop-binding
invariant-loop-binding l =
    (messages : List (List ℕ)) → not_live (world_of l.board messages) (drop l.binding-index l.bindings) ≡ not_live (world_of l.board messages) l.bindings
