use Rattle.std.proofs.Common.{◌≡◌, ◌++◌, drop}
use Rattle.std.specs.List.{flat_map}
use Rattle.bm_world_board.proofs.reaching.items_of.Given as goal

abbrev pub invariant-loop-input : goal.invariant-loop-input
invariant-loop-input l = l.items ++ flat_map (λ i. i.witness) (drop l.input-index l.inputs) ≡ flat_map (λ i. i.witness) l.inputs
