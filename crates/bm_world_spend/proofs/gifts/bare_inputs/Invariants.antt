use Rattle.std.proofs.Common.{◌≡◌, take, map}
use Rattle.bm_world_spend.specs.Gifts.{input_of}
use Rattle.bm_world_spend.proofs.gifts.bare_inputs.Given as goal

abbrev pub invariant-loop-number : goal.invariant-loop-number
invariant-loop-number l = l.inputs ≡ map (input_of l.coins.outputs) (take l.number-index l.numbers)
