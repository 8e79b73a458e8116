use Rattle.std.proofs.Common.{take, map}
use Rattle.indexmap.specs.IndexMap.{get}
use Rattle.spec_bitcoin.specs.Live.{same_outpoint}
use Rattle.bm_ledger.specs.Ordered.{LosesPlaces}
use Rattle.bm_ledger.proofs.outputs.indexed.forget_numbers.Given as goal

abbrev pub invariant-loop-input : goal.invariant-loop-input
invariant-loop-input l =
    LosesPlaces (get same_outpoint l.fn.numbers) (get same_outpoint l.numbers) (map (λ i. i.prev) (take l.input-index l.inputs))
