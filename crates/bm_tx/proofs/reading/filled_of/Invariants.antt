use Rattle.std.proofs.Common.{◌≡◌, false, length}
use Rattle.bm_tx.specs.Giving.{filled_at}
use Rattle.bm_tx.proofs.Loop.{with_prefix}
use Rattle.bm_tx.proofs.reading.filled_of.Given as goal

-- so many inputs are left, and what was read and what is left to read are the whole
abbrev pub invariant-loop-input : goal.invariant-loop-input
invariant-loop-input l =
    (l.left ≡ length l.input-iterator.rest.items)
    × (with_prefix l.all (filled_at l.input-iterator.rest.items l.seen l.rest) ≡ filled_at l.fn.inputs false l.bytes)
