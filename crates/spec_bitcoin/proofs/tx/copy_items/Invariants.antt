use Rattle.std.proofs.Common.{◌≡◌, take}
use Rattle.spec_bitcoin.proofs.tx.copy_items.Given as goal

-- the copies so far
abbrev pub invariant-loop-item : goal.invariant-loop-item
invariant-loop-item l = l.copies.items ≡ take l.item-index l.items
