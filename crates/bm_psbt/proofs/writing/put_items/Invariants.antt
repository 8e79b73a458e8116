use Rattle.std.proofs.Common.{◌≡◌, ◌++◌, drop}
use Rattle.std.specs.List.{flat_map}
use Rattle.spec_bitcoin.specs.Spelling.{sized}
use Rattle.bm_psbt.proofs.writing.put_items.Given as goal

-- what is written and what is left to write are the whole
abbrev pub invariant-loop-item : goal.invariant-loop-item
invariant-loop-item l = l.out.items ++ flat_map sized (drop l.item-index l.items) ≡ l.initial.out.items ++ flat_map sized l.items
