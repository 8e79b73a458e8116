use Rattle.std.proofs.Common.{◌≡◌, ◌++◌, drop}
use Rattle.deal_missing.specs.Required.{items_text}
use Rattle.deal_missing.proofs.witness_lines.put_items.Given as goal

abbrev pub invariant-loop-item : goal.invariant-loop-item
invariant-loop-item l =
    l.out.items ++ items_text (drop l.item-index l.items) ≡ l.initial.out.items ++ items_text l.items
