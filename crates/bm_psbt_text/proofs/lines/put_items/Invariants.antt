use Rattle.std.proofs.Common.{◌≡◌, ◌++◌, take, codes}
use Rattle.std.specs.List.{flat_map}
use Rattle.spec_tool.specs.PsbtText.{shown_bytes}
use Rattle.bm_psbt_text.proofs.lines.put_items.Given as goal

abbrev pub invariant-loop-item : goal.invariant-loop-item
invariant-loop-item l = l.out.items ≡ l.initial.out.items ++ flat_map (λ item. codes " " ++ shown_bytes item) (take l.item-index l.items)
