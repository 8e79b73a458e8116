use Rattle.std.proofs.Common.{◌≡◌, ◌++◌, drop}
use Rattle.spec_page.specs.Html.{content_text, all_of}
use Rattle.spec_page.specs.Cells.{each_from, party_head}
use Rattle.draw_page.proofs.cells.put_party_heads.Given as goal

abbrev pub invariant-loop-column : goal.invariant-loop-column
invariant-loop-column l =
    l.out.items ++ content_text (all_of (each_from party_head l.column (drop l.column l.columns.parties.now)))
    ≡ l.initial.out.items ++ content_text (all_of (each_from party_head 0 l.columns.parties.now))
