use Rattle.std.proofs.Common.{◌≡◌, ◌++◌, drop}
use Rattle.std.specs.Option.{option_copied}
use Rattle.spec_page.specs.Cells.{each_from}
use Rattle.spec_page.specs.RunPart.{party_sum}
use Rattle.draw_page.specs.Texts.{each_text}
use Rattle.draw_page.proofs.balances.party_sums.Given as goal

abbrev pub invariant-loop-column : goal.invariant-loop-column
invariant-loop-column l =
    l.text.items
    ++ each_text (each_from (party_sum l.actor (option_copied l.before) l.now) l.column (drop l.column l.columns.parties.now))
    ≡ each_text (each_from (party_sum l.actor (option_copied l.before) l.now) 0 l.columns.parties.now)
