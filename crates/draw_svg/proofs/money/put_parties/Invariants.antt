use Rattle.std.proofs.Common.{◌≡◌, ◌++◌, drop}
use Rattle.std.specs.Option.{option_copied}
use Rattle.spec_page.specs.SvgRun.{party_cells}
use Rattle.draw_svg.proofs.money.put_parties.Given as goal

abbrev pub invariant-loop-column : goal.invariant-loop-column
invariant-loop-column l =
    l.cells ++ party_cells (option_copied l.before) l.now l.column (drop l.column l.parties)
    ≡ l.initial.cells ++ party_cells (option_copied l.before) l.now 0 l.parties
