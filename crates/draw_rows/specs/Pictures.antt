-- A picture by the entries of its events.
use Rattle.std.specs.Prelude.{ℕ, List, [], ◌∷◌, map, None, codes}
use Rattle.spec_run.specs.Setup.{Setup}
use Rattle.spec_page.specs.declared.event_row.EventRow.{EventRow}
use Rattle.spec_page.specs.declared.event_row.Look.TheVariants as looks
use Rattle.spec_page.specs.declared.picture.Picture.{Picture}
use Rattle.spec_page.specs.Balances.{columns, all_money}
use Rattle.spec_page.specs.Moments.{first_moment}
use Rattle.spec_page.specs.Picture.{sheet, contract_lines}
use Rattle.spec_page.specs.Stops.{stop, first_stop}
use Rattle.draw_rows.specs.declared.halted.Played.{Played}
use Rattle.draw_rows.specs.declared.halted.Played.TheVariants.{Unopened, Opened}
use Rattle.draw_rows.specs.Halts.{halt_of}
use Rattle.draw_rows.specs.Turns.{rows_by}

-- those of a run whose opening collides
abbrev pub unopened_rows : Setup → List EventRow
unopened_rows s =
    (first_stop s).row
    ∷ (stop s 1 1 looks.Halt (codes "the opening") (codes "two strings have one digest") [] None (first_moment s)).row
    ∷ []

abbrev pub played_rows : Setup → Played → List EventRow
played_rows s Unopened = unopened_rows s
played_rows s (Opened entries halted) = rows_by s entries.now (halt_of halted.now)

abbrev pub picture_with : Setup → ℕ → List EventRow → Picture
picture_with s count rows = record {
  parties = columns s;
  total = all_money s;
  sheets = map sheet s.contracts;
  count = count;
  rows = rows;
  text = contract_lines s.contracts;
}

abbrev pub picture_by : Setup → ℕ → Played → Picture
picture_by s count events = picture_with s count (played_rows s events)
