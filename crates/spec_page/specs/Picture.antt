-- All that a picture of a run and its contracts shows, as rows.
use Rattle.std.specs.Prelude.{ℕ, List, [], ◌∷◌, ◌++◌, map, length}
use Rattle.spec_terms.specs.Advert.{Advert}
use Rattle.spec_run.specs.declared.event.Event.{Event}
use Rattle.spec_run.specs.Setup.{Setup}
use Rattle.spec_text.specs.Canonical.{joined, advert_text}
use Rattle.spec_page.specs.declared.picture.Sheet.{Sheet}
use Rattle.spec_page.specs.declared.picture.Picture.{Picture}
use Rattle.spec_page.specs.Ways.{stakes, way_rows}
use Rattle.spec_page.specs.Balances.{columns, all_money}
use Rattle.spec_page.specs.Stops.{Stop, rows_of, stops}

abbrev pub sheet : Advert → Sheet
sheet a = record { fee = a.fee; stakes = stakes a.pre; ways = way_rows a }

abbrev pub contract_lines : List Advert → List ℕ
contract_lines adverts = joined (10 ∷ []) (map advert_text adverts)

-- of so many events, with these stops
abbrev pub picture_of : Setup → ℕ → List Stop → Picture
picture_of s count sts = record {
  parties = columns s;
  total = all_money s;
  sheets = map sheet s.contracts;
  count = count;
  rows = rows_of sts;
  text = contract_lines s.contracts;
}

-- of these events
abbrev pub picture : Setup → List Event → Picture
picture s es = picture_of s (length es) (stops s es)
