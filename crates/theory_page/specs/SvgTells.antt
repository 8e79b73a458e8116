-- What an SVG tells: all texts of its rows, none twice.
use Rattle.std.specs.Prelude.{◌≡◌, List, ◌++◌, map, flat_map}
use Rattle.spec_page.specs.declared.picture.Picture.{Picture}
use Rattle.spec_page.specs.declared.svg_row.Item.{Item}
use Rattle.spec_page.specs.declared.svg_row.GridRow.{GridRow}
use Rattle.spec_page.specs.SvgRun.{picture_grids, outlook_items}
use Rattle.spec_page.specs.SvgLayout.{drawing}
use Rattle.spec_page.specs.SvgFormed.{all_places}

-- the texts of a row: beside its path, and in the columns of sums
abbrev pub row_items : GridRow → List Item
row_items r = r.path ++ (r.what ++ flat_map (λ c. c.items) r.sums)

-- each text of the rows, and of what can be done at the end, stands at one place, in this order
abbrev pub SvgTellsAll : Type 0
SvgTellsAll =
    (p : Picture) → map (λ q. q.item) (all_places (drawing p)) ≡ flat_map row_items (picture_grids p) ++ outlook_items p.rows
