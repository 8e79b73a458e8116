-- Where the texts of an SVG stand: in lines and columns, counted in characters. A column is as wide as what is longest in it, and what
-- stands beside a path may take several lines. No text is cut.
use Rattle.std.specs.Prelude.{ℕ, ◌+◌, ◌-◌, ◌==◌, max, nat_le, List, [], ◌∷◌, ◌++◌, map, sum_by, ◌||◌, if◌then◌else◌, codes}
use Rattle.spec_page.specs.declared.picture.Picture.{Picture}
use Rattle.spec_page.specs.declared.svg_row.Item.{Item}
use Rattle.spec_page.specs.declared.svg_row.Cell.{Cell}
use Rattle.spec_page.specs.declared.svg_row.GridRow.{GridRow}
use Rattle.spec_page.specs.SvgItems.{size, items_size}
use Rattle.spec_page.specs.SvgRun.{picture_grids, outlook_items}

-- ---- places

pub record Spot : Type 0 where
  pub line : ℕ
  pub at : ℕ

abbrev pub spot : ℕ → ℕ → Spot
spot line at = record { line = line; at = at }

-- a text, and the spot where it begins
pub record Placed : Type 0 where
  pub line : ℕ
  pub at : ℕ
  pub item : Item

abbrev pub placed : Spot → Item → Placed
placed s i = record { line = s.line; at = s.at; item = i }

-- so many lines further down and characters to the right
abbrev pub moved : ℕ → ℕ → Placed → Placed
moved line at p = record { line = line + p.line; at = at + p.at; item = p.item }

-- ---- texts one behind another

abbrev pub beside : ℕ → ℕ → List Item → List Placed
beside line at [] = []
beside line at (i ∷ is) = placed (spot line at) i ∷ beside line (at + size i) is

-- the spot of so many characters: the next one where they end before the limit, or else the beginning of the line below
abbrev pub fitting : ℕ → ℕ → Spot → ℕ → Spot
fitting begin limit s n = if (s.at == begin) || nat_le (s.at + n) limit then s else spot (s.line + 1) begin

-- the spot behind so many characters
abbrev pub behind : Spot → ℕ → Spot
behind s n = spot s.line (s.at + n)

-- in lines from one character to another, or beyond it where a text is longer
abbrev pub flowing : ℕ → ℕ → Spot → List Item → List Placed
flowing begin limit s [] = []
flowing begin limit s (i ∷ is) =
    placed (fitting begin limit s (size i)) i ∷ flowing begin limit (behind (fitting begin limit s (size i)) (size i)) is

-- the character behind the last of them
abbrev pub reach : List Placed → ℕ
reach [] = 0
reach (p ∷ ps) = max (p.at + size p.item) (reach ps)

-- the line of the last of them
abbrev pub last_line : ℕ → List Placed → ℕ
last_line n [] = n
last_line n (p ∷ ps) = last_line p.line ps

-- ---- rows

-- what stands beside a path takes so many characters, and more lines where it needs more
abbrev pub most_beside : ℕ
most_beside = 34

abbrev pub what_places : GridRow → List Placed
what_places r = flowing r.indent most_beside (spot 0 r.indent) r.what

abbrev pub row_lines : GridRow → ℕ
row_lines r = last_line 0 (what_places r) + 1

-- ---- columns

pub record Widths : Type 0 where
  pub path : ℕ
  pub what : ℕ
  pub sums : List ℕ

-- the columns with those of another row
abbrev pub wider : List ℕ → List Cell → List ℕ
wider [] cells = map (λ c. items_size c.items) cells
wider (w ∷ ws) [] = w ∷ ws
wider (w ∷ ws) (c ∷ cs) = max w (items_size c.items) ∷ wider ws cs

abbrev pub with_row : Widths → GridRow → Widths
with_row w r = record {
  path = max w.path (items_size r.path);
  what = max w.what (reach (what_places r));
  sums = wider w.sums r.sums;
}

-- the columns of rows, behind those before them
abbrev pub with_rows : Widths → List GridRow → Widths
with_rows w [] = w
with_rows w (r ∷ rs) = with_rows (with_row w r) rs

abbrev pub widths : List GridRow → Widths
widths rows = with_rows (record { path = 0; what = 0; sums = [] }) rows

abbrev pub table_width : Widths → ℕ
table_width w = w.path + w.what + sum_by (λ n. n) w.sums

-- ---- places of a row

-- sums stand at the right of their columns, of which the first begins here
abbrev pub cells_places : ℕ → ℕ → List ℕ → List Cell → List Placed
cells_places line at [] cells = []
cells_places line at (w ∷ ws) [] = []
cells_places line at (w ∷ ws) (c ∷ cs) =
    beside line (at + (w - items_size c.items)) c.items ++ cells_places line (at + w) ws cs

-- a row whose first line is this
abbrev pub row_places : Widths → ℕ → GridRow → List Placed
row_places w line r =
    beside line 0 r.path
    ++ (map (moved line w.path) (what_places r) ++ cells_places line (w.path + w.what) w.sums r.sums)

-- ---- all

-- a row where it stands: its class and id, its first line and how many there are, and its texts
pub record PlacedRow : Type 0 where
  pub look : List ℕ
  pub id : List ℕ
  pub line : ℕ
  pub lines : ℕ
  pub places : List Placed

abbrev pub placed_row : Widths → ℕ → GridRow → PlacedRow
placed_row w line r =
    record { look = r.look; id = r.id; line = line; lines = row_lines r; places = row_places w line r }

abbrev pub placed_rows : Widths → ℕ → List GridRow → List PlacedRow
placed_rows w line [] = []
placed_rows w line (r ∷ rs) = placed_row w line r ∷ placed_rows w (line + row_lines r) rs

-- how many lines rows have, behind so many before them
abbrev pub lines_behind : ℕ → List GridRow → ℕ
lines_behind line [] = line
lines_behind line (r ∷ rs) = lines_behind (line + row_lines r) rs

-- what can be done at the end goes over all columns
abbrev pub outlook_places : ℕ → List Item → List Placed
outlook_places width items = flowing 0 width (spot 0 0) items

abbrev pub outlook_row : ℕ → List Placed → PlacedRow
outlook_row line places = record {
  look = codes "now";
  id = [];
  line = line;
  lines = last_line 0 places + 1;
  places = map (moved line 0) places;
}

-- so many characters wide, so many lines high, and the rows
pub record Drawing : Type 0 where
  pub width : ℕ
  pub lines : ℕ
  pub rows : List PlacedRow

-- of rows with these columns and so many lines, and what can be done, which stands so
abbrev pub drawing_by : Widths → ℕ → List GridRow → List Placed → Drawing
drawing_by w line rows places = record {
  width = max (table_width w) (reach places);
  lines = line + last_line 0 places + 1;
  rows = placed_rows w 0 rows ++ outlook_row line places ∷ [];
}

abbrev pub drawing_with : Widths → List GridRow → List Item → Drawing
drawing_with w rows items = drawing_by w (lines_behind 0 rows) rows (outlook_places (table_width w) items)

abbrev pub drawing_of : List GridRow → List Item → Drawing
drawing_of rows items = drawing_with (widths rows) rows items

abbrev pub drawing : Picture → Drawing
drawing p = drawing_of (picture_grids p) (outlook_items p.rows)
