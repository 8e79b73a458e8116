-- An SVG tells all texts of its rows, none twice.
use Rattle.std.proofs.Common.{◌≡◌, ℕ, ◌+◌, ◌-◌, List, [], ◌∷◌, ◌++◌, map, refl, ap, ◌∙◌, arith}
use Rattle.std.specs.Prelude.{flat_map}
use Rattle.spec_page.specs.declared.svg_row.Item.{Item}
use Rattle.spec_page.specs.declared.svg_row.Cell.{Cell}
use Rattle.spec_page.specs.declared.svg_row.GridRow.{GridRow}
use Rattle.spec_page.specs.SvgItems.{size, items_size}
use Rattle.spec_page.specs.SvgRun.{picture_grids, outlook_items}
use Rattle.spec_page.specs.SvgLayout.{Spot, spot, Placed, moved, beside, fitting, behind, flowing, most_beside, what_places, row_lines}
use Rattle.spec_page.specs.SvgLayout.{Widths, widths, table_width, cells_places, row_places, placed_rows, outlook_places, outlook_row, lines_behind}
use Rattle.theory_page.specs.SvgTells.{row_items, SvgTellsAll}
use Rattle.theory_page.proofs.SvgApart.{Fits, FitsRow, AllFit, rows_fit, places_in, places_append}

abbrev items_at : List Placed → List Item
items_at ps = map (λ p. p.item) ps

items_append : (ps qs : List Placed) → items_at (ps ++ qs) ≡ items_at ps ++ items_at qs
items_append [] qs = refl
items_append (p ∷ ps) qs = ap (λ is. p.item ∷ is) (items_append ps qs)

beside_tells : (line at : ℕ) (is : List Item) → items_at (beside line at is) ≡ is
beside_tells line at [] = refl
beside_tells line at (i ∷ is) = ap (λ xs. i ∷ xs) (beside_tells line (at + size i) is)

flow_tells : (begin limit : ℕ) (s : Spot) (is : List Item) → items_at (flowing begin limit s is) ≡ is
flow_tells begin limit s [] = refl
flow_tells begin limit s (i ∷ is) =
    ap (λ xs. i ∷ xs) (flow_tells begin limit (behind (fitting begin limit s (size i)) (size i)) is)

moved_tells : (line at : ℕ) (ps : List Placed) → items_at (map (moved line at) ps) ≡ items_at ps
moved_tells line at [] = refl
moved_tells line at (p ∷ ps) = ap (λ xs. p.item ∷ xs) (moved_tells line at ps)

abbrev cell_items : List Cell → List Item
cell_items cs = flat_map (λ c. c.items) cs

cells_tell : (line at : ℕ) (ws : List ℕ) (cs : List Cell) → Fits ws cs → items_at (cells_places line at ws cs) ≡ cell_items cs
cells_tell line at [] [] h = refl
cells_tell line at [] (c ∷ cs) h = absurd (omega arith)
cells_tell line at (w ∷ ws) [] h = refl
cells_tell line at (w ∷ ws) (c ∷ cs) h =
    let own = beside line (at + (w - items_size c.items)) c.items in
    items_append own (cells_places line (at + w) ws cs)
    ∙ ap (λ xs. xs ++ items_at (cells_places line (at + w) ws cs)) (beside_tells line (at + (w - items_size c.items)) c.items)
    ∙ ap (λ xs. c.items ++ xs) (cells_tell line (at + w) ws cs (h.1))

row_tells : (w : Widths) (line : ℕ) (r : GridRow) → FitsRow w r → items_at (row_places w line r) ≡ row_items r
row_tells w line r h =
    let what = map (moved line w.path) (what_places r) in
    let sums = cells_places line (w.path + w.what) w.sums r.sums in
    items_append (beside line 0 r.path) (what ++ sums)
    ∙ ap (λ xs. xs ++ items_at (what ++ sums)) (beside_tells line 0 r.path)
    ∙ ap (λ xs. r.path ++ xs)
    (items_append what sums
    ∙ ap (λ xs. xs ++ items_at sums) (moved_tells line w.path (what_places r) ∙ flow_tells r.indent most_beside (spot 0 r.indent) r.what)
    ∙ ap (λ xs. r.what ++ xs) (cells_tell line (w.path + w.what) w.sums r.sums h.sums))

rows_tell : (w : Widths) (line : ℕ) (rs : List GridRow) → AllFit w rs → items_at (places_in (placed_rows w line rs)) ≡ flat_map row_items rs
rows_tell w line [] h = refl
rows_tell w line (r ∷ rs) h =
    let later = places_in (placed_rows w (line + row_lines r) rs) in
    items_append (row_places w line r) later
    ∙ ap (λ xs. xs ++ items_at later) (row_tells w line r (h.0))
    ∙ ap (λ xs. row_items r ++ xs) (rows_tell w (line + row_lines r) rs (h.1))

pub svg_tells_all : SvgTellsAll
svg_tells_all p =
    let rs = picture_grids p in
    let is = outlook_items p.rows in
    let w = widths rs in
    let fit : AllFit w rs = rows_fit (record { path = 0; what = 0; sums = [] }) rs in
    let flow = outlook_places (table_width w) is in
    let line = lines_behind 0 rs in
    let rows = places_in (placed_rows w 0 rs) in
    ap items_at (places_append (placed_rows w 0 rs) (outlook_row line flow))
    ∙ items_append rows (map (moved line 0) flow)
    ∙ ap (λ xs. xs ++ items_at (map (moved line 0) flow)) (rows_tell w 0 rs fit)
    ∙ ap (λ xs. flat_map row_items rs ++ xs) (moved_tells line 0 flow ∙ flow_tells 0 (table_width w) (spot 0 0) is)
