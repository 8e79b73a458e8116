-- An SVG has the ids of its rows, and no other.
use Rattle.std.proofs.Common.{◌≡◌, ℕ, ◌+◌, List, [], ◌∷◌, ◌++◌, map, flat_map, append-nil, Bool, Option, None, Some, refl, ap, ◌∙◌}
use Rattle.std.specs.Prelude.{nat_lt, length}
use Rattle.std.proofs.lemmas.List.Concat.{flat_map-append}
use Rattle.spec_tool.specs.declared.which.Which.TheVariants.{Init, At}
use Rattle.spec_page.specs.declared.event_row.EventRow.{EventRow}
use Rattle.spec_page.specs.declared.event_row.Look.{Look}
use Rattle.spec_page.specs.declared.event_row.Look.TheVariants as looks
use Rattle.spec_page.specs.declared.event_row.Money.{Money}
use Rattle.spec_page.specs.declared.picture.Picture.{Picture}
use Rattle.spec_page.specs.declared.picture.Sheet.{Sheet}
use Rattle.spec_page.specs.declared.status.Status.{Status}
use Rattle.spec_page.specs.declared.svg_row.GridRow.{GridRow}
use Rattle.spec_page.specs.declared.svg_row.Item.{Item}
use Rattle.spec_page.specs.declared.svg_row.Kind.{Kind}
use Rattle.spec_page.specs.declared.svg_row.Kind.TheVariants as kinds
use Rattle.spec_page.specs.declared.way_row.WayRow.{WayRow}
use Rattle.spec_page.specs.declared.way_row.WayRow.TheVariants.{Choice, Way}
use Rattle.spec_page.specs.Cells.{Columns}
use Rattle.spec_page.specs.ContractPart.{row_size, sheet_size}
use Rattle.spec_page.specs.Html.{all_of}
use Rattle.spec_page.specs.Page.{columns_of, last_money}
use Rattle.spec_page.specs.RunPart.{row_id}
use Rattle.spec_page.specs.Svg.{mark_element, marks_of, frames_of, text_element, item_elements, placed_elements, id_attributes, row_element, svg_of}
use Rattle.spec_page.specs.SvgContract.{Ending, ending, row_grids, contract_grids, sheet_grids}
use Rattle.spec_page.specs.SvgLayout.{Placed, Widths, PlacedRow, placed_rows, row_lines, widths, table_width, lines_behind, outlook_places, outlook_row, drawing}
use Rattle.spec_page.specs.SvgRun.{event_grids, end_grid, run_grids, last_looks, picture_grids, outlook_items}
use Rattle.theory_page.specs.Ids.{ids_in, ids_inside, ids_among, id_of, way_id, way_ids, sheet_ids, svg_ids}
use Rattle.theory_page.proofs.Ids.{all_ids, lines_ids, both_bare}

-- ---- texts have none

frames_bare : (line at : ℕ) (i : Item) (kind : Kind) → flat_map ids_in (frames_of line at i kind) ≡ []
frames_bare line at i kinds.Chip = refl
frames_bare line at i kinds.Word = refl
frames_bare line at i kinds.Strong = refl
frames_bare line at i kinds.Note = refl
frames_bare line at i kinds.Bad = refl
frames_bare line at i (kinds.Name column) = refl
frames_bare line at i kinds.Path = refl
frames_bare line at i kinds.Sum = refl

marks_bare : (line at : ℕ) (ms : List (List ℕ × List ℕ)) → flat_map ids_in (map (mark_element line at) ms) ≡ []
marks_bare line at [] = refl
marks_bare line at (m ∷ ms) = marks_bare line at ms

item_bare : (line at : ℕ) (i : Item) → flat_map ids_in (item_elements line at i) ≡ []
item_bare line at i =
    let marks = map (mark_element line at) (marks_of i.kind i.status) in
    both_bare (frames_of line at i i.kind) (marks ++ text_element line at i ∷ []) (frames_bare line at i i.kind)
    (both_bare marks (text_element line at i ∷ []) (marks_bare line at (marks_of i.kind i.status)) refl)

places_bare : (ps : List Placed) → flat_map ids_in (flat_map placed_elements ps) ≡ []
places_bare [] = refl
places_bare (p ∷ ps) = both_bare (placed_elements p) (flat_map placed_elements ps) (item_bare p.line p.at p.item) (places_bare ps)

-- ---- rows

-- an id, if it isn't empty
abbrev id_if : List ℕ → List (List ℕ)
id_if [] = []
id_if (b ∷ bytes) = (b ∷ bytes) ∷ []

by_id : (id : List ℕ) (others : List (List ℕ)) → others ≡ [] → ids_among (id_attributes id) ++ others ≡ id_if id
by_id [] others e = e
by_id (b ∷ bytes) others e = ap (λ t. (b ∷ bytes) ∷ t) e

row_ids : (width : ℕ) (r : PlacedRow) → ids_in (row_element width r) ≡ id_if r.id
row_ids width r =
    by_id r.id (ids_inside (all_of (flat_map placed_elements r.places)))
    (all_ids (flat_map placed_elements r.places) ∙ places_bare r.places)

rows_ids : (width : ℕ) (rs : List PlacedRow) → flat_map ids_in (map (row_element width) rs) ≡ flat_map (λ r. id_if r.id) rs
rows_ids width [] = refl
rows_ids width (r ∷ rs) = λ i. row_ids width r i ++ rows_ids width rs i

abbrev grid_ids : List GridRow → List (List ℕ)
grid_ids rows = flat_map (λ r. id_if r.id) rows

placed_ids : (w : Widths) (line : ℕ) (rows : List GridRow) → flat_map (λ r. id_if r.id) (placed_rows w line rows) ≡ grid_ids rows
placed_ids w line [] = refl
placed_ids w line (r ∷ rs) = ap (λ t. id_if r.id ++ t) (placed_ids w (line + row_lines r) rs)

-- ---- the rows of contracts

ways_ids : (s : Ending) (n : ℕ) (rows : List WayRow) → grid_ids (row_grids s n rows) ≡ way_ids s.several s.contract rows
ways_ids s n [] = refl
ways_ids s n (Choice depth share ∷ rows) = ways_ids s (n + 0) rows
ways_ids s n (Way path depth share conditions payments ∷ rows) =
    ap (λ t. way_id s.several s.contract (At path) ∷ t) (ways_ids s (n + row_size (Way path depth share conditions payments)) rows)

sheets_ids : (parties : List (List ℕ)) (several : Bool) (looks : List Status) (k n : ℕ) (xs : List Sheet)
    → grid_ids (sheet_grids parties several looks k n xs) ≡ sheet_ids several k xs
sheets_ids parties several looks k n [] = refl
sheets_ids parties several looks k n (x ∷ xs) =
    let s = ending parties several looks k in
    flat_map-append (λ r. id_if r.id) (contract_grids s n x) (sheet_grids parties several looks (k + 1) (n + sheet_size x) xs)
    ∙ (λ i. (way_id several k Init ∷ ways_ids s (n + 1) x.ways i) ++ sheets_ids parties several looks (k + 1) (n + sheet_size x) xs i)

-- ---- the rows of a run

event_id_there : (first : ℕ) (look : Look) → id_if (row_id first look) ≡ row_id first look ∷ []
event_id_there first looks.Start = refl
event_id_there first looks.Blocks = refl
event_id_there first looks.Done = refl
event_id_there first looks.Accepted = refl
event_id_there first looks.Refused = refl
event_id_there first looks.More = refl
event_id_there first looks.Halt = refl

events_ids : (c : Columns) (before : Option Money) (rows : List EventRow) → grid_ids (event_grids c before rows) ≡ map id_of rows
events_ids c before [] = refl
events_ids c before (r ∷ rs) = λ i. event_id_there r.first r.look i ++ events_ids c (Some r.money) rs i

run_ids : (c : Columns) (rows : List EventRow) (m : Money) → grid_ids (run_grids c rows m) ≡ map id_of rows
run_ids c rows m =
    flat_map-append (λ r. id_if r.id) (event_grids c None rows) (end_grid c m ∷ [])
    ∙ ap (λ t. t ++ []) (events_ids c None rows)
    ∙ append-nil (map id_of rows)

picture_ids : (p : Picture) → grid_ids (picture_grids p) ≡ svg_ids p
picture_ids p =
    let several = nat_lt 1 (length p.sheets) in
    flat_map-append (λ r. id_if r.id) (sheet_grids p.parties several (last_looks p.rows) 0 0 p.sheets)
    (run_grids (columns_of p) p.rows (last_money p.rows))
    ∙ (λ i. sheets_ids p.parties several (last_looks p.rows) 0 0 p.sheets i ++ run_ids (columns_of p) p.rows (last_money p.rows) i)

-- ---- all

pub svg_has : (title : List ℕ) (p : Picture) → ids_in (svg_of title (drawing p)) ≡ svg_ids p
unfolding svg_of
svg_has title p =
    let grids = picture_grids p in
    let w = widths grids in
    let below = outlook_row (lines_behind 0 grids) (outlook_places (table_width w) (outlook_items p.rows)) in
    let rows = placed_rows w 0 grids ++ below ∷ [] in
    lines_ids (map (row_element (drawing p).width) rows)
    ∙ rows_ids (drawing p).width rows
    ∙ flat_map-append (λ r. id_if r.id) (placed_rows w 0 grids) (below ∷ [])
    ∙ append-nil (flat_map (λ r. id_if r.id) (placed_rows w 0 grids))
    ∙ placed_ids w 0 grids
    ∙ picture_ids p
