-- The rows of a run and its contracts as SVG: what stands in it is the end of the run.
use Rattle.std.specs.Prelude.{ℕ, ◌+◌, ◌*◌, ◌==◌, List, [], ◌∷◌, ◌++◌, map, flat_map, length, Option, Some, None, codes}
use Rattle.std.specs.Fmt.{decimal}
use Rattle.spec_run.specs.declared.event.Event.{Event}
use Rattle.spec_run.specs.Setup.{Setup}
use Rattle.spec_page.specs.declared.picture.Picture.{Picture}
use Rattle.spec_page.specs.declared.status.Status.{Status}
use Rattle.spec_page.specs.declared.status.Status.TheVariants.{Open, Offered, Taken, Met, Gone}
use Rattle.spec_page.specs.declared.svg_row.Kind.{Kind}
use Rattle.spec_page.specs.declared.svg_row.Kind.TheVariants as kinds
use Rattle.spec_page.specs.declared.svg_row.Item.{Item}
use Rattle.spec_page.specs.Picture.{picture}
use Rattle.spec_page.specs.Html.{Element, element, raw, nothing, all_of, lines_of, said, element_text}
use Rattle.spec_page.specs.SvgItems.{item_class, front, size}
use Rattle.spec_page.specs.SvgLayout.{Placed, PlacedRow, Drawing, drawing}
use Rattle.spec_page.specs.SvgStyle.{svg_style}

-- ---- units: a character is 8 wide, a line 20 high, and 8 are left on each side

abbrev pub left_of : ℕ → ℕ
left_of at = 8 * at + 8

abbrev pub top_of : ℕ → ℕ
top_of line = 20 * line + 8

-- ---- marks

-- the class of a mark, and its outline from where it begins
abbrev pub tick : List ℕ × List ℕ
tick = (codes "tick", codes "l3 3 5-7")

abbrev pub arrow : List ℕ × List ℕ
arrow = (codes "arrow", codes "m0-4l8 4-8 4z")

abbrev pub cross : List ℕ × List ℕ
cross = (codes "cross", codes "m0-3l6 6m0-6l-6 6")

abbrev pub ring : List ℕ × List ℕ
ring = (codes "ring", codes "a3 3 0 1 0 6 0a3 3 0 1 0-6 0")

-- only of conditions it is marked that they are open
abbrev pub open_mark : Kind → List (List ℕ × List ℕ)
open_mark kinds.Chip = ring ∷ []
open_mark kinds.Word = []
open_mark kinds.Strong = []
open_mark kinds.Note = []
open_mark kinds.Bad = []
open_mark (kinds.Name column) = []
open_mark kinds.Path = []
open_mark kinds.Sum = []

abbrev pub marks_of : Kind → Option Status → List (List ℕ × List ℕ)
marks_of kind None = []
marks_of kind (Some Open) = open_mark kind
marks_of kind (Some Offered) = arrow ∷ []
marks_of kind (Some Taken) = tick ∷ []
marks_of kind (Some Met) = tick ∷ []
marks_of kind (Some Gone) = cross ∷ []

abbrev pub mark_element : ℕ → ℕ → List ℕ × List ℕ → Element
mark_element line at m =
    element (codes "path")
    ((codes "class", m.0)
    ∷ (codes "d", codes "M" ++ (decimal (left_of at + 3) ++ (codes " " ++ (decimal (top_of line + 10) ++ m.1)))) ∷ [])
    nothing

-- ---- texts

-- a rectangle with round corners, of so many characters
abbrev pub frame_element : ℕ → ℕ → Item → Element
frame_element line at i =
    element (codes "rect")
    ((codes "class", item_class i)
    ∷ (codes "x", decimal (left_of at))
    ∷ (codes "y", decimal (top_of line + 2))
    ∷ (codes "width", decimal (8 * (front i.kind + length i.text) + 4))
    ∷ (codes "height", codes "16")
    ∷ (codes "rx", codes "8")
    ∷ [])
    nothing

-- conditions have a frame
abbrev pub frames_of : ℕ → ℕ → Item → Kind → List Element
frames_of line at i kinds.Chip = frame_element line at i ∷ []
frames_of line at i kinds.Word = []
frames_of line at i kinds.Strong = []
frames_of line at i kinds.Note = []
frames_of line at i kinds.Bad = []
frames_of line at i (kinds.Name column) = []
frames_of line at i kinds.Path = []
frames_of line at i kinds.Sum = []

-- a text that is exactly as long as its characters are wide
abbrev pub text_element : ℕ → ℕ → Item → Element
text_element line at i =
    element (codes "text")
    ((codes "class", item_class i)
    ∷ (codes "x", decimal (left_of (at + front i.kind)))
    ∷ (codes "y", decimal (top_of line + 14))
    ∷ (codes "textLength", decimal (8 * length i.text))
    ∷ [])
    (said i.text)

-- a text at a spot, with its frame and its mark
abbrev pub item_elements : ℕ → ℕ → Item → List Element
item_elements line at i =
    frames_of line at i i.kind ++ (map (mark_element line at) (marks_of i.kind i.status) ++ text_element line at i ∷ [])

abbrev pub placed_elements : Placed → List Element
placed_elements p = item_elements p.line p.at p.item

-- ---- rows

abbrev pub id_attributes : List ℕ → List (List ℕ × List ℕ)
id_attributes [] = []
id_attributes (b ∷ bytes) = (codes "id", b ∷ bytes) ∷ []

-- what stands behind a row of a drawing that is so wide
abbrev pub back_element : ℕ → List ℕ → ℕ → ℕ → Element
back_element width look line lines =
    element (codes "rect")
    ((codes "class", look)
    ∷ (codes "x", codes "0")
    ∷ (codes "y", decimal (top_of line))
    ∷ (codes "width", decimal (8 * width + 16))
    ∷ (codes "height", decimal (20 * lines))
    ∷ [])
    nothing

abbrev pub row_element : ℕ → PlacedRow → Element
row_element width r =
    element (codes "g") ((codes "class", r.look) ∷ id_attributes r.id)
    (all_of (back_element width r.look r.line r.lines ∷ flat_map placed_elements r.places))

-- ---- the SVG

abbrev pub root_attributes : ℕ → ℕ → List (List ℕ × List ℕ)
root_attributes width height =
    (codes "xmlns", codes "http://www.w3.org/2000/svg")
    ∷ (codes "viewBox", codes "0 0 " ++ (decimal width ++ (codes " " ++ decimal height)))
    ∷ (codes "width", decimal width)
    ∷ (codes "height", decimal height)
    ∷ (codes "role", codes "img")
    ∷ []

abbrev pub paper_element : ℕ → ℕ → Element
paper_element width height =
    element (codes "rect")
    ((codes "class", codes "paper") ∷ (codes "width", decimal width) ∷ (codes "height", decimal height) ∷ [])
    nothing

abbrev pub svg_by : List ℕ → ℕ → ℕ → List Element → Element
svg_by title width height rows =
    element (codes "svg") (root_attributes width height)
    (lines_of (element (codes "title") [] (said title) ∷ raw (codes "style") svg_style ∷ paper_element width height ∷ rows))

unfoldable pub svg_of : List ℕ → Drawing → Element
svg_of title d = svg_by title (8 * d.width + 16) (20 * d.lines + 16) (map (row_element d.width) d.rows)

abbrev pub svg_document : Element → List ℕ
svg_document e = element_text e ++ 10 ∷ []

-- that of these events, with this title
unfoldable pub svg_text : List ℕ → Setup → List Event → List ℕ
svg_text title s es = svg_document (svg_of title (drawing (picture s es)))
