-- Every SVG is well-formed.
use Rattle.std.proofs.Common.{◌≡◌, ℕ, List, [], ◌∷◌, ◌++◌, map, true, refl, ap, ◌∙◌}
use Rattle.std.specs.Prelude.{◌&&◌, flat_map, codes}
use Rattle.std.specs.List.{list_all}
use Rattle.theory_text.proofs.ListFacts.{and_is, and_left, and_right}
use Rattle.spec_run.specs.declared.event.Event.{Event}
use Rattle.spec_run.specs.Setup.{Setup}
use Rattle.spec_page.specs.declared.svg_row.Kind.{Kind}
use Rattle.spec_page.specs.declared.svg_row.Kind.TheVariants as kinds
use Rattle.spec_page.specs.declared.svg_row.Item.{Item}
use Rattle.spec_page.specs.Picture.{picture}
use Rattle.spec_page.specs.Html.{Element, element, raw, Content, all_of, lines_of}
use Rattle.spec_page.specs.SvgStyle.{svg_style}
use Rattle.spec_page.specs.SvgLayout.{Placed, PlacedRow, Drawing, drawing}
use Rattle.spec_page.specs.Svg.{mark_element, marks_of, frames_of, text_element, item_elements, placed_elements, id_attributes, back_element, row_element, svg_of, svg_text}
use Rattle.spec_page.specs.SvgFormed.{is_svg_part, are_svg_parts, IsWellFormedSvg}
use Rattle.spec_page.specs.Statements.{SvgsAreWellFormed}

-- ---- elements one after another

all_parts : (es : List Element) → are_svg_parts (all_of es) ≡ list_all is_svg_part es
all_parts [] = refl
all_parts (e ∷ es) = ap (λ t. is_svg_part e && t) (all_parts es)

lines_parts : (es : List Element) → are_svg_parts (lines_of es) ≡ list_all is_svg_part es
lines_parts [] = refl
lines_parts (e ∷ es) = ap (λ t. is_svg_part e && t) (lines_parts es)

abbrev AllParts : List Element → Type 0
AllParts es = list_all is_svg_part es ≡ true

both_parts : (xs ys : List Element) → AllParts xs → AllParts ys → AllParts (xs ++ ys)
both_parts [] ys h k = k
both_parts (x ∷ xs) ys h k = and_is _ _ (and_left _ _ h) (both_parts xs ys (and_right _ _ h) k)

map_parts : {X : Type 0} (f : X → Element) → ((x : X) → is_svg_part (f x) ≡ true) → (xs : List X) → AllParts (map f xs)
map_parts f h [] = refl
map_parts f h (x ∷ xs) = and_is _ _ (h x) (map_parts f h xs)

-- ---- texts

frames_are_parts : (line at : ℕ) (i : Item) (k : Kind) → AllParts (frames_of line at i k)
frames_are_parts line at i kinds.Chip = refl
frames_are_parts line at i kinds.Word = refl
frames_are_parts line at i kinds.Strong = refl
frames_are_parts line at i kinds.Note = refl
frames_are_parts line at i kinds.Bad = refl
frames_are_parts line at i (kinds.Name column) = refl
frames_are_parts line at i kinds.Path = refl
frames_are_parts line at i kinds.Sum = refl

items_are_parts : (line at : ℕ) (i : Item) → AllParts (item_elements line at i)
items_are_parts line at i =
    both_parts (frames_of line at i i.kind) (map (mark_element line at) (marks_of i.kind i.status) ++ text_element line at i ∷ [])
    (frames_are_parts line at i i.kind)
    (both_parts (map (mark_element line at) (marks_of i.kind i.status)) (text_element line at i ∷ [])
    (map_parts (mark_element line at) (λ m. refl) (marks_of i.kind i.status)) refl)

places_are_parts : (ps : List Placed) → AllParts (flat_map placed_elements ps)
places_are_parts [] = refl
places_are_parts (p ∷ ps) =
    both_parts (placed_elements p) (flat_map placed_elements ps) (items_are_parts p.line p.at p.item) (places_are_parts ps)

-- ---- rows

with_id : (look id : List ℕ) (inside : Content)
    → is_svg_part (element (codes "g") ((codes "class", look) ∷ id_attributes id) inside) ≡ are_svg_parts inside
with_id look [] inside = refl
with_id look (b ∷ bytes) inside = refl

row_is_part : (width : ℕ) (r : PlacedRow) → is_svg_part (row_element width r) ≡ true
row_is_part width r =
    with_id r.look r.id (all_of (back_element width r.look r.line r.lines ∷ flat_map placed_elements r.places))
    ∙ all_parts (back_element width r.look r.line r.lines ∷ flat_map placed_elements r.places)
    ∙ places_are_parts r.places

-- ---- the SVG

style_is_part : is_svg_part (raw (codes "style") svg_style) ≡ true
unfolding svg_style
style_is_part = refl

svg_is_part : (title : List ℕ) (d : Drawing) → is_svg_part (svg_of title d) ≡ true
unfolding svg_of
svg_is_part title d =
    and_is _ _ style_is_part (lines_parts (map (row_element d.width) d.rows) ∙ map_parts (row_element d.width) (row_is_part d.width) d.rows)

of_runs : (title : List ℕ) (s : Setup) (es : List Event) → IsWellFormedSvg (svg_text title s es)
unfolding svg_of svg_text
of_runs title s es = record {
  tree = svg_of title (drawing (picture s es));
  root = refl;
  parts = svg_is_part title (drawing (picture s es));
  spelled = refl;
}

pub svgs_are_well_formed : SvgsAreWellFormed
svgs_are_well_formed title s es = of_runs title s es
