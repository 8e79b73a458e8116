-- What is claimed of the ids of a page and of an SVG: those of rows, each once.
use Rattle.std.specs.Prelude.{◌≡◌, ℕ, ◌+◌, ◌<◌, ◌≤◌, ◌^◌, List, [], ◌∷◌, ◌++◌, map, length, Bool, true, nat_lt, if◌then◌else◌, codes}
use Rattle.std.specs.List.{AllByRecursion}
use Rattle.std.specs.Str.{bytes_eq}
use Rattle.spec_data.specs.Lists.{are_different}
use Rattle.spec_data.specs.Ranges.{most_contracts}
use Rattle.spec_terms.specs.Advert.{Advert}
use Rattle.spec_terms.specs.Faults.{IsWellFormed}
use Rattle.spec_terms.specs.Parties.{participants}
use Rattle.spec_run.specs.declared.event.Event.{Event}
use Rattle.spec_run.specs.Setup.{Setup}
use Rattle.spec_tool.specs.declared.which.Which.{Which}
use Rattle.spec_tool.specs.declared.which.Which.TheVariants.{Init, At}
use Rattle.spec_page.specs.declared.event_row.EventRow.{EventRow}
use Rattle.spec_page.specs.declared.picture.Picture.{Picture}
use Rattle.spec_page.specs.declared.picture.Sheet.{Sheet}
use Rattle.spec_page.specs.declared.way_row.WayRow.{WayRow}
use Rattle.spec_page.specs.declared.way_row.WayRow.TheVariants.{Choice, Way}
use Rattle.spec_page.specs.EventWords.{move_text}
use Rattle.spec_page.specs.Html.{Element, element, void, raw, Content, nothing, words, inner}
use Rattle.spec_page.specs.Moments.{move}
use Rattle.spec_page.specs.Page.{page_of, sheet_page}
use Rattle.spec_page.specs.Picture.{contract_lines, picture, sheet}
use Rattle.spec_page.specs.RunPart.{row_id}
use Rattle.spec_page.specs.Stops.{rows_of, stops}
use Rattle.spec_page.specs.Svg.{svg_of}
use Rattle.spec_page.specs.SvgLayout.{drawing}

-- the values of the attribute `id`
abbrev pub ids_among : List (List ℕ × List ℕ) → List (List ℕ)
ids_among [] = []
ids_among (a ∷ others) = if bytes_eq a.0 (codes "id") then a.1 ∷ ids_among others else ids_among others

abbrev mutual
  -- the ids in an element, in the order of its text
  pub ids_in : Element → List (List ℕ)
  ids_in (element name attributes inside) = ids_among attributes ++ ids_inside inside
  ids_in (void name attributes) = ids_among attributes
  ids_in (raw name text) = []

  pub ids_inside : Content → List (List ℕ)
  ids_inside nothing = []
  ids_inside (words text others) = ids_inside others
  ids_inside (inner first others) = ids_in first ++ ids_inside others

-- the id of a row: `event-12` after its first event, or what else it is
abbrev pub id_of : EventRow → List ℕ
id_of r = row_id r.first r.look

-- those of a page: of the slider, of what is said beside it, and of each row
abbrev pub page_ids : List EventRow → List (List ℕ)
page_ids rows = codes "range" ∷ codes "said" ∷ map id_of rows

-- a page has exactly these ids, and of a run of as many events as can be numbered none stands twice; the page of a contract has none
pub record IdsStandOnce : Type 0 where
  pub each : (title : List ℕ) (s : Setup) (es : List Event) → ids_in (page_of title (picture s es)) ≡ page_ids (rows_of (stops s es))
  pub once : (s : Setup) (es : List Event) → length es < 2 ^ 31 → are_different (page_ids (rows_of (stops s es))) ≡ true
  pub none : (title : List ℕ) (a : Advert) → ids_in (sheet_page title (participants a) (sheet a) (contract_lines (a ∷ []))) ≡ []

-- ---- SVG

-- the id of a transaction's row: `way-r.0`, with the contract's number where there are several
abbrev pub way_id : Bool → ℕ → Which → List ℕ
way_id several k which = codes "way-" ++ move_text several (move k which)

abbrev pub way_ids : Bool → ℕ → List WayRow → List (List ℕ)
way_ids several k [] = []
way_ids several k (Choice depth share ∷ rows) = way_ids several k rows
way_ids several k (Way path depth share conditions payments ∷ rows) = way_id several k (At path) ∷ way_ids several k rows

-- of the contracts from number k on
abbrev pub sheet_ids : Bool → ℕ → List Sheet → List (List ℕ)
sheet_ids several k [] = []
sheet_ids several k (x ∷ xs) = (way_id several k Init ∷ way_ids several k x.ways) ++ sheet_ids several (k + 1) xs

-- those of an SVG: of each transaction that has a row, and of each row of the run
abbrev pub svg_ids : Picture → List (List ℕ)
svg_ids p = sheet_ids (nat_lt 1 (length p.sheets)) 0 p.sheets ++ map id_of p.rows

-- an SVG has exactly these, and of a run of checked contracts with as many events as can be numbered none stands twice
pub record SvgIdsStandOnce : Type 0 where
  pub each : (title : List ℕ) (p : Picture) → ids_in (svg_of title (drawing p)) ≡ svg_ids p
  pub once : (s : Setup) (es : List Event) → AllByRecursion IsWellFormed s.contracts → length s.contracts ≤ most_contracts
      → length es < 2 ^ 31 → are_different (svg_ids (picture s es)) ≡ true
