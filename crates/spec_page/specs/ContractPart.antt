-- The rows of a contract, as HTML.
use Rattle.std.specs.Prelude.{ℕ, ◌+◌, ◌==◌, min, List, [], ◌∷◌, ◌++◌, length, Bool, true, false, Option, Some, None, if◌then◌else◌, codes}
use Rattle.std.specs.Fmt.{decimal}
use Rattle.std.specs.Str.{bytes_eq}
use Rattle.spec_tool.specs.declared.which.Which.{Which}
use Rattle.spec_tool.specs.declared.which.Which.TheVariants.{Init, At}
use Rattle.spec_page.specs.declared.event_row.EventRow.{EventRow}
use Rattle.spec_page.specs.declared.picture.Sheet.{Sheet}
use Rattle.spec_page.specs.declared.way_row.Condition.{Condition}
use Rattle.spec_page.specs.declared.way_row.Condition.TheVariants.{Agrees, Block, Puts, Shows, Holds}
use Rattle.spec_page.specs.declared.way_row.Payment.{Payment}
use Rattle.spec_page.specs.declared.way_row.Stake.{Stake}
use Rattle.spec_page.specs.declared.way_row.WayRow.{WayRow}
use Rattle.spec_page.specs.declared.way_row.WayRow.TheVariants.{Choice, Way}
use Rattle.spec_page.specs.Figures.{sum_text}
use Rattle.spec_page.specs.Moments.{move}
use Rattle.spec_page.specs.EventWords.{shows_text, move_text}
use Rattle.spec_page.specs.Timeline.{statuses_text, end_word, looks_of}
use Rattle.spec_page.specs.Html.{Element, element, Content, nothing, inner, all_of, spaced, classed, said}
use Rattle.spec_page.specs.Cells.{Columns, path_cell, party_cell, empty_cell, each_party, last_cells, head_row}

-- a contract with its number, whether there are others, and the rows of the run
pub record Scene : Type 0 where
  pub columns : Columns
  pub several : Bool
  pub contract : ℕ
  pub rows : List EventRow

-- ---- looks that change from row to row

-- the class at the end, and how it comes to it, of the part of this number among those that have a look
abbrev pub look_attributes : Scene → List ℕ → ℕ → List (List ℕ × List ℕ)
look_attributes s class n =
    (codes "class", class ++ end_word (looks_of n s.rows)) ∷ (codes "data-at", statuses_text (looks_of n s.rows)) ∷ []

-- ---- conditions

abbrev pub condition_text : Condition → List ℕ
condition_text (Agrees party) = party ++ codes " agrees"
condition_text (Block height) = codes "block " ++ sum_text height
condition_text (Puts party value deposit) = party ++ (codes " puts " ++ sum_text value)
condition_text (Shows party secret) = shows_text party secret
condition_text (Holds text) = codes "if " ++ text

abbrev pub chip : Scene → ℕ → Condition → Element
chip s n c = element (codes "span") (look_attributes s (codes "chip ") n) (said (condition_text c))

-- numbered from n on
abbrev pub chips : Scene → ℕ → List Condition → List Element
chips s n [] = []
chips s n (c ∷ cs) = chip s n c ∷ chips s (n + 1) cs

-- where there is no condition, anyone may take the branch
abbrev pub conditions_content : Scene → ℕ → List Condition → Content
conditions_content s n [] = inner (classed (codes "span") (codes "any") (said (codes "anyone"))) nothing
conditions_content s n (c ∷ cs) = spaced (chips s n (c ∷ cs))

-- the value of a part before what comes of it
abbrev pub with_part : Option ℕ → Content → Content
with_part None rest = rest
with_part (Some value) rest = inner (classed (codes "span") (codes "part") (said (sum_text value ++ codes ": "))) rest

-- ---- sums

-- a sum that a transaction pays or takes
abbrev pub sum_element : Scene → ℕ → ℕ → Element
sum_element s n value = element (codes "i") (look_attributes s [] n) (said (sum_text value))

-- a payment where it goes to a party
abbrev pub sum_if : Bool → Scene → ℕ → ℕ → List Element
sum_if true s n value = sum_element s n value ∷ []
sum_if false s n value = []

-- those of these payments, numbered from n on, that go to a party
abbrev pub sums_to : Scene → List ℕ → ℕ → List Payment → List Element
sums_to s party n [] = []
sums_to s party n (p ∷ ps) = sum_if (bytes_eq p.party party) s n p.value ++ sums_to s party (n + 1) ps

abbrev pub payment_cell : Scene → ℕ → List Payment → ℕ → List ℕ → Element
payment_cell s n payments column party = party_cell column party (spaced (sums_to s party n payments))

-- a deposit of the beginning, which is part n, or one that may be put in later
abbrev pub stake_element : Scene → ℕ → Bool → ℕ → Element
stake_element s n true value = classed (codes "span") (codes "brings") (said (sum_text value ++ codes " if put"))
stake_element s n false value = sum_element s n value

abbrev pub stake_if : Bool → Scene → ℕ → Stake → List Element
stake_if true s n d = stake_element s n d.volatile d.value ∷ []
stake_if false s n d = []

abbrev pub stake_elements : Scene → ℕ → List ℕ → List Stake → List Element
stake_elements s n party [] = []
stake_elements s n party (d ∷ ds) = stake_if (bytes_eq d.party party) s n d ++ stake_elements s n party ds

abbrev pub stake_cell : Scene → ℕ → List Stake → ℕ → List ℕ → Element
stake_cell s n stakes column party = party_cell column party (spaced (stake_elements s n party stakes))

-- ---- rows

abbrev pub what_cell : Content → Element
what_cell inside = classed (codes "td") (codes "what") inside

-- so far a row stands to the right, up to eight steps
abbrev pub depth_look : ℕ → List ℕ
depth_look depth = codes "d" ++ decimal (min depth 8)

-- the row of a transaction, which is part n
abbrev pub way_element : Scene → ℕ → Which → ℕ → Content → (ℕ → List ℕ → Element) → Element
way_element s n which depth inside cell =
    element (codes "tr") (look_attributes s (codes "way " ++ (depth_look depth ++ codes " ")) n)
    (all_of (path_cell (move_text s.several (move s.contract which))
    ∷ what_cell inside
    ∷ (each_party cell s.columns ++ last_cells s.columns)))

abbrev pub no_cell : ℕ → List ℕ → Element
no_cell n party = empty_cell

abbrev pub choice_element : Scene → ℕ → Option ℕ → Element
choice_element s depth share =
    classed (codes "tr") (codes "fork " ++ depth_look depth)
    (all_of (empty_cell
    ∷ what_cell (with_part share (inner (element (codes "b") [] (said (codes "one of"))) nothing))
    ∷ (each_party no_cell s.columns ++ last_cells s.columns)))

abbrev pub row_element : Scene → ℕ → WayRow → Element
row_element s n (Choice depth share) = choice_element s depth share
row_element s n (Way path depth share conditions payments) =
    way_element s n (At path) depth
    (with_part share (conditions_content s (n + 1) conditions))
    (payment_cell s (n + 1 + length conditions) payments)

-- how many parts of a row have a look
abbrev pub row_size : WayRow → ℕ
row_size (Choice depth share) = 0
row_size (Way path depth share conditions payments) = 1 + length conditions + length payments

-- numbered from n on
abbrev pub row_elements : Scene → ℕ → List WayRow → List Element
row_elements s n [] = []
row_elements s n (r ∷ rs) = row_element s n r ∷ row_elements s (n + row_size r) rs

abbrev pub initial_element : Scene → ℕ → List Stake → Element
initial_element s n stakes = way_element s n Init 0 (said (codes "all sign; each puts in")) (stake_cell s n stakes)

-- ---- all rows

abbrev pub contract_title : Bool → ℕ → List ℕ
contract_title true k = codes "contract " ++ decimal k
contract_title false k = codes "the contract"

abbrev pub fee_words : ℕ → List ℕ
fee_words fee = if fee == 0 then [] else codes ", fee " ++ (sum_text fee ++ codes " a transaction")

abbrev pub contract_head : Scene → ℕ → Element
contract_head s fee = head_row s.columns (contract_title s.several s.contract ++ fee_words fee) [] [] []

-- the rows of a contract, whose parts are numbered from n on
unfoldable pub contract_elements : Scene → ℕ → Sheet → List Element
contract_elements s n sheet =
    contract_head s sheet.fee ∷ initial_element s n sheet.stakes ∷ row_elements s (n + 1) sheet.ways

abbrev pub rows_size : List WayRow → ℕ
rows_size [] = 0
rows_size (r ∷ rs) = row_size r + rows_size rs

-- how many parts of a contract have a look
abbrev pub sheet_size : Sheet → ℕ
sheet_size sheet = 1 + rows_size sheet.ways
