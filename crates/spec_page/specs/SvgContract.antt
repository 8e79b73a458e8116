-- The rows of a contract, as an SVG has them: as they stand at the end.
use Rattle.std.specs.Prelude.{ℕ, ◌+◌, ◌*◌, min, List, [], ◌∷◌, ◌++◌, map, length, Bool, true, false, Option, Some, None, codes}
use Rattle.std.specs.Str.{bytes_eq}
use Rattle.spec_tool.specs.declared.which.Which.{Which}
use Rattle.spec_tool.specs.declared.which.Which.TheVariants.{Init, At}
use Rattle.spec_page.specs.declared.picture.Sheet.{Sheet}
use Rattle.spec_page.specs.declared.status.Status.{Status}
use Rattle.spec_page.specs.declared.way_row.Condition.{Condition}
use Rattle.spec_page.specs.declared.way_row.Condition.TheVariants.{Agrees, Block, Puts, Shows, Holds}
use Rattle.spec_page.specs.declared.way_row.Payment.{Payment}
use Rattle.spec_page.specs.declared.way_row.Stake.{Stake}
use Rattle.spec_page.specs.declared.way_row.WayRow.{WayRow}
use Rattle.spec_page.specs.declared.way_row.WayRow.TheVariants.{Choice, Way}
use Rattle.spec_page.specs.declared.svg_row.Kind.TheVariants as kinds
use Rattle.spec_page.specs.declared.svg_row.Item.{Item}
use Rattle.spec_page.specs.declared.svg_row.Cell.{Cell}
use Rattle.spec_page.specs.declared.svg_row.GridRow.{GridRow}
use Rattle.spec_page.specs.Figures.{sum_text}
use Rattle.spec_page.specs.Moments.{move}
use Rattle.spec_page.specs.EventWords.{move_text}
use Rattle.spec_page.specs.Timeline.{status_word, look_in}
use Rattle.spec_page.specs.ContractPart.{condition_text, contract_title, fee_words, row_size, sheet_size}
use Rattle.spec_page.specs.SvgItems.{item, said_items, cell, grid_row}

-- the parties, whether there are other contracts, the contract's number, and where all parts stand at the end
pub record Ending : Type 0 where
  pub parties : List (List ℕ)
  pub several : Bool
  pub contract : ℕ
  pub looks : List Status

-- where the part of this number stands
abbrev pub status_of : Ending → ℕ → Option Status
status_of s n = Some (look_in n s.looks)

-- ---- conditions

-- a condition that is part n; a predicate may be long, so its words stand behind it
abbrev pub chips_of : Ending → ℕ → Condition → List Item
chips_of s n (Agrees party) = item kinds.Chip (status_of s n) (condition_text (Agrees party)) ∷ []
chips_of s n (Block height) = item kinds.Chip (status_of s n) (condition_text (Block height)) ∷ []
chips_of s n (Puts party value deposit) = item kinds.Chip (status_of s n) (condition_text (Puts party value deposit)) ∷ []
chips_of s n (Shows party secret) = item kinds.Chip (status_of s n) (condition_text (Shows party secret)) ∷ []
chips_of s n (Holds text) = item kinds.Chip (status_of s n) (codes "if") ∷ said_items kinds.Word text

-- numbered from n on
abbrev pub chip_items : Ending → ℕ → List Condition → List Item
chip_items s n [] = []
chip_items s n (c ∷ cs) = chips_of s n c ++ chip_items s (n + 1) cs

-- where there is no condition, anyone may take the branch
abbrev pub condition_items : Ending → ℕ → List Condition → List Item
condition_items s n [] = item kinds.Note None (codes "anyone") ∷ []
condition_items s n (c ∷ cs) = chip_items s n (c ∷ cs)

-- the value of a part before what comes of it
abbrev pub part_items : Option ℕ → List Item
part_items None = []
part_items (Some value) = item kinds.Note None (sum_text value ++ codes ":") ∷ []

-- ---- sums

abbrev pub sum_item : Ending → ℕ → ℕ → Item
sum_item s n value = item kinds.Sum (status_of s n) (sum_text value)

-- one where it is a party's
abbrev pub item_of : Bool → Item → List Item
item_of true i = i ∷ []
item_of false i = []

-- those of these payments, numbered from n on, that go to a party
abbrev pub payment_items : Ending → List ℕ → ℕ → List Payment → List Item
payment_items s party n [] = []
payment_items s party n (p ∷ ps) =
    item_of (bytes_eq p.party party) (sum_item s n p.value) ++ payment_items s party (n + 1) ps

abbrev pub payment_cells : Ending → ℕ → List Payment → List Cell
payment_cells s n payments = map (λ party. cell (payment_items s party n payments)) s.parties

-- a deposit of the beginning, which is part n, or one that may be put in later
abbrev pub stake_item : Ending → ℕ → Bool → ℕ → Item
stake_item s n true value = item kinds.Note None (sum_text value ++ codes " if put")
stake_item s n false value = sum_item s n value

abbrev pub stake_items : Ending → List ℕ → ℕ → List Stake → List Item
stake_items s party n [] = []
stake_items s party n (d ∷ ds) =
    item_of (bytes_eq d.party party) (stake_item s n d.volatile d.value) ++ stake_items s party n ds

abbrev pub stake_cells : Ending → ℕ → List Stake → List Cell
stake_cells s n stakes = map (λ party. cell (stake_items s party n stakes)) s.parties

-- ---- rows

-- so many characters a row stands to the right
abbrev pub indent_of : ℕ → ℕ
indent_of depth = 2 * min depth 8

-- the row of a transaction, which is part n
abbrev pub way_grid : Ending → ℕ → Which → ℕ → List Item → List Cell → GridRow
way_grid s n which depth what sums =
    grid_row (codes "way " ++ status_word (look_in n s.looks)) (codes "way-" ++ move_text s.several (move s.contract which))
    (indent_of depth) (item kinds.Path (status_of s n) (move_text s.several (move s.contract which)) ∷ []) what sums

abbrev pub choice_grid : ℕ → Option ℕ → GridRow
choice_grid depth share =
    grid_row (codes "fork") [] (indent_of depth) [] (part_items share ++ said_items kinds.Strong (codes "one of")) []

abbrev pub row_grid : Ending → ℕ → WayRow → GridRow
row_grid s n (Choice depth share) = choice_grid depth share
row_grid s n (Way path depth share conditions payments) =
    way_grid s n (At path) depth (part_items share ++ condition_items s (n + 1) conditions)
    (payment_cells s (n + 1 + length conditions) payments)

-- numbered from n on
abbrev pub row_grids : Ending → ℕ → List WayRow → List GridRow
row_grids s n [] = []
row_grids s n (r ∷ rs) = row_grid s n r ∷ row_grids s (n + row_size r) rs

abbrev pub initial_grid : Ending → ℕ → List Stake → GridRow
initial_grid s n stakes = way_grid s n Init 0 (said_items kinds.Word (codes "all sign; each puts in")) (stake_cells s n stakes)

-- the names of the parties, whose columns are numbered from n on
abbrev pub name_cells : ℕ → List (List ℕ) → List Cell
name_cells n [] = []
name_cells n (p ∷ ps) = cell (item (kinds.Name n) None p ∷ []) ∷ name_cells (n + 1) ps

-- a row that says what the columns are
abbrev pub head_grid : List ℕ → List Cell → GridRow
head_grid what cells = grid_row (codes "head") [] 0 [] (said_items kinds.Strong what) cells

-- ---- all rows

-- the rows of a contract, whose parts are numbered from n on
abbrev pub contract_grids : Ending → ℕ → Sheet → List GridRow
contract_grids s n sheet =
    head_grid (contract_title s.several s.contract ++ fee_words sheet.fee) (name_cells 0 s.parties)
    ∷ initial_grid s n sheet.stakes
    ∷ row_grids s (n + 1) sheet.ways

abbrev pub ending : List (List ℕ) → Bool → List Status → ℕ → Ending
ending parties several looks k = record { parties = parties; several = several; contract = k; looks = looks }

-- the contracts from number k on, whose parts are numbered from n on
abbrev pub sheet_grids : List (List ℕ) → Bool → List Status → ℕ → ℕ → List Sheet → List GridRow
sheet_grids parties several looks k n [] = []
sheet_grids parties several looks k n (x ∷ xs) =
    contract_grids (ending parties several looks k) n x ++ sheet_grids parties several looks (k + 1) (n + sheet_size x) xs
