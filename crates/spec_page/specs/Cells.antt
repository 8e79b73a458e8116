-- What the cells of both tables of a page have in common: a column for each party, then the contract's, what is elsewhere, and the fees.
use Rattle.std.specs.Prelude.{ℕ, ◌+◌, ◌==◌, min, nat_lt, List, [], ◌∷◌, ◌++◌, length, Bool, if◌then◌else◌, codes}
use Rattle.std.specs.Fmt.{decimal}
use Rattle.spec_page.specs.Html.{Element, element, Content, nothing, words, inner, content_text, all_of, classed, said}

-- the columns: the parties, and whether anything is ever elsewhere
pub record Columns : Type 0 where
  pub parties : List (List ℕ)
  pub elsewhere : Bool

-- the class of the column with this number
abbrev pub party_look : ℕ → List ℕ
party_look n = codes "p" ++ decimal (min n 6)

-- what a cell of a sum has, in which so many bytes stand: its column is named where the paper is narrow; an empty one has no look
abbrev pub cell_attributes : List ℕ → List ℕ → ℕ → List (List ℕ × List ℕ)
cell_attributes look name size =
    if size == 0 then [] else (codes "class", codes "sum" ++ look) ∷ (codes "data-of", name) ∷ []

abbrev pub sum_cell : List ℕ → List ℕ → Content → Element
sum_cell look name inside = element (codes "td") (cell_attributes look name (length (content_text inside))) inside

abbrev pub party_cell : ℕ → List ℕ → Content → Element
party_cell n party inside = sum_cell (codes " " ++ party_look n) party inside

abbrev pub empty_cell : Element
empty_cell = element (codes "td") [] nothing

-- the first cell of a row: a path or the numbers of events. A long one is cut at its head, so it is set from the right, and its text apart
abbrev pub path_cell : List ℕ → Element
path_cell text = classed (codes "td") (codes "path") (inner (element (codes "bdi") [] (said text)) nothing)

-- an element for each party, with the number of its column
abbrev pub each_from : (ℕ → List ℕ → Element) → ℕ → List (List ℕ) → List Element
each_from f n [] = []
each_from f n (p ∷ ps) = f n p ∷ each_from f (n + 1) ps

abbrev pub each_party : (ℕ → List ℕ → Element) → Columns → List Element
each_party f c = each_from f 0 c.parties

-- one that is there only where anything is ever elsewhere
abbrev pub if_elsewhere : Columns → Element → List Element
if_elsewhere c e = if c.elsewhere then e ∷ [] else []

-- the cells behind those of the parties, with nothing in them
abbrev pub last_cells : Columns → List Element
last_cells c = empty_cell ∷ (if_elsewhere c empty_cell ++ empty_cell ∷ [])

-- ---- heads

abbrev pub party_head : ℕ → List ℕ → Element
party_head n party = classed (codes "th") (codes "name " ++ party_look n) (said party)

abbrev pub plain_head : List ℕ → Element
plain_head text = element (codes "th") [] (words text nothing)

-- those behind the heads of the parties
abbrev pub last_heads : Columns → List ℕ → List ℕ → List ℕ → List Element
last_heads c contract elsewhere fees = plain_head contract ∷ (if_elsewhere c (plain_head elsewhere) ++ plain_head fees ∷ [])

-- a row that says what the columns are
abbrev pub head_row : Columns → List ℕ → List ℕ → List ℕ → List ℕ → Element
head_row c what contract elsewhere fees =
    classed (codes "tr") (codes "head")
    (all_of (plain_head [] ∷ plain_head what ∷ (each_party party_head c ++ last_heads c contract elsewhere fees)))

-- ---- the table

-- with more than six parties the columns are narrower, with more than twelve their names are turned
abbrev pub table_look : ℕ → List ℕ
table_look n = if nat_lt 12 n then codes "wide turned" else if nat_lt 6 n then codes "wide" else codes "few"
