-- The texts of an SVG: what each is, and how many characters it takes.
use Rattle.std.specs.Prelude.{ℕ, ◌+◌, List, [], ◌∷◌, ◌++◌, map, length, sum_by, Option, Some, None, codes}
use Rattle.spec_text.specs.Lines.{words_of}
use Rattle.spec_page.specs.declared.status.Status.{Status}
use Rattle.spec_page.specs.declared.svg_row.Kind.{Kind}
use Rattle.spec_page.specs.declared.svg_row.Kind.TheVariants as kinds
use Rattle.spec_page.specs.declared.svg_row.Item.{Item}
use Rattle.spec_page.specs.declared.svg_row.Cell.{Cell}
use Rattle.spec_page.specs.declared.svg_row.GridRow.{GridRow}
use Rattle.spec_page.specs.Timeline.{status_word}
use Rattle.spec_page.specs.Cells.{party_look}

abbrev pub item : Kind → Option Status → List ℕ → Item
item kind status text = record { kind = kind; status = status; text = text }

-- the words of a text, each a text of its own
abbrev pub said_items : Kind → List ℕ → List Item
said_items kind text = map (λ w. item kind None w) (words_of text)

-- a text, if it isn't empty
abbrev pub item_if : Kind → List ℕ → List Item
item_if kind [] = []
item_if kind (b ∷ bytes) = item kind None (b ∷ bytes) ∷ []

abbrev pub cell : List Item → Cell
cell items = record { items = items }

abbrev pub grid_row : List ℕ → List ℕ → ℕ → List Item → List Item → List Cell → GridRow
grid_row look id indent path what sums =
    record { look = look; id = id; indent = indent; path = path; what = what; sums = sums }

-- ---- classes

abbrev pub kind_word : Kind → List ℕ
kind_word kinds.Word = codes "word"
kind_word kinds.Strong = codes "strong"
kind_word kinds.Note = codes "note"
kind_word kinds.Bad = codes "bad"
kind_word (kinds.Name column) = codes "name " ++ party_look column
kind_word kinds.Path = codes "path"
kind_word kinds.Chip = codes "chip"
kind_word kinds.Sum = codes "sum"

abbrev pub status_class : Option Status → List ℕ
status_class None = []
status_class (Some status) = codes " " ++ status_word status

abbrev pub item_class : Item → List ℕ
item_class i = kind_word i.kind ++ status_class i.status

-- ---- sizes

-- so many characters are left before a text, for a mark
abbrev pub front : Kind → ℕ
front kinds.Word = 0
front kinds.Strong = 0
front kinds.Note = 0
front kinds.Bad = 0
front (kinds.Name column) = 0
front kinds.Path = 2
front kinds.Chip = 2
front kinds.Sum = 2

-- how many characters a text takes, with the space behind it
abbrev pub size : Item → ℕ
size i = front i.kind + length i.text + 1

abbrev pub items_size : List Item → ℕ
items_size items = sum_by size items
