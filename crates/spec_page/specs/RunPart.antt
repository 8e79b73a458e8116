-- The rows of a run, as HTML.
use Rattle.std.specs.Prelude.{ℕ, List, [], ◌∷◌, ◌++◌, flat_map, nat_lt, Bool, true, false, ◌==◌, if◌then◌else◌, Option, Some, None, slice_get, unwrap_or, codes}
use Rattle.std.specs.Fmt.{decimal}
use Rattle.std.specs.Str.{bytes_eq}
use Rattle.spec_page.specs.declared.event_row.EventRow.{EventRow}
use Rattle.spec_page.specs.declared.event_row.Money.{Money}
use Rattle.spec_page.specs.declared.event_row.Look.{Look}
use Rattle.spec_page.specs.declared.event_row.Look.TheVariants as looks
use Rattle.spec_page.specs.Figures.{sum_text}
use Rattle.spec_page.specs.Html.{Element, element, Content, nothing, words, inner, all_of, classed, said}
use Rattle.spec_page.specs.Cells.{Columns, path_cell, sum_cell, party_cell, each_party, if_elsewhere, head_row}

-- ---- attributes

abbrev pub look_word : Look → List ℕ
look_word looks.Start = codes "start"
look_word looks.Blocks = codes "blocks"
look_word looks.Done = codes "done"
look_word looks.Accepted = codes "accepted"
look_word looks.Refused = codes "refused"
look_word looks.More = codes "more"
look_word looks.Halt = codes "halt"

-- `event-12` after the first event, or what else the row is
abbrev pub row_id : ℕ → Look → List ℕ
row_id first looks.Start = codes "start"
row_id first looks.Blocks = codes "event-" ++ decimal first
row_id first looks.Done = codes "event-" ++ decimal first
row_id first looks.Accepted = codes "event-" ++ decimal first
row_id first looks.Refused = codes "event-" ++ decimal first
row_id first looks.More = codes "more"
row_id first looks.Halt = codes "halt"

-- all sums, in the order of the bar
abbrev pub money_text : Money → List ℕ
money_text m =
    flat_map (λ v. decimal v ++ codes " ") m.parties
    ++ (decimal m.contracts ++ (codes " " ++ (decimal m.elsewhere ++ (codes " " ++ decimal m.fees))))

-- `12`, or `12-15`
abbrev pub range_text : ℕ → ℕ → List ℕ
range_text first last = if nat_lt first last then decimal first ++ (codes "-" ++ decimal last) else decimal first

abbrev pub events_text : ℕ → EventRow → Look → List ℕ
events_text count r looks.Start = codes "before the run"
events_text count r looks.More = codes "the end"
events_text count r looks.Halt = codes "the halt"
events_text count r looks.Blocks = codes "event " ++ (range_text r.first r.last ++ (codes " of " ++ decimal count))
events_text count r looks.Done = codes "event " ++ (range_text r.first r.last ++ (codes " of " ++ decimal count))
events_text count r looks.Accepted = codes "event " ++ (range_text r.first r.last ++ (codes " of " ++ decimal count))
events_text count r looks.Refused = codes "event " ++ (range_text r.first r.last ++ (codes " of " ++ decimal count))

-- what stands beside the slider
abbrev pub said_text : ℕ → EventRow → List ℕ
said_text count r = events_text count r r.look ++ (codes ", height " ++ sum_text r.height)

abbrev pub row_attributes : ℕ → EventRow → List (List ℕ × List ℕ)
row_attributes count r =
    (codes "class", codes "ev " ++ look_word r.look)
    ∷ (codes "id", row_id r.first r.look)
    ∷ (codes "data-first", decimal r.first)
    ∷ (codes "data-money", money_text r.money)
    ∷ (codes "data-said", said_text count r)
    ∷ []

-- ---- cells

abbrev pub number_text : EventRow → Look → List ℕ
number_text r looks.Start = []
number_text r looks.More = []
number_text r looks.Halt = []
number_text r looks.Blocks = range_text r.first r.last
number_text r looks.Done = range_text r.first r.last
number_text r looks.Accepted = range_text r.first r.last
number_text r looks.Refused = range_text r.first r.last

-- why it was refused or what halted, or the height
abbrev pub note_element : Look → List ℕ → Element
note_element looks.Refused note = element (codes "em") [] (said note)
note_element looks.Halt note = element (codes "em") [] (said note)
note_element looks.Start note = classed (codes "span") (codes "note") (said note)
note_element looks.Blocks note = classed (codes "span") (codes "note") (said note)
note_element looks.Done note = classed (codes "span") (codes "note") (said note)
note_element looks.Accepted note = classed (codes "span") (codes "note") (said note)
note_element looks.More note = classed (codes "span") (codes "note") (said note)

abbrev pub note_content : Look → List ℕ → Content
note_content look [] = nothing
note_content look (b ∷ bytes) = words (codes " ") (inner (note_element look (b ∷ bytes)) nothing)

abbrev pub words_cell : EventRow → Element
words_cell r =
    element (codes "td") ((codes "class", codes "what") ∷ (codes "title", r.lines) ∷ [])
    (words r.words (note_content r.look r.note))

-- a sum where it isn't what it was in the row before
abbrev pub changed : Option ℕ → ℕ → Content → Content
changed None now rest = words (sum_text now) rest
changed (Some before) now rest = if before == now then rest else words (sum_text now) rest

-- a mark in the column of who acts
abbrev pub mark : Bool → Content
mark true = inner (element (codes "span") ((codes "class", codes "dot") ∷ (codes "title", codes "acts") ∷ []) nothing) nothing
mark false = nothing

abbrev pub is_actor : Option (List ℕ) → List ℕ → Bool
is_actor None party = false
is_actor (Some who) party = bytes_eq who party

-- what the party of this number has, and had before, where there is a row before
abbrev pub sum_at : ℕ → Money → ℕ
sum_at n m = unwrap_or (slice_get m.parties n) 0

abbrev pub sum_before : ℕ → Option Money → Option ℕ
sum_before n None = None
sum_before n (Some m) = Some (sum_at n m)

abbrev pub party_sum : Option (List ℕ) → Option Money → Money → ℕ → List ℕ → Element
party_sum who before now n party =
    party_cell n party (changed (sum_before n before) (sum_at n now) (mark (is_actor who party)))

abbrev pub field : (Money → ℕ) → Option Money → Option ℕ
field f None = None
field f (Some m) = Some (f m)

abbrev pub last_sums : Columns → Option Money → Money → List Element
last_sums c before now =
    sum_cell [] (codes "contract") (changed (field (λ m. m.contracts) before) now.contracts nothing)
    ∷ (if_elsewhere c (sum_cell [] (codes "elsewhere") (changed (field (λ m. m.elsewhere) before) now.elsewhere nothing))
    ++ sum_cell [] (codes "fees") (changed (field (λ m. m.fees) before) now.fees nothing) ∷ [])

-- ---- rows

-- a row, behind one that left this money
abbrev pub event_element : Columns → ℕ → Option Money → EventRow → Element
event_element c count before r =
    element (codes "tr") (row_attributes count r)
    (all_of (path_cell (number_text r r.look)
    ∷ words_cell r
    ∷ (each_party (party_sum r.actor before r.money) c ++ last_sums c before r.money)))

abbrev pub event_elements : Columns → ℕ → Option Money → List EventRow → List Element
event_elements c count before [] = []
event_elements c count before (r ∷ rs) = event_element c count before r ∷ event_elements c count (Some r.money) rs

abbrev pub run_head : Columns → Element
run_head c = head_row c (codes "the run") (codes "contract") (codes "elsewhere") (codes "fees")

-- all sums at the end; together they are the deposits
abbrev pub end_element : Columns → Money → Element
end_element c m =
    classed (codes "tr") (codes "total")
    (all_of (element (codes "td") [] nothing
    ∷ classed (codes "td") (codes "what") (said (codes "at the end"))
    ∷ (each_party (party_sum None None m) c ++ last_sums c None m)))

-- the rows of a run of so many events, which left this money
unfoldable pub run_elements : Columns → ℕ → List EventRow → Money → List Element
run_elements c count rows m = run_head c ∷ (event_elements c count None rows ++ end_element c m ∷ [])
