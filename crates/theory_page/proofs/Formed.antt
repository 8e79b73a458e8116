-- Every page is well-formed.
use Rattle.std.proofs.Common.{◌≡◌, ℕ, ◌+◌, List, [], ◌∷◌, ◌++◌, map, length, Bool, true, false, Option, Some, None, refl, ap, ◌∙◌}
use Rattle.std.specs.Prelude.{◌&&◌, ◌==◌, ◌-◌, nat_lt, if◌then◌else◌, codes}
use Rattle.std.specs.Str.{bytes_eq}
use Rattle.std.specs.List.{list_all}
use Rattle.theory_text.proofs.ListFacts.{and_is, and_left, and_right}
use Rattle.spec_page.specs.Html.{Element, element, raw, Content, nothing, words, inner, is_well_formed, is_well_formed_inside, IsWellFormedPage}
use Rattle.spec_page.specs.Html.{content_text, all_of, spaced, lines_of, said}
use Rattle.spec_terms.specs.Advert.{Advert}
use Rattle.spec_terms.specs.Parties.{participants}
use Rattle.spec_tool.specs.declared.which.Which.{Which}
use Rattle.spec_tool.specs.declared.which.Which.TheVariants.{Init, At}
use Rattle.spec_run.specs.declared.event.Event.{Event}
use Rattle.spec_run.specs.Setup.{Setup}
use Rattle.spec_page.specs.declared.way_row.Stake.{Stake}
use Rattle.spec_page.specs.declared.way_row.Condition.{Condition}
use Rattle.spec_page.specs.declared.way_row.Payment.{Payment}
use Rattle.spec_page.specs.declared.way_row.WayRow.{WayRow}
use Rattle.spec_page.specs.declared.way_row.WayRow.TheVariants.{Choice, Way}
use Rattle.spec_page.specs.declared.event_row.EventRow.{EventRow}
use Rattle.spec_page.specs.declared.event_row.Money.{Money}
use Rattle.spec_page.specs.declared.event_row.Look.{Look}
use Rattle.spec_page.specs.declared.event_row.Look.TheVariants as looks
use Rattle.spec_page.specs.declared.picture.Picture.{Picture}
use Rattle.spec_page.specs.declared.picture.Sheet.{Sheet}
use Rattle.spec_page.specs.Figures.{sum_text}
use Rattle.spec_page.specs.Timeline.{next_change}
use Rattle.spec_page.specs.Picture.{sheet, contract_lines, picture}
use Rattle.spec_page.specs.Style.{style_text}
use Rattle.spec_page.specs.Script.{script_text}
use Rattle.spec_page.specs.Cells.{Columns, party_look, sum_cell, party_cell, empty_cell, each_from, each_party, if_elsewhere, last_cells, party_head, plain_head, last_heads, head_row}
use Rattle.spec_page.specs.ContractPart.{Scene, chips, conditions_content, with_part, sum_if, sums_to, payment_cell, stake_element, stake_if, stake_elements, stake_cell}
use Rattle.spec_page.specs.ContractPart.{way_element, no_cell, choice_element, row_element, row_size, row_elements, contract_title, fee_words, contract_elements, sheet_size}
use Rattle.spec_page.specs.RunPart.{field, note_element, note_content, changed, mark, is_actor, sum_at, sum_before, party_sum, last_sums}
use Rattle.spec_page.specs.RunPart.{event_element, event_elements, end_element, run_elements}
use Rattle.spec_page.specs.Page.{outlook_element, change_of_outlook, outlooks_from, outlook_elements, outlook_texts, outlook_part, bar_piece, party_piece, bar_part, last_money, slider_part}
use Rattle.spec_page.specs.Page.{columns_of, scene, contract_bodies, run_body, table_part, text_part, head_part, body_part, page_of, page_text}
use Rattle.spec_page.specs.Page.{alone, sheet_table, sheet_body, sheet_page, contract_text}
use Rattle.spec_page.specs.Statements.{PagesAreWellFormed}

-- ---- elements one after another

all_formed : (es : List Element) → is_well_formed_inside (all_of es) ≡ list_all is_well_formed es
all_formed [] = refl
all_formed (e ∷ es) = ap (λ t. is_well_formed e && t) (all_formed es)

spaced_formed : (es : List Element) → is_well_formed_inside (spaced es) ≡ list_all is_well_formed es
spaced_formed [] = refl
spaced_formed (e ∷ es) = ap (λ t. is_well_formed e && t) (spaced_formed es)

lines_formed : (es : List Element) → is_well_formed_inside (lines_of es) ≡ list_all is_well_formed es
lines_formed [] = refl
lines_formed (e ∷ es) = ap (λ t. is_well_formed e && t) (lines_formed es)

-- ---- lists of elements

abbrev AllFormed : List Element → Type 0
AllFormed es = list_all is_well_formed es ≡ true

both_formed : (xs ys : List Element) → AllFormed xs → AllFormed ys → AllFormed (xs ++ ys)
both_formed [] ys h k = k
both_formed (x ∷ xs) ys h k = and_is _ _ (and_left _ _ h) (both_formed xs ys (and_right _ _ h) k)

map_formed : {X : Type 0} (f : X → Element) → ((x : X) → is_well_formed (f x) ≡ true) → (xs : List X) → AllFormed (map f xs)
map_formed f h [] = refl
map_formed f h (x ∷ xs) = and_is _ _ (h x) (map_formed f h xs)

each_formed : (f : ℕ → List ℕ → Element) → ((n : ℕ) (p : List ℕ) → is_well_formed (f n p) ≡ true) → (n : ℕ) (ps : List (List ℕ))
    → AllFormed (each_from f n ps)
each_formed f h n [] = refl
each_formed f h n (p ∷ ps) = and_is _ _ (h n p) (each_formed f h (n + 1) ps)

-- ---- cells

sum_cell_formed : (look name : List ℕ) (c : Content) → is_well_formed (sum_cell look name c) ≡ is_well_formed_inside c
sum_cell_formed look name c = by_size (length (content_text c) == 0)
  where
    by_size : (empty : Bool)
        → is_well_formed (element (codes "td") (if empty then [] else (codes "class", codes "sum" ++ look) ∷ (codes "data-of", name) ∷ []) c)
        ≡ is_well_formed_inside c
    by_size true = refl
    by_size false = refl

elsewhere_formed : (b : Bool) (e : Element) → is_well_formed e ≡ true → AllFormed (if b then e ∷ [] else [])
elsewhere_formed true e h = and_is _ _ h refl
elsewhere_formed false e h = refl

last_cells_formed : (c : Columns) → AllFormed (last_cells c)
last_cells_formed c = both_formed (if_elsewhere c empty_cell) (empty_cell ∷ []) (elsewhere_formed c.elsewhere empty_cell refl) refl

head_formed : (c : Columns) (what contract elsewhere fees : List ℕ) → is_well_formed (head_row c what contract elsewhere fees) ≡ true
head_formed c what contract elsewhere fees =
    all_formed (each_party party_head c ++ last_heads c contract elsewhere fees)
    ∙ both_formed (each_party party_head c) (last_heads c contract elsewhere fees) (each_formed party_head (λ n p. refl) 0 c.parties)
    (both_formed (if_elsewhere c (plain_head elsewhere)) (plain_head fees ∷ []) (elsewhere_formed c.elsewhere (plain_head elsewhere) refl) refl)

-- ---- the rows of a contract

chips_formed : (s : Scene) (n : ℕ) (cs : List Condition) → AllFormed (chips s n cs)
chips_formed s n [] = refl
chips_formed s n (c ∷ cs) = chips_formed s (n + 1) cs

conditions_formed : (s : Scene) (n : ℕ) (cs : List Condition) → is_well_formed_inside (conditions_content s n cs) ≡ true
conditions_formed s n [] = refl
conditions_formed s n (c ∷ cs) = spaced_formed (chips s (n + 1) cs) ∙ chips_formed s (n + 1) cs

with_part_formed : (share : Option ℕ) (rest : Content) → is_well_formed_inside (with_part share rest) ≡ is_well_formed_inside rest
with_part_formed None rest = refl
with_part_formed (Some value) rest = refl

-- elements in a party's cell
spaced_cell_formed : (n : ℕ) (party : List ℕ) (es : List Element) → AllFormed es → is_well_formed (party_cell n party (spaced es)) ≡ true
spaced_cell_formed n party es h = sum_cell_formed (codes " " ++ party_look n) party (spaced es) ∙ spaced_formed es ∙ h

sum_if_formed : (own : Bool) (s : Scene) (n value : ℕ) → AllFormed (sum_if own s n value)
sum_if_formed true s n value = refl
sum_if_formed false s n value = refl

sums_formed : (s : Scene) (party : List ℕ) (n : ℕ) (ps : List Payment) → AllFormed (sums_to s party n ps)
sums_formed s party n [] = refl
sums_formed s party n (p ∷ ps) =
    both_formed (sum_if (bytes_eq p.party party) s n p.value) (sums_to s party (n + 1) ps)
    (sum_if_formed (bytes_eq p.party party) s n p.value) (sums_formed s party (n + 1) ps)

payment_formed : (s : Scene) (n : ℕ) (payments : List Payment) (column : ℕ) (party : List ℕ)
    → is_well_formed (payment_cell s n payments column party) ≡ true
payment_formed s n payments column party = spaced_cell_formed column party (sums_to s party n payments) (sums_formed s party n payments)

stake_element_formed : (s : Scene) (n : ℕ) (later : Bool) (value : ℕ) → is_well_formed (stake_element s n later value) ≡ true
stake_element_formed s n true value = refl
stake_element_formed s n false value = refl

stake_if_formed : (own : Bool) (s : Scene) (n : ℕ) (d : Stake) → AllFormed (stake_if own s n d)
stake_if_formed true s n d = and_is _ _ (stake_element_formed s n d.volatile d.value) refl
stake_if_formed false s n d = refl

stakes_formed : (s : Scene) (n : ℕ) (party : List ℕ) (ds : List Stake) → AllFormed (stake_elements s n party ds)
stakes_formed s n party [] = refl
stakes_formed s n party (d ∷ ds) =
    both_formed (stake_if (bytes_eq d.party party) s n d) (stake_elements s n party ds)
    (stake_if_formed (bytes_eq d.party party) s n d) (stakes_formed s n party ds)

stake_formed : (s : Scene) (n : ℕ) (stakes : List Stake) (column : ℕ) (party : List ℕ) → is_well_formed (stake_cell s n stakes column party) ≡ true
stake_formed s n stakes column party = spaced_cell_formed column party (stake_elements s n party stakes) (stakes_formed s n party stakes)

way_formed : (s : Scene) (n : ℕ) (x : Which) (depth : ℕ) (inside : Content) (cell : ℕ → List ℕ → Element)
    → is_well_formed_inside inside ≡ true → ((k : ℕ) (p : List ℕ) → is_well_formed (cell k p) ≡ true)
    → is_well_formed (way_element s n x depth inside cell) ≡ true
way_formed s n x depth inside cell h k =
    and_is _ _ h
    (all_formed (each_party cell s.columns ++ last_cells s.columns)
    ∙ both_formed (each_party cell s.columns) (last_cells s.columns) (each_formed cell k 0 s.columns.parties) (last_cells_formed s.columns))

choice_formed : (s : Scene) (depth : ℕ) (share : Option ℕ) → is_well_formed (choice_element s depth share) ≡ true
choice_formed s depth share =
    and_is _ _ (with_part_formed share (inner (element (codes "b") [] (said (codes "one of"))) nothing))
    (all_formed (each_party no_cell s.columns ++ last_cells s.columns)
    ∙ both_formed (each_party no_cell s.columns) (last_cells s.columns) (each_formed no_cell (λ n p. refl) 0 s.columns.parties)
    (last_cells_formed s.columns))

row_formed : (s : Scene) (n : ℕ) (r : WayRow) → is_well_formed (row_element s n r) ≡ true
row_formed s n (Choice depth share) = choice_formed s depth share
row_formed s n (Way path depth share conditions payments) =
    way_formed s n (At path) depth (with_part share (conditions_content s (n + 1) conditions)) (payment_cell s (n + 1 + length conditions) payments)
    (with_part_formed share (conditions_content s (n + 1) conditions) ∙ conditions_formed s (n + 1) conditions)
    (payment_formed s (n + 1 + length conditions) payments)

rows_formed : (s : Scene) (n : ℕ) (rs : List WayRow) → AllFormed (row_elements s n rs)
rows_formed s n [] = refl
rows_formed s n (r ∷ rs) = and_is _ _ (row_formed s n r) (rows_formed s (n + row_size r) rs)

contract_formed : (s : Scene) (n : ℕ) (x : Sheet) → AllFormed (contract_elements s n x)
unfolding contract_elements
contract_formed s n x =
    and_is _ _ (head_formed s.columns (contract_title s.several s.contract ++ fee_words x.fee) [] [] [])
    (and_is _ _ (way_formed s n Init 0 (said (codes "all sign; each puts in")) (stake_cell s n x.stakes) refl (stake_formed s n x.stakes))
    (rows_formed s (n + 1) x.ways))

-- ---- the rows of a run

note_formed : (look : Look) (note : List ℕ) → is_well_formed (note_element look note) ≡ true
note_formed looks.Start note = refl
note_formed looks.Blocks note = refl
note_formed looks.Done note = refl
note_formed looks.Accepted note = refl
note_formed looks.Refused note = refl
note_formed looks.More note = refl
note_formed looks.Halt note = refl

note_content_formed : (look : Look) (note : List ℕ) → is_well_formed_inside (note_content look note) ≡ true
note_content_formed look [] = refl
note_content_formed look (b ∷ bytes) = and_is _ _ (note_formed look (b ∷ bytes)) refl

changed_formed : (before : Option ℕ) (now : ℕ) (rest : Content) → is_well_formed_inside (changed before now rest) ≡ is_well_formed_inside rest
changed_formed None now rest = refl
changed_formed (Some before) now rest = by_test (before == now)
  where
    by_test : (same : Bool) → is_well_formed_inside (if same then rest else words (sum_text now) rest) ≡ is_well_formed_inside rest
    by_test true = refl
    by_test false = refl

mark_formed : (b : Bool) → is_well_formed_inside (mark b) ≡ true
mark_formed true = refl
mark_formed false = refl

party_formed : (n : ℕ) (p : List ℕ) (before : Option ℕ) (v : ℕ) (b : Bool) → is_well_formed (party_cell n p (changed before v (mark b))) ≡ true
party_formed n p before v b =
    sum_cell_formed (codes " " ++ party_look n) p (changed before v (mark b)) ∙ changed_formed before v (mark b) ∙ mark_formed b

parties_formed : (who : Option (List ℕ)) (before : Option Money) (now : Money) (c : Columns) → AllFormed (each_party (party_sum who before now) c)
parties_formed who before now c =
    each_formed (party_sum who before now) (λ n p. party_formed n p (sum_before n before) (sum_at n now) (is_actor who p)) 0 c.parties

sum_formed : (name : List ℕ) (before : Option ℕ) (now : ℕ) → is_well_formed (sum_cell [] name (changed before now nothing)) ≡ true
sum_formed name before now = sum_cell_formed [] name (changed before now nothing) ∙ changed_formed before now nothing

last_sums_formed : (c : Columns) (before : Option Money) (now : Money) → AllFormed (last_sums c before now)
last_sums_formed c before now =
    let elsewhere = sum_cell [] (codes "elsewhere") (changed (field (λ m. m.elsewhere) before) now.elsewhere nothing) in
    let fees = sum_cell [] (codes "fees") (changed (field (λ m. m.fees) before) now.fees nothing) in
    and_is _ _ (sum_formed (codes "contract") (field (λ m. m.contracts) before) now.contracts)
    (both_formed (if_elsewhere c elsewhere) (fees ∷ [])
    (elsewhere_formed c.elsewhere elsewhere (sum_formed (codes "elsewhere") (field (λ m. m.elsewhere) before) now.elsewhere))
    (and_is _ _ (sum_formed (codes "fees") (field (λ m. m.fees) before) now.fees) refl))

event_formed : (c : Columns) (count : ℕ) (before : Option Money) (r : EventRow) → is_well_formed (event_element c count before r) ≡ true
event_formed c count before r =
    and_is _ _ (note_content_formed r.look r.note)
    (all_formed (each_party (party_sum r.actor before r.money) c ++ last_sums c before r.money)
    ∙ both_formed (each_party (party_sum r.actor before r.money) c) (last_sums c before r.money)
    (parties_formed r.actor before r.money c) (last_sums_formed c before r.money))

events_formed : (c : Columns) (count : ℕ) (before : Option Money) (rs : List EventRow) → AllFormed (event_elements c count before rs)
events_formed c count before [] = refl
events_formed c count before (r ∷ rs) = and_is _ _ (event_formed c count before r) (events_formed c count (Some r.money) rs)

end_formed : (c : Columns) (m : Money) → is_well_formed (end_element c m) ≡ true
end_formed c m =
    all_formed (each_party (party_sum None None m) c ++ last_sums c None m)
    ∙ both_formed (each_party (party_sum None None m) c) (last_sums c None m) (parties_formed None None m c) (last_sums_formed c None m)

run_formed : (c : Columns) (count : ℕ) (rs : List EventRow) (m : Money) → AllFormed (run_elements c count rs m)
unfolding run_elements
run_formed c count rs m =
    and_is _ _ (head_formed c (codes "the run") (codes "contract") (codes "elsewhere") (codes "fees")) (both_formed (event_elements c count None rs) (end_element c m ∷ []) (events_formed c count None rs)
    (and_is _ _ (end_formed c m) refl))

-- ---- the parts of a page

change_formed : (same : Bool) (n : ℕ) (text : List ℕ) (next : Option ℕ) → AllFormed (if same then [] else outlook_element n text next ∷ [])
change_formed true n text next = refl
change_formed false n text next = refl

later_formed : (n : ℕ) (last : List ℕ) (ts : List (List ℕ)) → AllFormed (outlooks_from n last ts)
later_formed n last [] = refl
later_formed n last (t ∷ ts) =
    both_formed (change_of_outlook n last t ts) (outlooks_from (n + 1) t ts) (change_formed (bytes_eq last t) n t (next_change (n + 1) t ts))
    (later_formed (n + 1) t ts)

outlook_elements_formed : (ts : List (List ℕ)) → AllFormed (outlook_elements ts)
outlook_elements_formed [] = refl
outlook_elements_formed (t ∷ ts) = later_formed 1 t ts

outlook_formed : (rows : List EventRow) → is_well_formed (outlook_part rows) ≡ true
unfolding outlook_part
outlook_formed rows = lines_formed (outlook_elements (outlook_texts rows)) ∙ outlook_elements_formed (outlook_texts rows)

bar_formed : (ps : List (List ℕ)) (m : Money) → is_well_formed (bar_part ps m) ≡ true
unfolding bar_part
bar_formed ps m =
    let last : List Element =
    bar_piece (codes "in") (codes "contract") m.contracts
    ∷ bar_piece (codes "out") (codes "elsewhere") m.elsewhere
    ∷ bar_piece (codes "fee") (codes "fees") m.fees
    ∷ [] in
    all_formed (each_from (party_piece m) 0 ps ++ last)
    ∙ both_formed (each_from (party_piece m) 0 ps) last (each_formed (party_piece m) (λ n p. refl) 0 ps) refl

slider_formed : (last : ℕ) → is_well_formed (slider_part last) ≡ true
unfolding slider_part
slider_formed last = refl

bodies_formed : (c : Columns) (several : Bool) (rows : List EventRow) (k n : ℕ) (xs : List Sheet) → AllFormed (contract_bodies c several rows k n xs)
bodies_formed c several rows k n [] = refl
bodies_formed c several rows k n (x ∷ xs) =
    and_is _ _ (lines_formed (contract_elements (scene c several rows k) n x) ∙ contract_formed (scene c several rows k) n x)
    (bodies_formed c several rows (k + 1) (n + sheet_size x) xs)

table_formed : (p : Picture) (m : Money) → is_well_formed (table_part p m) ≡ true
unfolding table_part
table_formed p m =
    let c = columns_of p in
    let bodies = contract_bodies c (nat_lt 1 (length p.sheets)) p.rows 0 0 p.sheets in
    and_is _ _
    (all_formed (bodies ++ run_body c p.count p.rows m ∷ [])
    ∙ both_formed bodies (run_body c p.count p.rows m ∷ []) (bodies_formed c (nat_lt 1 (length p.sheets)) p.rows 0 0 p.sheets)
    (and_is _ _ (lines_formed (run_elements c p.count p.rows m) ∙ run_formed c p.count p.rows m) refl))
    refl

text_formed : (text : List ℕ) → is_well_formed (text_part text) ≡ true
unfolding text_part
text_formed text = refl

style_formed : is_well_formed (raw (codes "style") style_text) ≡ true
unfolding style_text
style_formed = refl

script_formed : is_well_formed (raw (codes "script") script_text) ≡ true
unfolding script_text
script_formed = refl

head_part_formed : (title : List ℕ) → is_well_formed (head_part title) ≡ true
unfolding head_part
head_part_formed title = and_is _ _ style_formed refl

body_formed : (title : List ℕ) (p : Picture) (m : Money) → is_well_formed (body_part title p m) ≡ true
unfolding body_part
body_formed title p m =
    and_is _ _ (bar_formed p.parties m)
    (and_is _ _ (slider_formed (length p.rows - 1))
    (and_is _ _ (outlook_formed p.rows)
    (and_is _ _ (table_formed p m) (and_is _ _ (text_formed p.text) (and_is _ _ script_formed refl)))))

page_formed : (title : List ℕ) (p : Picture) → is_well_formed (page_of title p) ≡ true
unfolding page_of
page_formed title p = and_is _ _ (head_part_formed title) (and_is _ _ (body_formed title p (last_money p.rows)) refl)

-- ---- the page of a contract alone

sheet_formed : (parties : List (List ℕ)) (x : Sheet) → is_well_formed (sheet_table parties x) ≡ true
unfolding sheet_table
sheet_formed parties x =
    and_is _ _ (and_is _ _ (lines_formed (contract_elements (alone parties) 0 x) ∙ contract_formed (alone parties) 0 x) refl) refl

sheet_body_formed : (title : List ℕ) (parties : List (List ℕ)) (x : Sheet) (text : List ℕ) → is_well_formed (sheet_body title parties x text) ≡ true
unfolding sheet_body
sheet_body_formed title parties x text = and_is _ _ (sheet_formed parties x) (and_is _ _ (text_formed text) refl)

sheet_page_formed : (title : List ℕ) (parties : List (List ℕ)) (x : Sheet) (text : List ℕ) → is_well_formed (sheet_page title parties x text) ≡ true
unfolding sheet_page
sheet_page_formed title parties x text = and_is _ _ (head_part_formed title) (and_is _ _ (sheet_body_formed title parties x text) refl)

-- ---- pages

of_runs : (title : List ℕ) (s : Setup) (es : List Event) → IsWellFormedPage (page_text title s es)
unfolding page_text
of_runs title s es = record { tree = page_of title (picture s es); well_formed = page_formed title (picture s es); spelled = refl }

of_contracts : (title : List ℕ) (a : Advert) → IsWellFormedPage (contract_text title a)
unfolding contract_text
of_contracts title a = record {
  tree = sheet_page title (participants a) (sheet a) (contract_lines (a ∷ []));
  well_formed = sheet_page_formed title (participants a) (sheet a) (contract_lines (a ∷ []));
  spelled = refl;
}

pub pages_are_well_formed : PagesAreWellFormed
pages_are_well_formed = record { runs = of_runs; contracts = of_contracts }
