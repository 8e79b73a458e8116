-- A page has the ids of its slider and of its rows, and no other.
use Rattle.std.proofs.Common.{◌≡◌, ℕ, ◌+◌, List, [], ◌∷◌, ◌++◌, map, length, flat_map, append-nil, Bool, true, false, Option, Some, None, refl, ap, ◌∙◌}
use Rattle.std.specs.Prelude.{◌==◌, ◌-◌, nat_lt, if◌then◌else◌, codes}
use Rattle.std.proofs.lemmas.List.Concat.{flat_map-append}
use Rattle.std.specs.Str.{bytes_eq}
use Rattle.spec_page.specs.Html.{Element, element, Content, nothing, words, inner}
use Rattle.spec_page.specs.Html.{content_text, all_of, spaced, lines_of, said}
use Rattle.spec_tool.specs.declared.which.Which.{Which}
use Rattle.spec_tool.specs.declared.which.Which.TheVariants.{Init, At}
use Rattle.spec_page.specs.declared.way_row.Stake.{Stake}
use Rattle.spec_page.specs.declared.way_row.Condition.{Condition}
use Rattle.spec_page.specs.declared.way_row.Payment.{Payment}
use Rattle.spec_page.specs.declared.way_row.WayRow.{WayRow}
use Rattle.spec_page.specs.declared.way_row.WayRow.TheVariants.{Choice, Way}
use Rattle.spec_page.specs.declared.event_row.EventRow.{EventRow}
use Rattle.spec_page.specs.declared.event_row.Money.{Money}
use Rattle.spec_page.specs.declared.event_row.Look.{Look}
use Rattle.spec_page.specs.declared.event_row.Look.TheVariants as looks
use Rattle.spec_page.specs.declared.picture.Picture.{Picture}
use Rattle.spec_page.specs.declared.picture.Sheet.{Sheet}
use Rattle.spec_page.specs.Figures.{sum_text}
use Rattle.spec_page.specs.Timeline.{next_change}
use Rattle.spec_page.specs.Cells.{Columns, party_look, sum_cell, party_cell, empty_cell, each_from, each_party, if_elsewhere, last_cells, party_head, plain_head, last_heads, head_row}
use Rattle.spec_page.specs.ContractPart.{Scene, chips, conditions_content, with_part, sum_if, sums_to, payment_cell, stake_element, stake_if, stake_elements, stake_cell}
use Rattle.spec_page.specs.ContractPart.{way_element, no_cell, choice_element, row_element, row_size, row_elements, contract_title, fee_words, contract_elements, sheet_size}
use Rattle.spec_page.specs.RunPart.{field, note_element, note_content, changed, mark, is_actor, sum_at, sum_before, party_sum, last_sums}
use Rattle.spec_page.specs.RunPart.{event_element, event_elements, end_element, run_elements}
use Rattle.spec_page.specs.Page.{outlook_element, change_of_outlook, outlooks_from, outlook_elements, outlook_texts, outlook_part, bar_piece, party_piece, bar_part, last_money, slider_part}
use Rattle.spec_page.specs.Page.{columns_of, scene, contract_bodies, run_body, table_part, text_part, head_part, body_part, page_of}
use Rattle.spec_page.specs.Page.{alone, sheet_table, sheet_body, sheet_page}
use Rattle.theory_page.specs.Ids.{ids_in, ids_inside, id_of, page_ids}

-- ---- elements one after another

neither : (xs ys : List (List ℕ)) → xs ≡ [] → ys ≡ [] → xs ++ ys ≡ []
neither xs ys h k = λ i. h i ++ k i

pub all_ids : (es : List Element) → ids_inside (all_of es) ≡ flat_map ids_in es
all_ids [] = refl
all_ids (e ∷ es) = ap (λ t. ids_in e ++ t) (all_ids es)

spaced_ids : (es : List Element) → ids_inside (spaced es) ≡ flat_map ids_in es
spaced_ids [] = refl
spaced_ids (e ∷ es) = ap (λ t. ids_in e ++ t) (spaced_ids es)

pub lines_ids : (es : List Element) → ids_inside (lines_of es) ≡ flat_map ids_in es
lines_ids [] = refl
lines_ids (e ∷ es) = ap (λ t. ids_in e ++ t) (lines_ids es)

-- ---- lists of elements

-- none has an id
abbrev AllBare : List Element → Type 0
AllBare es = flat_map ids_in es ≡ []

pub both_bare : (xs ys : List Element) → AllBare xs → AllBare ys → AllBare (xs ++ ys)
both_bare xs ys h k = flat_map-append ids_in xs ys ∙ neither _ _ h k

each_bare : (f : ℕ → List ℕ → Element) → ((n : ℕ) (p : List ℕ) → ids_in (f n p) ≡ []) → (n : ℕ) (ps : List (List ℕ))
    → AllBare (each_from f n ps)
each_bare f h n [] = refl
each_bare f h n (p ∷ ps) = neither _ _ (h n p) (each_bare f h (n + 1) ps)

-- ---- cells

sum_cell_bare : (look name : List ℕ) (c : Content) → ids_in (sum_cell look name c) ≡ ids_inside c
sum_cell_bare look name c = by_size (length (content_text c) == 0)
  where
    by_size : (empty : Bool)
        → ids_in (element (codes "td") (if empty then [] else (codes "class", codes "sum" ++ look) ∷ (codes "data-of", name) ∷ []) c)
        ≡ ids_inside c
    by_size true = refl
    by_size false = refl

elsewhere_bare : (b : Bool) (e : Element) → ids_in e ≡ [] → AllBare (if b then e ∷ [] else [])
elsewhere_bare true e h = neither _ _ h refl
elsewhere_bare false e h = refl

last_cells_bare : (c : Columns) → AllBare (last_cells c)
last_cells_bare c = both_bare (if_elsewhere c empty_cell) (empty_cell ∷ []) (elsewhere_bare c.elsewhere empty_cell refl) refl

head_bare : (c : Columns) (what contract elsewhere fees : List ℕ) → ids_in (head_row c what contract elsewhere fees) ≡ []
head_bare c what contract elsewhere fees =
    all_ids (each_party party_head c ++ last_heads c contract elsewhere fees)
    ∙ both_bare (each_party party_head c) (last_heads c contract elsewhere fees) (each_bare party_head (λ n p. refl) 0 c.parties)
    (both_bare (if_elsewhere c (plain_head elsewhere)) (plain_head fees ∷ []) (elsewhere_bare c.elsewhere (plain_head elsewhere) refl) refl)

-- ---- the rows of a contract

chips_bare : (s : Scene) (n : ℕ) (cs : List Condition) → AllBare (chips s n cs)
chips_bare s n [] = refl
chips_bare s n (c ∷ cs) = chips_bare s (n + 1) cs

conditions_bare : (s : Scene) (n : ℕ) (cs : List Condition) → ids_inside (conditions_content s n cs) ≡ []
conditions_bare s n [] = refl
conditions_bare s n (c ∷ cs) = spaced_ids (chips s (n + 1) cs) ∙ chips_bare s (n + 1) cs

with_part_bare : (share : Option ℕ) (rest : Content) → ids_inside (with_part share rest) ≡ ids_inside rest
with_part_bare None rest = refl
with_part_bare (Some value) rest = refl

-- elements in a party's cell
spaced_cell_bare : (n : ℕ) (party : List ℕ) (es : List Element) → AllBare es → ids_in (party_cell n party (spaced es)) ≡ []
spaced_cell_bare n party es h = sum_cell_bare (codes " " ++ party_look n) party (spaced es) ∙ spaced_ids es ∙ h

sum_if_bare : (own : Bool) (s : Scene) (n value : ℕ) → AllBare (sum_if own s n value)
sum_if_bare true s n value = refl
sum_if_bare false s n value = refl

sums_bare : (s : Scene) (party : List ℕ) (n : ℕ) (ps : List Payment) → AllBare (sums_to s party n ps)
sums_bare s party n [] = refl
sums_bare s party n (p ∷ ps) =
    both_bare (sum_if (bytes_eq p.party party) s n p.value) (sums_to s party (n + 1) ps)
    (sum_if_bare (bytes_eq p.party party) s n p.value) (sums_bare s party (n + 1) ps)

payment_bare : (s : Scene) (n : ℕ) (payments : List Payment) (column : ℕ) (party : List ℕ)
    → ids_in (payment_cell s n payments column party) ≡ []
payment_bare s n payments column party = spaced_cell_bare column party (sums_to s party n payments) (sums_bare s party n payments)

stake_element_bare : (s : Scene) (n : ℕ) (later : Bool) (value : ℕ) → ids_in (stake_element s n later value) ≡ []
stake_element_bare s n true value = refl
stake_element_bare s n false value = refl

stake_if_bare : (own : Bool) (s : Scene) (n : ℕ) (d : Stake) → AllBare (stake_if own s n d)
stake_if_bare true s n d = neither _ _ (stake_element_bare s n d.volatile d.value) refl
stake_if_bare false s n d = refl

stakes_bare : (s : Scene) (n : ℕ) (party : List ℕ) (ds : List Stake) → AllBare (stake_elements s n party ds)
stakes_bare s n party [] = refl
stakes_bare s n party (d ∷ ds) =
    both_bare (stake_if (bytes_eq d.party party) s n d) (stake_elements s n party ds)
    (stake_if_bare (bytes_eq d.party party) s n d) (stakes_bare s n party ds)

stake_bare : (s : Scene) (n : ℕ) (stakes : List Stake) (column : ℕ) (party : List ℕ) → ids_in (stake_cell s n stakes column party) ≡ []
stake_bare s n stakes column party = spaced_cell_bare column party (stake_elements s n party stakes) (stakes_bare s n party stakes)

way_bare : (s : Scene) (n : ℕ) (x : Which) (depth : ℕ) (inside : Content) (cell : ℕ → List ℕ → Element)
    → ids_inside inside ≡ [] → ((k : ℕ) (p : List ℕ) → ids_in (cell k p) ≡ [])
    → ids_in (way_element s n x depth inside cell) ≡ []
way_bare s n x depth inside cell h k =
    neither _ _ h
    (all_ids (each_party cell s.columns ++ last_cells s.columns)
    ∙ both_bare (each_party cell s.columns) (last_cells s.columns) (each_bare cell k 0 s.columns.parties) (last_cells_bare s.columns))

choice_bare : (s : Scene) (depth : ℕ) (share : Option ℕ) → ids_in (choice_element s depth share) ≡ []
choice_bare s depth share =
    neither _ _ (with_part_bare share (inner (element (codes "b") [] (said (codes "one of"))) nothing))
    (all_ids (each_party no_cell s.columns ++ last_cells s.columns)
    ∙ both_bare (each_party no_cell s.columns) (last_cells s.columns) (each_bare no_cell (λ n p. refl) 0 s.columns.parties)
    (last_cells_bare s.columns))

row_bare : (s : Scene) (n : ℕ) (r : WayRow) → ids_in (row_element s n r) ≡ []
row_bare s n (Choice depth share) = choice_bare s depth share
row_bare s n (Way path depth share conditions payments) =
    way_bare s n (At path) depth (with_part share (conditions_content s (n + 1) conditions)) (payment_cell s (n + 1 + length conditions) payments)
    (with_part_bare share (conditions_content s (n + 1) conditions) ∙ conditions_bare s (n + 1) conditions)
    (payment_bare s (n + 1 + length conditions) payments)

rows_bare : (s : Scene) (n : ℕ) (rs : List WayRow) → AllBare (row_elements s n rs)
rows_bare s n [] = refl
rows_bare s n (r ∷ rs) = neither _ _ (row_bare s n r) (rows_bare s (n + row_size r) rs)

contract_bare : (s : Scene) (n : ℕ) (x : Sheet) → AllBare (contract_elements s n x)
unfolding contract_elements
contract_bare s n x =
    neither _ _ (head_bare s.columns (contract_title s.several s.contract ++ fee_words x.fee) [] [] [])
    (neither _ _ (way_bare s n Init 0 (said (codes "all sign; each puts in")) (stake_cell s n x.stakes) refl (stake_bare s n x.stakes))
    (rows_bare s (n + 1) x.ways))

-- ---- the rows of a run

note_bare : (look : Look) (note : List ℕ) → ids_in (note_element look note) ≡ []
note_bare looks.Start note = refl
note_bare looks.Blocks note = refl
note_bare looks.Done note = refl
note_bare looks.Accepted note = refl
note_bare looks.Refused note = refl
note_bare looks.More note = refl
note_bare looks.Halt note = refl

note_content_bare : (look : Look) (note : List ℕ) → ids_inside (note_content look note) ≡ []
note_content_bare look [] = refl
note_content_bare look (b ∷ bytes) = neither _ _ (note_bare look (b ∷ bytes)) refl

changed_bare : (before : Option ℕ) (now : ℕ) (rest : Content) → ids_inside (changed before now rest) ≡ ids_inside rest
changed_bare None now rest = refl
changed_bare (Some before) now rest = by_test (before == now)
  where
    by_test : (same : Bool) → ids_inside (if same then rest else words (sum_text now) rest) ≡ ids_inside rest
    by_test true = refl
    by_test false = refl

mark_bare : (b : Bool) → ids_inside (mark b) ≡ []
mark_bare true = refl
mark_bare false = refl

party_bare : (n : ℕ) (p : List ℕ) (before : Option ℕ) (v : ℕ) (b : Bool) → ids_in (party_cell n p (changed before v (mark b))) ≡ []
party_bare n p before v b =
    sum_cell_bare (codes " " ++ party_look n) p (changed before v (mark b)) ∙ changed_bare before v (mark b) ∙ mark_bare b

parties_bare : (who : Option (List ℕ)) (before : Option Money) (now : Money) (c : Columns) → AllBare (each_party (party_sum who before now) c)
parties_bare who before now c =
    each_bare (party_sum who before now) (λ n p. party_bare n p (sum_before n before) (sum_at n now) (is_actor who p)) 0 c.parties

sum_bare : (name : List ℕ) (before : Option ℕ) (now : ℕ) → ids_in (sum_cell [] name (changed before now nothing)) ≡ []
sum_bare name before now = sum_cell_bare [] name (changed before now nothing) ∙ changed_bare before now nothing

last_sums_bare : (c : Columns) (before : Option Money) (now : Money) → AllBare (last_sums c before now)
last_sums_bare c before now =
    let elsewhere = sum_cell [] (codes "elsewhere") (changed (field (λ m. m.elsewhere) before) now.elsewhere nothing) in
    let fees = sum_cell [] (codes "fees") (changed (field (λ m. m.fees) before) now.fees nothing) in
    neither _ _ (sum_bare (codes "contract") (field (λ m. m.contracts) before) now.contracts)
    (both_bare (if_elsewhere c elsewhere) (fees ∷ [])
    (elsewhere_bare c.elsewhere elsewhere (sum_bare (codes "elsewhere") (field (λ m. m.elsewhere) before) now.elsewhere))
    (neither _ _ (sum_bare (codes "fees") (field (λ m. m.fees) before) now.fees) refl))

event_ids : (c : Columns) (count : ℕ) (before : Option Money) (r : EventRow) → ids_in (event_element c count before r) ≡ id_of r ∷ []
event_ids c count before r =
    ap (λ t. id_of r ∷ t)
    (neither _ _ (note_content_bare r.look r.note)
    (all_ids (each_party (party_sum r.actor before r.money) c ++ last_sums c before r.money)
    ∙ both_bare (each_party (party_sum r.actor before r.money) c) (last_sums c before r.money)
    (parties_bare r.actor before r.money c) (last_sums_bare c before r.money)))

events_ids : (c : Columns) (count : ℕ) (before : Option Money) (rs : List EventRow)
    → flat_map ids_in (event_elements c count before rs) ≡ map id_of rs
events_ids c count before [] = refl
events_ids c count before (r ∷ rs) = λ i. event_ids c count before r i ++ events_ids c count (Some r.money) rs i

end_bare : (c : Columns) (m : Money) → ids_in (end_element c m) ≡ []
end_bare c m =
    all_ids (each_party (party_sum None None m) c ++ last_sums c None m)
    ∙ both_bare (each_party (party_sum None None m) c) (last_sums c None m) (parties_bare None None m c) (last_sums_bare c None m)

run_ids : (c : Columns) (count : ℕ) (rs : List EventRow) (m : Money) → flat_map ids_in (run_elements c count rs m) ≡ map id_of rs
unfolding run_elements
run_ids c count rs m =
    (λ i. head_bare c (codes "the run") (codes "contract") (codes "elsewhere") (codes "fees") i
    ++ flat_map ids_in (event_elements c count None rs ++ end_element c m ∷ []))
    ∙ flat_map-append ids_in (event_elements c count None rs) (end_element c m ∷ [])
    ∙ (λ i. events_ids c count None rs i ++ (end_bare c m i ++ []))
    ∙ append-nil (map id_of rs)

-- ---- the parts of a page

change_bare : (same : Bool) (n : ℕ) (text : List ℕ) (next : Option ℕ) → AllBare (if same then [] else outlook_element n text next ∷ [])
change_bare true n text next = refl
change_bare false n text next = refl

later_bare : (n : ℕ) (last : List ℕ) (ts : List (List ℕ)) → AllBare (outlooks_from n last ts)
later_bare n last [] = refl
later_bare n last (t ∷ ts) =
    both_bare (change_of_outlook n last t ts) (outlooks_from (n + 1) t ts) (change_bare (bytes_eq last t) n t (next_change (n + 1) t ts))
    (later_bare (n + 1) t ts)

outlook_elements_bare : (ts : List (List ℕ)) → AllBare (outlook_elements ts)
outlook_elements_bare [] = refl
outlook_elements_bare (t ∷ ts) = later_bare 1 t ts

outlook_bare : (rows : List EventRow) → ids_in (outlook_part rows) ≡ []
unfolding outlook_part
outlook_bare rows = lines_ids (outlook_elements (outlook_texts rows)) ∙ outlook_elements_bare (outlook_texts rows)

bar_bare : (ps : List (List ℕ)) (m : Money) → ids_in (bar_part ps m) ≡ []
unfolding bar_part
bar_bare ps m =
    let last : List Element =
    bar_piece (codes "in") (codes "contract") m.contracts
    ∷ bar_piece (codes "out") (codes "elsewhere") m.elsewhere
    ∷ bar_piece (codes "fee") (codes "fees") m.fees
    ∷ [] in
    all_ids (each_from (party_piece m) 0 ps ++ last)
    ∙ both_bare (each_from (party_piece m) 0 ps) last (each_bare (party_piece m) (λ n p. refl) 0 ps) refl

slider_ids : (last : ℕ) → ids_in (slider_part last) ≡ codes "range" ∷ codes "said" ∷ []
unfolding slider_part
slider_ids last = refl

bodies_bare : (c : Columns) (several : Bool) (rows : List EventRow) (k n : ℕ) (xs : List Sheet) → AllBare (contract_bodies c several rows k n xs)
bodies_bare c several rows k n [] = refl
bodies_bare c several rows k n (x ∷ xs) =
    neither _ _ (lines_ids (contract_elements (scene c several rows k) n x) ∙ contract_bare (scene c several rows k) n x)
    (bodies_bare c several rows (k + 1) (n + sheet_size x) xs)

table_ids : (p : Picture) (m : Money) → ids_in (table_part p m) ≡ map id_of p.rows
unfolding table_part
table_ids p m =
    let c = columns_of p in
    let bodies = contract_bodies c (nat_lt 1 (length p.sheets)) p.rows 0 0 p.sheets in
    let ids : List (List ℕ) = map id_of p.rows in
    ap (λ t. t ++ [])
    (all_ids (bodies ++ run_body c p.count p.rows m ∷ [])
    ∙ flat_map-append ids_in bodies (run_body c p.count p.rows m ∷ [])
    ∙ (λ i. bodies_bare c (nat_lt 1 (length p.sheets)) p.rows 0 0 p.sheets i
    ++ ((lines_ids (run_elements c p.count p.rows m) ∙ run_ids c p.count p.rows m) i ++ [])))
    ∙ append-nil (ids ++ [])
    ∙ append-nil ids

text_bare : (text : List ℕ) → ids_in (text_part text) ≡ []
unfolding text_part
text_bare text = refl

head_part_bare : (title : List ℕ) → ids_in (head_part title) ≡ []
unfolding head_part
head_part_bare title = refl

body_ids : (title : List ℕ) (p : Picture) (m : Money) → ids_in (body_part title p m) ≡ page_ids p.rows
unfolding body_part
body_ids title p m =
    (λ i. bar_bare p.parties m i
    ++ (slider_ids (length p.rows - 1) i ++ (outlook_bare p.rows i ++ (table_ids p m i ++ (text_bare p.text i ++ [])))))
    ∙ ap (λ t. codes "range" ∷ codes "said" ∷ t) (append-nil (map id_of p.rows))

pub page_has : (title : List ℕ) (p : Picture) → ids_in (page_of title p) ≡ page_ids p.rows
unfolding page_of
page_has title p = (λ i. head_part_bare title i ++ (body_ids title p (last_money p.rows) i ++ [])) ∙ append-nil (page_ids p.rows)

-- ---- the page of a contract alone

sheet_bare : (parties : List (List ℕ)) (x : Sheet) → ids_in (sheet_table parties x) ≡ []
unfolding sheet_table
sheet_bare parties x =
    neither _ _ (neither _ _ (lines_ids (contract_elements (alone parties) 0 x) ∙ contract_bare (alone parties) 0 x) refl) refl

sheet_body_bare : (title : List ℕ) (parties : List (List ℕ)) (x : Sheet) (text : List ℕ) → ids_in (sheet_body title parties x text) ≡ []
unfolding sheet_body
sheet_body_bare title parties x text = neither _ _ (sheet_bare parties x) (neither _ _ (text_bare text) refl)

pub sheet_page_bare : (title : List ℕ) (parties : List (List ℕ)) (x : Sheet) (text : List ℕ) → ids_in (sheet_page title parties x text) ≡ []
unfolding sheet_page
sheet_page_bare title parties x text = neither _ _ (head_part_bare title) (neither _ _ (sheet_body_bare title parties x text) refl)
