-- The page of a run and its contracts: where the money is, what can be done, the rows of each contract and the rows of the run. What stands
-- in it is the end of the run; a script goes back from there.
use Rattle.std.specs.Prelude.{ℕ, ◌+◌, ◌-◌, List, [], ◌∷◌, ◌++◌, length, map, Bool, false, nat_lt, Option, if◌then◌else◌, codes}
use Rattle.std.specs.Fmt.{decimal}
use Rattle.std.specs.List.{list_any}
use Rattle.std.specs.Str.{bytes_eq}
use Rattle.spec_terms.specs.Advert.{Advert}
use Rattle.spec_terms.specs.Parties.{participants}
use Rattle.spec_run.specs.declared.event.Event.{Event}
use Rattle.spec_run.specs.Setup.{Setup}
use Rattle.spec_run.specs.Translation.{last_or}
use Rattle.spec_page.specs.declared.event_row.EventRow.{EventRow}
use Rattle.spec_page.specs.declared.event_row.Money.{Money}
use Rattle.spec_page.specs.declared.picture.Picture.{Picture}
use Rattle.spec_page.specs.declared.picture.Sheet.{Sheet}
use Rattle.spec_page.specs.Figures.{sum_text}
use Rattle.spec_page.specs.Picture.{sheet, contract_lines, picture}
use Rattle.spec_page.specs.Timeline.{next_change, shown_text, shown_word}
use Rattle.spec_page.specs.Html.{Element, element, void, raw, nothing, words, inner, all_of, lines_of, classed, said, document_text}
use Rattle.spec_page.specs.Style.{style_text}
use Rattle.spec_page.specs.Script.{script_text, policy_text}
use Rattle.spec_page.specs.Cells.{Columns, party_look, each_from, table_look}
use Rattle.spec_page.specs.ContractPart.{Scene, contract_elements, sheet_size}
use Rattle.spec_page.specs.RunPart.{sum_at, run_elements}

-- ---- what can be done

abbrev pub outlook_element : ℕ → List ℕ → Option ℕ → Element
outlook_element n text next =
    element (codes "p") ((codes "class", shown_word next) ∷ (codes "data-at", shown_text n next) ∷ []) (said text)

-- where a text differs from the one before, behind which these come
abbrev pub change_of_outlook : ℕ → List ℕ → List ℕ → List (List ℕ) → List Element
change_of_outlook n last t ts = if bytes_eq last t then [] else outlook_element n t (next_change (n + 1) t ts) ∷ []

-- those of these texts, numbered from n on, that differ from the one before; this one stands before them
abbrev pub outlooks_from : ℕ → List ℕ → List (List ℕ) → List Element
outlooks_from n last [] = []
outlooks_from n last (t ∷ ts) = change_of_outlook n last t ts ++ outlooks_from (n + 1) t ts

-- each text is shown until the next
abbrev pub outlook_elements : List (List ℕ) → List Element
outlook_elements [] = []
outlook_elements (t ∷ ts) = outlook_element 0 t (next_change 1 t ts) ∷ outlooks_from 1 t ts

abbrev pub outlook_texts : List EventRow → List (List ℕ)
outlook_texts rows = map (λ r. r.outlook) rows

unfoldable pub outlook_part : List EventRow → Element
outlook_part rows =
    classed (codes "div") (codes "now")
    (inner (element (codes "b") [] (said (codes "can now:")))
    (words (codes " ") (lines_of (outlook_elements (outlook_texts rows)))))

-- ---- where the money is

abbrev pub bar_piece : List ℕ → List ℕ → ℕ → Element
bar_piece look name value =
    element (codes "div") ((codes "class", look) ∷ (codes "title", name) ∷ (codes "style", codes "flex-grow:" ++ decimal value) ∷ [])
    (inner (element (codes "span") [] (said name)) nothing)

abbrev pub party_piece : Money → ℕ → List ℕ → Element
party_piece m n party = bar_piece (party_look n) party (sum_at n m)

unfoldable pub bar_part : List (List ℕ) → Money → Element
bar_part parties m =
    element (codes "div") ((codes "class", codes "bar") ∷ (codes "title", codes "where the money is") ∷ [])
    (all_of (each_from (party_piece m) 0 parties
    ++ bar_piece (codes "in") (codes "contract") m.contracts
    ∷ bar_piece (codes "out") (codes "elsewhere") m.elsewhere
    ∷ bar_piece (codes "fee") (codes "fees") m.fees
    ∷ []))

-- ---- the slider

unfoldable pub slider_part : ℕ → Element
slider_part last =
    classed (codes "div") (codes "ctl")
    (all_of (void (codes "input")
    ((codes "type", codes "range")
    ∷ (codes "id", codes "range")
    ∷ (codes "min", codes "0")
    ∷ (codes "max", decimal last)
    ∷ (codes "value", decimal last)
    ∷ (codes "aria-label", codes "event")
    ∷ [])
    ∷ element (codes "output") ((codes "id", codes "said") ∷ []) nothing
    ∷ []))

-- ---- the table

-- whether anything is elsewhere in one of the rows
abbrev pub is_elsewhere : List EventRow → Bool
is_elsewhere rows = list_any (λ r. nat_lt 0 r.money.elsewhere) rows

abbrev pub columns_of : Picture → Columns
columns_of p = record { parties = p.parties; elsewhere = is_elsewhere p.rows }

abbrev pub scene : Columns → Bool → List EventRow → ℕ → Scene
scene columns several rows k = record { columns = columns; several = several; contract = k; rows = rows }

-- the bodies of the contracts from number k on, whose parts are numbered from n on
abbrev pub contract_bodies : Columns → Bool → List EventRow → ℕ → ℕ → List Sheet → List Element
contract_bodies c several rows k n [] = []
contract_bodies c several rows k n (x ∷ xs) =
    element (codes "tbody") [] (lines_of (contract_elements (scene c several rows k) n x))
    ∷ contract_bodies c several rows (k + 1) (n + sheet_size x) xs

abbrev pub run_body : Columns → ℕ → List EventRow → Money → Element
run_body c count rows m = element (codes "tbody") [] (lines_of (run_elements c count rows m))

abbrev pub table_of : List (List ℕ) → List Element → Element
table_of parties bodies =
    classed (codes "div") (codes "scroll") (all_of (classed (codes "table") (table_look (length parties)) (all_of bodies) ∷ []))

unfoldable pub table_part : Picture → Money → Element
table_part p m =
    table_of p.parties
    (contract_bodies (columns_of p) (nat_lt 1 (length p.sheets)) p.rows 0 0 p.sheets ++ run_body (columns_of p) p.count p.rows m ∷ [])

-- ---- texts

unfoldable pub text_part : List ℕ → Element
text_part text =
    element (codes "details") []
    (all_of (element (codes "summary") [] (said (codes "the contract's text")) ∷ element (codes "pre") [] (said text) ∷ []))

abbrev pub heading_part : List ℕ → ℕ → Element
heading_part title total =
    element (codes "h1") []
    (words title (inner (element (codes "small") [] (said (sum_text total ++ codes " satoshi in deposits"))) nothing))

-- ---- the page

abbrev pub meta : List (List ℕ × List ℕ) → Element
meta attributes = void (codes "meta") attributes

unfoldable pub head_part : List ℕ → Element
head_part title =
    element (codes "head") []
    (lines_of (meta ((codes "charset", codes "utf-8") ∷ [])
    ∷ meta ((codes "name", codes "viewport") ∷ (codes "content", codes "width=device-width,initial-scale=1") ∷ [])
    ∷ meta ((codes "http-equiv", codes "Content-Security-Policy") ∷ (codes "content", policy_text) ∷ [])
    ∷ element (codes "title") [] (said title)
    ∷ raw (codes "style") style_text
    ∷ []))

-- what everybody has at the end
abbrev pub no_money : Money
no_money = record { parties = []; contracts = 0; elsewhere = 0; fees = 0 }

abbrev pub last_money : List EventRow → Money
last_money rows = last_or no_money (map (λ r. r.money) rows)

unfoldable pub body_part : List ℕ → Picture → Money → Element
body_part title p m =
    element (codes "body") []
    (lines_of (heading_part title p.total
    ∷ bar_part p.parties m
    ∷ slider_part (length p.rows - 1)
    ∷ outlook_part p.rows
    ∷ table_part p m
    ∷ text_part p.text
    ∷ raw (codes "script") script_text
    ∷ []))

abbrev pub html_of : List ℕ → Element → Element
html_of title body = element (codes "html") ((codes "lang", codes "en") ∷ []) (lines_of (head_part title ∷ body ∷ []))

-- the page of a picture, with this title
unfoldable pub page_of : List ℕ → Picture → Element
page_of title p = html_of title (body_part title p (last_money p.rows))

-- that of these events
unfoldable pub page_text : List ℕ → Setup → List Event → List ℕ
page_text title s es = document_text (page_of title (picture s es))

-- ---- the page of a contract alone

abbrev pub alone : List (List ℕ) → Scene
alone parties = scene (record { parties = parties; elsewhere = false }) false [] 0

unfoldable pub sheet_table : List (List ℕ) → Sheet → Element
sheet_table parties x =
    table_of parties (element (codes "tbody") [] (lines_of (contract_elements (alone parties) 0 x)) ∷ [])

-- without a run there is nothing to go through, and no script
unfoldable pub sheet_body : List ℕ → List (List ℕ) → Sheet → List ℕ → Element
sheet_body title parties x text =
    element (codes "body") [] (lines_of (element (codes "h1") [] (said title) ∷ sheet_table parties x ∷ text_part text ∷ []))

unfoldable pub sheet_page : List ℕ → List (List ℕ) → Sheet → List ℕ → Element
sheet_page title parties x text = html_of title (sheet_body title parties x text)

-- the page of a contract, with this title
unfoldable pub contract_text : List ℕ → Advert → List ℕ
contract_text title a = document_text (sheet_page title (participants a) (sheet a) (contract_lines (a ∷ [])))
