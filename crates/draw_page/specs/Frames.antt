-- The text of the parts of a page that frame others, whose inside is written already.
use Rattle.std.specs.Prelude.{ℕ, List, [], ◌∷◌, ◌++◌, Bool, codes}
use Rattle.spec_page.specs.declared.event_row.Money.{Money}
use Rattle.spec_page.specs.Html.{Element, element, nothing, words, inner, said, escaped, lines_of}
use Rattle.spec_page.specs.Cells.{each_from}
use Rattle.spec_page.specs.declared.event_row.EventRow.{EventRow}
use Rattle.spec_page.specs.declared.picture.Sheet.{Sheet}
use Rattle.spec_page.specs.ContractPart.{contract_elements}
use Rattle.spec_page.specs.Page.{bar_piece, party_piece, contract_bodies, run_body, alone}

unfoldable pub framed : List ℕ → List ℕ → List ℕ → List ℕ
framed before inside behind = before ++ (inside ++ behind)

-- the pieces of the bar
abbrev pub bar_elements : List (List ℕ) → Money → List Element
bar_elements parties m =
    each_from (party_piece m) 0 parties
    ++ bar_piece (codes "in") (codes "contract") m.contracts
    ∷ bar_piece (codes "out") (codes "elsewhere") m.elsewhere
    ∷ bar_piece (codes "fee") (codes "fees") m.fees
    ∷ []

-- a title, and words beside it
abbrev pub heading : List ℕ → List ℕ → Element
heading title worth = element (codes "h1") [] (words title (inner (element (codes "small") [] (said worth)) nothing))

-- a table of this look
unfoldable pub table_text : List ℕ → List ℕ → List ℕ
table_text look bodies = codes "<div class=\"scroll\"><table class=\"" ++ (escaped look ++ (codes "\">" ++ (bodies ++ codes "</table></div>")))

-- the bodies of the table
unfoldable pub body_elements : List (List ℕ) → Bool → Bool → List EventRow → List Sheet → ℕ → Money → List Element
body_elements parties elsewhere several rows sheets count m =
    contract_bodies (record { parties = parties; elsewhere = elsewhere }) several rows 0 0 sheets
    ++ run_body (record { parties = parties; elsewhere = elsewhere }) count rows m ∷ []

-- the body of the table of a contract alone
abbrev pub sheet_body_element : List (List ℕ) → Sheet → Element
sheet_body_element parties x = element (codes "tbody") [] (lines_of (contract_elements (alone parties) 0 x))
