-- The text of the parts of a page.
use Rattle.std.proofs.Common.{◌≡◌, ℕ, List, [], ◌∷◌, ◌++◌, length, refl, sym, ap, ◌∙◌, append_assoc}
use Rattle.std.specs.Prelude.{codes, Bool, nat_lt}
use Rattle.std.proofs.lemmas.List.{append-nil}
use Rattle.spec_page.specs.declared.event_row.EventRow.{EventRow}
use Rattle.spec_page.specs.declared.event_row.Money.{Money}
use Rattle.spec_page.specs.declared.picture.Picture.{Picture}
use Rattle.spec_page.specs.declared.picture.Sheet.{Sheet}
use Rattle.spec_page.specs.Html.{Element, element, raw, element_text, content_text, escaped, all_of, lines_of, document_text}
use Rattle.spec_page.specs.Style.{style_text}
use Rattle.spec_page.specs.Script.{script_text, policy_text}
use Rattle.spec_page.specs.Cells.{each_from, table_look}
use Rattle.spec_page.specs.Page.{outlook_part, outlook_elements, outlook_texts, bar_part, bar_piece, party_piece, columns_of, contract_bodies, run_body, is_elsewhere, table_of, table_part, head_part, body_part, last_money, page_of}
use Rattle.draw_page.specs.Texts.{text_of, each_text, lines_text}
use Rattle.draw_page.specs.Frames.{framed, bar_elements, body_elements, table_text}
use Rattle.draw_page.specs.Documents.{head_before, top_elements, bottom_elements, document}
use Rattle.draw_page.proofs.Onto.{onto_element, onto_content, content_onto, element_onto, element_is}
use Rattle.draw_page.proofs.WayLemmas.{lines_text_append}

pub each_text_append : (xs ys : List Element) → each_text (xs ++ ys) ≡ each_text xs ++ each_text ys
each_text_append [] ys = refl
each_text_append (x ∷ xs) ys = ap (λ text. text_of x ++ text) (each_text_append xs ys) ∙ sym (append_assoc (text_of x) (each_text xs) (each_text ys))

each_is : (es : List Element) → content_text (all_of es) ≡ each_text es
unfolding text_of
each_is [] = refl
each_is (e ∷ es) = ap (λ text. element_text e ++ text) (each_is es)

lines_are : (es : List Element) → content_text (lines_of es) ≡ lines_text es
unfolding text_of
lines_are [] = refl
lines_are (e ∷ es) = ap (λ text. element_text e ++ (10 ∷ text)) (lines_are es)

each_onto : (es : List Element) (rest : List ℕ) → onto_content (all_of es) rest ≡ each_text es ++ rest
each_onto es rest = sym (content_onto (all_of es) rest) ∙ ap (λ text. text ++ rest) (each_is es)

pub lines_onto : (es : List Element) (rest : List ℕ) → onto_content (lines_of es) rest ≡ lines_text es ++ rest
lines_onto es rest = sym (content_onto (lines_of es) rest) ∙ ap (λ text. text ++ rest) (lines_are es)

pub bar_is : (parties : List (List ℕ)) (m : Money)
    → framed (codes "<div class=\"bar\" title=\"where the money is\">") (each_text (bar_elements parties m)) (codes "</div>") ≡ text_of (bar_part parties m)
unfolding text_of framed bar_part
bar_is parties m =
    sym (element_is (bar_part parties m)
    ∙ ap (λ text. codes "<div class=\"bar\" title=\"where the money is\">" ++ text) (each_onto (bar_elements parties m) (codes "</div>")))

pub now_is : (rows : List EventRow)
    → framed (codes "<div class=\"now\"><b>can now:</b> ") (lines_text (outlook_elements (outlook_texts rows))) (codes "</div>") ≡ text_of (outlook_part rows)
unfolding text_of framed outlook_part
now_is rows =
    sym (element_is (outlook_part rows)
    ∙ ap (λ text. codes "<div class=\"now\"><b>can now:</b> " ++ text) (lines_onto (outlook_elements (outlook_texts rows)) (codes "</div>")))

pub body_is : (es : List Element) → framed (codes "<tbody>") (lines_text es) (codes "</tbody>") ≡ text_of (element (codes "tbody") [] (lines_of es))
unfolding text_of framed
body_is es =
    sym (element_is (element (codes "tbody") [] (lines_of es)) ∙ ap (λ text. codes "<tbody>" ++ text) (lines_onto es (codes "</tbody>")))

pub table_is : (parties : List (List ℕ)) (bodies : List Element)
    → table_text (table_look (length parties)) (each_text bodies) ≡ text_of (table_of parties bodies)
unfolding text_of table_text
table_is parties bodies =
    sym (element_is (table_of parties bodies)
    ∙ ap (λ text. codes "<div class=\"scroll\"><table class=\"" ++ (escaped (table_look (length parties)) ++ (codes "\">" ++ text)))
    (each_onto bodies (codes "</table></div>")))

pub bar_elements_are : (parties : List (List ℕ)) (m : Money)
    → ((each_text (each_from (party_piece m) 0 parties) ++ text_of (bar_piece (codes "in") (codes "contract") m.contracts))
    ++ text_of (bar_piece (codes "out") (codes "elsewhere") m.elsewhere))
    ++ text_of (bar_piece (codes "fee") (codes "fees") m.fees)
    ≡ each_text (bar_elements parties m)
bar_elements_are parties m =
    append_assoc (each_text (each_from (party_piece m) 0 parties) ++ text_of (bar_piece (codes "in") (codes "contract") m.contracts))
    (text_of (bar_piece (codes "out") (codes "elsewhere") m.elsewhere)) (text_of (bar_piece (codes "fee") (codes "fees") m.fees))
    ∙ append_assoc (each_text (each_from (party_piece m) 0 parties)) (text_of (bar_piece (codes "in") (codes "contract") m.contracts))
    (text_of (bar_piece (codes "out") (codes "elsewhere") m.elsewhere) ++ text_of (bar_piece (codes "fee") (codes "fees") m.fees))
    ∙ ap (λ text. each_text (each_from (party_piece m) 0 parties) ++ (text_of (bar_piece (codes "in") (codes "contract") m.contracts)
    ++ (text_of (bar_piece (codes "out") (codes "elsewhere") m.elsewhere) ++ text)))
    (sym (append-nil (text_of (bar_piece (codes "fee") (codes "fees") m.fees))))
    ∙ sym (each_text_append (each_from (party_piece m) 0 parties)
    (bar_piece (codes "in") (codes "contract") m.contracts ∷ bar_piece (codes "out") (codes "elsewhere") m.elsewhere
    ∷ bar_piece (codes "fee") (codes "fees") m.fees ∷ []))

pub body_elements_are : (parties : List (List ℕ)) (elsewhere several : Bool) (rows : List EventRow) (sheets : List Sheet) (count : ℕ) (m : Money)
    → each_text (contract_bodies (record { parties = parties; elsewhere = elsewhere }) several rows 0 0 sheets)
    ++ text_of (run_body (record { parties = parties; elsewhere = elsewhere }) count rows m)
    ≡ each_text (body_elements parties elsewhere several rows sheets count m)
unfolding body_elements
body_elements_are parties elsewhere several rows sheets count m =
    ap (λ text. each_text (contract_bodies (record { parties = parties; elsewhere = elsewhere }) several rows 0 0 sheets) ++ text)
    (sym (append-nil (text_of (run_body (record { parties = parties; elsewhere = elsewhere }) count rows m))))
    ∙ sym (each_text_append (contract_bodies (record { parties = parties; elsewhere = elsewhere }) several rows 0 0 sheets)
    (run_body (record { parties = parties; elsewhere = elsewhere }) count rows m ∷ []))

pub table_part_is : (p : Picture) (m : Money)
    → table_text (table_look (length p.parties)) (each_text (body_elements p.parties (is_elsewhere p.rows) (nat_lt 1 (length p.sheets)) p.rows p.sheets p.count m))
    ≡ text_of (table_part p m)
unfolding body_elements table_part
table_part_is p m =
    table_is p.parties (contract_bodies (columns_of p) (nat_lt 1 (length p.sheets)) p.rows 0 0 p.sheets ++ run_body (columns_of p) p.count p.rows m ∷ [])

-- ---- the page

abbrev before_title : List ℕ
before_title =
    codes "<head><meta charset=\"utf-8\">\n<meta name=\"viewport\" content=\"width=device-width,initial-scale=1\">\n"
    ++ (codes "<meta http-equiv=\"Content-Security-Policy\" content=\"" ++ (policy_text ++ codes "\">\n<title>"))

pub head_is : (title : List ℕ) → head_before title ++ (style_text ++ codes "</style>\n</head>") ≡ text_of (head_part title)
unfolding text_of head_before head_part
head_is title =
    ap (λ text. before_title ++ text) (append_assoc (escaped title) (codes "</title>\n<style>") (style_text ++ codes "</style>\n</head>"))
    ∙ sym (element_is (head_part title))

pub whole_body_is : (title : List ℕ) (p : Picture) (m : Money)
    → framed (codes "<body>")
    (lines_text (top_elements title p m) ++ (lines_text (bottom_elements p m) ++ (text_of (raw (codes "script") script_text) ++ codes "\n"))) (codes "</body>")
    ≡ text_of (body_part title p m)
unfolding text_of framed body_part
whole_body_is title p m =
    ap (λ text. codes "<body>" ++ (text ++ codes "</body>"))
    (sym (lines_text_append (top_elements title p m) (bottom_elements p m ++ raw (codes "script") script_text ∷ [])
    ∙ ap (λ text. lines_text (top_elements title p m) ++ text) (lines_text_append (bottom_elements p m) (raw (codes "script") script_text ∷ []))))
    ∙ sym (element_is (body_part title p m)
    ∙ ap (λ text. codes "<body>" ++ text) (lines_onto (top_elements title p m ++ bottom_elements p m ++ raw (codes "script") script_text ∷ []) (codes "</body>")))

pub page_is : (title : List ℕ) (p : Picture) → document (text_of (head_part title)) (text_of (body_part title p (last_money p.rows))) ≡ document_text (page_of title p)
unfolding text_of document page_of
page_is title p =
    ap (λ text. codes "<!doctype html>\n" ++ text)
    (sym (element_onto (page_of title p) (codes "\n")
    ∙ ap (λ text. codes "<html lang=\"en\">" ++ text)
    (sym (element_onto (head_part title) (codes "\n" ++ onto_element (body_part title p (last_money p.rows)) (codes "\n</html>\n")))
    ∙ ap (λ text. element_text (head_part title) ++ (codes "\n" ++ text)) (sym (element_onto (body_part title p (last_money p.rows)) (codes "\n</html>\n"))))))
