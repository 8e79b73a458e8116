-- The text of the page of a contract alone.
use Rattle.std.proofs.Common.{◌≡◌, ℕ, List, [], ◌∷◌, ◌++◌, sym, ap, ◌∙◌}
use Rattle.std.specs.Prelude.{codes}
use Rattle.spec_page.specs.declared.picture.Sheet.{Sheet}
use Rattle.spec_page.specs.Html.{element, element_text, said, document_text}
use Rattle.spec_page.specs.Page.{head_part, text_part, sheet_table, sheet_body, sheet_page}
use Rattle.draw_page.specs.Texts.{text_of}
use Rattle.draw_page.specs.Frames.{framed}
use Rattle.draw_page.specs.Documents.{document}
use Rattle.draw_page.proofs.Onto.{onto_element, element_onto, element_is}
use Rattle.draw_page.proofs.PageLemmas.{lines_onto}

pub sheet_body_is : (title : List ℕ) (parties : List (List ℕ)) (x : Sheet) (text : List ℕ)
    → framed (codes "<body>")
    (text_of (element (codes "h1") [] (said title)) ++ (10 ∷ (text_of (sheet_table parties x) ++ (10 ∷ (text_of (text_part text) ++ 10 ∷ []))))) (codes "</body>")
    ≡ text_of (sheet_body title parties x text)
unfolding text_of framed sheet_body
sheet_body_is title parties x text =
    sym (element_is (sheet_body title parties x text)
    ∙ ap (λ inside. codes "<body>" ++ inside)
    (lines_onto (element (codes "h1") [] (said title) ∷ sheet_table parties x ∷ text_part text ∷ []) (codes "</body>")))

pub sheet_page_is : (title : List ℕ) (parties : List (List ℕ)) (x : Sheet) (text : List ℕ)
    → document (text_of (head_part title)) (text_of (sheet_body title parties x text)) ≡ document_text (sheet_page title parties x text)
unfolding text_of document sheet_page
sheet_page_is title parties x text =
    ap (λ all. codes "<!doctype html>\n" ++ all)
    (sym (element_onto (sheet_page title parties x text) (codes "\n")
    ∙ ap (λ all. codes "<html lang=\"en\">" ++ all)
    (sym (element_onto (head_part title) (codes "\n" ++ onto_element (sheet_body title parties x text) (codes "\n</html>\n")))
    ∙ ap (λ all. element_text (head_part title) ++ (codes "\n" ++ all)) (sym (element_onto (sheet_body title parties x text) (codes "\n</html>\n"))))))
