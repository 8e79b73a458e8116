-- The text of a page whose parts are written already.
use Rattle.std.specs.Prelude.{ℕ, List, [], ◌∷◌, ◌++◌, ◌-◌, length, codes}
use Rattle.spec_page.specs.declared.event_row.Money.{Money}
use Rattle.spec_page.specs.declared.picture.Picture.{Picture}
use Rattle.spec_page.specs.Html.{Element, escaped}
use Rattle.spec_page.specs.Script.{policy_text}
use Rattle.spec_page.specs.Page.{heading_part, bar_part, slider_part, outlook_part, table_part, text_part}

-- what stands in the head before the style
unfoldable pub head_before : List ℕ → List ℕ
head_before title =
    codes "<head><meta charset=\"utf-8\">\n<meta name=\"viewport\" content=\"width=device-width,initial-scale=1\">\n"
    ++ (codes "<meta http-equiv=\"Content-Security-Policy\" content=\"" ++ (policy_text ++ (codes "\">\n<title>"
    ++ (escaped title ++ codes "</title>\n<style>"))))

-- the parts of the body above the table, and the others
abbrev pub top_elements : List ℕ → Picture → Money → List Element
top_elements title p m = heading_part title p.total ∷ bar_part p.parties m ∷ slider_part (length p.rows - 1) ∷ []

abbrev pub bottom_elements : Picture → Money → List Element
bottom_elements p m = outlook_part p.rows ∷ table_part p m ∷ text_part p.text ∷ []

unfoldable pub document : List ℕ → List ℕ → List ℕ
document head body = codes "<!doctype html>\n<html lang=\"en\">" ++ (head ++ (codes "\n" ++ (body ++ codes "\n</html>\n")))
