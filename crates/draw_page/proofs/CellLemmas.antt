-- The text of cells and of a row of heads.
use Rattle.std.proofs.Common.{◌≡◌, ℕ, ◌<◌, List, [], ◌∷◌, ◌++◌, length, refl, ap, ◌∙◌, arith, append_assoc}
use Rattle.std.specs.Prelude.{codes, min, ◌==◌, false}
use Rattle.std.proofs.lemmas.List.{append-nil}
use Rattle.std.proofs.lemmas.Grind.{common_steps}
use Rattle.std.proofs.lemmas.Bool.Decides.{nat_tests}
use Rattle.std.specs.Fmt.{decimal}
use Rattle.spec_page.specs.Html.{content_text, escaped, open_tag, end_tag, all_of}
use Rattle.spec_page.specs.Cells.{Columns, cell_attributes, party_look, party_head, each_party, last_heads, head_row}
use Rattle.draw_page.specs.Texts.{text_of, sum_cell_text, party_cell_text}
use Rattle.draw_page.proofs.Onto.{open_onto}
use Rattle.draw_page.proofs.HtmlLemmas.{attribute_is, all_of_append}

some_length : (n : ℕ) → 0 < n → (n == 0) ≡ false
some_length n h = grind (arith, nat_tests, common_steps)

full_attributes : (look name : List ℕ) (size : ℕ) → 0 < size
    → cell_attributes look name size ≡ (codes "class", codes "sum" ++ look) ∷ (codes "data-of", name) ∷ []
full_attributes look name size h = rw (some_length size h) refl

full_text : (n : ℕ) (party inside : List ℕ)
    → open_tag (codes "td") ((codes "class", codes "sum" ++ (codes " " ++ party_look n)) ∷ (codes "data-of", party) ∷ []) ++ (inside ++ end_tag (codes "td"))
    ≡ codes "<td class=\"sum p" ++ (escaped (decimal (min n 6))
    ++ (codes "\" data-of=\"" ++ (escaped party ++ (codes "\">" ++ (inside ++ codes "</td>")))))
full_text n party inside =
    open_onto (codes "td") ((codes "class", codes "sum" ++ (codes " " ++ party_look n)) ∷ (codes "data-of", party) ∷ []) (inside ++ end_tag (codes "td"))

pub full_cell : (n : ℕ) (party inside : List ℕ) → 0 < length inside
    → party_cell_text n party inside
    ≡ codes "<td class=\"sum p" ++ (escaped (decimal (min n 6))
    ++ (codes "\" data-of=\"" ++ (escaped party ++ (codes "\">" ++ (inside ++ codes "</td>")))))
unfolding sum_cell_text
full_cell n party inside h =
    ap (λ attributes. open_tag (codes "td") attributes ++ (inside ++ end_tag (codes "td"))) (full_attributes (codes " " ++ party_look n) party (length inside) h)
    ∙ full_text n party inside

pub head_row_is : (c : Columns) (what contract elsewhere fees : List ℕ)
    → text_of (head_row c what contract elsewhere fees)
    ≡ codes "<tr class=\"head\"><th></th><th>" ++ (escaped what ++ (codes "</th>"
    ++ ((content_text (all_of (each_party party_head c)) ++ content_text (all_of (last_heads c contract elsewhere fees))) ++ codes "</tr>")))
unfolding text_of
head_row_is c what contract elsewhere fees =
    simp (all_of_append (each_party party_head c) (last_heads c contract elsewhere fees), attribute_is, append_assoc, append-nil)
