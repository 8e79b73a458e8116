-- The text of the rows of a contract.
use Rattle.std.proofs.Common.{◌≡◌, ℕ, List, [], ◌∷◌, ◌++◌, refl, sym, ap, ◌∙◌, append_assoc, arith}
use Rattle.std.specs.Prelude.{codes, min, Option, Some, None, length, ◌<◌}
use Rattle.std.proofs.lemmas.List.{append-nil}
use Rattle.std.specs.Fmt.{decimal}
use Rattle.spec_tool.specs.declared.which.Which.{Which}
use Rattle.spec_page.specs.declared.way_row.Condition.{Condition}
use Rattle.spec_page.specs.declared.way_row.Payment.{Payment}
use Rattle.spec_page.specs.declared.way_row.Stake.{Stake}
use Rattle.spec_page.specs.Moments.{move}
use Rattle.spec_page.specs.EventWords.{move_text}
use Rattle.spec_page.specs.Timeline.{end_word, statuses_text, looks_of}
use Rattle.spec_page.specs.Html.{Element, element, Content, nothing, inner, element_text, content_text, escaped, all_of, spaced, classed, said}
use Rattle.spec_page.specs.Cells.{party_cell, each_party, last_cells}
use Rattle.spec_page.specs.ContractPart.{Scene, chips, conditions_content, with_part, sums_to, payment_cell, stake_elements, stake_cell, way_element, no_cell, choice_element}
use Rattle.draw_page.specs.Texts.{text_of, each_text, spaced_text, lines_text, sum_cell_text, party_cell_text}
use Rattle.draw_page.specs.ShareTexts.{share_text}
use Rattle.draw_page.specs.WayTexts.{row_text, way_text, fork_row_text, fork_text}
use Rattle.draw_page.proofs.HtmlLemmas.{all_of_append}
use Rattle.draw_page.proofs.EscapedLemmas.{escaped-append}
use Rattle.draw_page.proofs.Onto.{onto_content, content_onto, element_is}

pub spaced_is : (es : List Element) → content_text (spaced es) ≡ spaced_text es
unfolding text_of
spaced_is [] = refl
spaced_is (e ∷ es) = ap (λ text. element_text e ++ (32 ∷ text)) (spaced_is es)

pub any_is : (s : Scene) (n : ℕ) → content_text (conditions_content s n []) ≡ text_of (classed (codes "span") (codes "any") (said (codes "anyone")))
unfolding text_of
any_is s n = append-nil _

pub conditions_are : (s : Scene) (n : ℕ) (cs : List Condition) → 0 < length cs → content_text (conditions_content s n cs) ≡ spaced_text (chips s n cs)
conditions_are s n [] h = absurd (omega arith)
conditions_are s n (c ∷ cs) h = spaced_is (chips s n (c ∷ cs))

pub with_part_is : (share : Option ℕ) (rest : Content) → content_text (with_part share rest) ≡ share_text share ++ content_text rest
unfolding text_of
with_part_is None rest = refl
with_part_is (Some value) rest = refl

pub spaced_text_append : (xs ys : List Element) → spaced_text (xs ++ ys) ≡ spaced_text xs ++ spaced_text ys
spaced_text_append [] ys = refl
spaced_text_append (x ∷ xs) ys =
    ap (λ text. text_of x ++ (32 ∷ text)) (spaced_text_append xs ys) ∙ sym (append_assoc (text_of x) (32 ∷ spaced_text xs) (spaced_text ys))

cell_is : (n : ℕ) (party : List ℕ) (es : List Element) → party_cell_text n party (spaced_text es) ≡ text_of (party_cell n party (spaced es))
unfolding text_of sum_cell_text
cell_is n party es = ap (λ inside. party_cell_text n party inside) (sym (spaced_is es))

pub payment_cell_is : (s : Scene) (n : ℕ) (payments : List Payment) (column : ℕ) (party : List ℕ)
    → party_cell_text column party (spaced_text (sums_to s party n payments)) ≡ text_of (payment_cell s n payments column party)
payment_cell_is s n payments column party = cell_is column party (sums_to s party n payments)

pub stake_cell_is : (s : Scene) (n : ℕ) (stakes : List Stake) (column : ℕ) (party : List ℕ)
    → party_cell_text column party (spaced_text (stake_elements s n party stakes)) ≡ text_of (stake_cell s n stakes column party)
stake_cell_is s n stakes column party = cell_is column party (stake_elements s n party stakes)

pub lines_text_append : (xs ys : List Element) → lines_text (xs ++ ys) ≡ lines_text xs ++ lines_text ys
lines_text_append [] ys = refl
lines_text_append (x ∷ xs) ys =
    ap (λ text. text_of x ++ (10 ∷ text)) (lines_text_append xs ys) ∙ sym (append_assoc (text_of x) (10 ∷ lines_text xs) (lines_text ys))

-- ---- rows

each_is : (es : List Element) → content_text (all_of es) ≡ each_text es
unfolding text_of
each_is [] = refl
each_is (e ∷ es) = ap (λ text. element_text e ++ text) (each_is es)

-- elements of two lists before a text
pub two_onto : (xs ys : List Element) (rest : List ℕ) → onto_content (all_of (xs ++ ys)) rest ≡ each_text xs ++ (each_text ys ++ rest)
two_onto xs ys rest =
    sym (content_onto (all_of (xs ++ ys)) rest)
    ∙ ap (λ text. text ++ rest) (all_of_append xs ys ∙ (λ i. each_is xs i ++ each_is ys i))
    ∙ append_assoc (each_text xs) (each_text ys) rest

abbrev row_onto : List ℕ → List ℕ → List ℕ → List ℕ → List ℕ
row_onto look at name rest =
    codes "<tr class=\"way d" ++ (look ++ (codes "\" data-at=\"" ++ (escaped at ++ (codes "\"><td class=\"path\"><bdi>" ++ (escaped name
    ++ (codes "</bdi></td><td class=\"what\">" ++ rest))))))

abbrev row_before : List ℕ → List ℕ → List ℕ → ℕ → List ℕ → List ℕ
row_before end at name depth rest =
    codes "<tr class=\"way d" ++ (escaped (decimal depth) ++ (codes " " ++ (escaped end
    ++ (codes "\" data-at=\"" ++ (escaped at ++ (codes "\"><td class=\"path\"><bdi>" ++ (escaped name
    ++ (codes "</bdi></td><td class=\"what\">" ++ rest))))))))

look_is : (depth : ℕ) (end : List ℕ) → escaped ((decimal depth ++ codes " ") ++ end) ≡ escaped (decimal depth) ++ (codes " " ++ escaped end)
look_is depth end =
    escaped-append (decimal depth ++ codes " ") end
    ∙ ap (λ text. text ++ escaped end) (escaped-append (decimal depth) (codes " "))
    ∙ append_assoc (escaped (decimal depth)) (codes " ") (escaped end)

row_is : (end at name : List ℕ) (depth : ℕ) (rest : List ℕ)
    → row_onto (escaped ((decimal depth ++ codes " ") ++ end)) at name rest ≡ row_before end at name depth rest
row_is end at name depth rest =
    ap (λ text. row_onto text at name rest) (look_is depth end)
    ∙ ap (λ text. codes "<tr class=\"way d" ++ text)
    (append_assoc (escaped (decimal depth)) (codes " " ++ escaped end)
    (codes "\" data-at=\"" ++ (escaped at ++ (codes "\"><td class=\"path\"><bdi>" ++ (escaped name ++ (codes "</bdi></td><td class=\"what\">" ++ rest))))))

pub way_is : (s : Scene) (n : ℕ) (x : Which) (depth : ℕ) (inside : Content) (cell : ℕ → List ℕ → Element)
    → way_text s n (move_text s.several (move s.contract x)) depth (content_text inside) (each_text (each_party cell s.columns))
    ≡ text_of (way_element s n x depth inside cell)
unfolding text_of way_text row_text
way_is s n x depth inside cell =
    let end = end_word (looks_of n s.rows) in
    let at = statuses_text (looks_of n s.rows) in
    let name = move_text s.several (move s.contract x) in
    let rest = onto_content (all_of (each_party cell s.columns ++ last_cells s.columns)) (codes "</tr>") in
    sym (element_is (way_element s n x depth inside cell)
    ∙ row_is end at name (min depth 8) (onto_content inside (codes "</td>" ++ rest))
    ∙ ap (λ text. row_before end at name (min depth 8) text)
    (sym (content_onto inside (codes "</td>" ++ rest))
    ∙ ap (λ text. content_text inside ++ (codes "</td>" ++ text)) (two_onto (each_party cell s.columns) (last_cells s.columns) (codes "</tr>"))))

abbrev one_of : Content
one_of = inner (element (codes "b") [] (said (codes "one of"))) nothing

abbrev fork_before : ℕ → List ℕ → List ℕ
fork_before depth rest =
    codes "<tr class=\"fork d" ++ (escaped (decimal depth) ++ (codes "\"><td></td><td class=\"what\">" ++ rest))

pub fork_is : (s : Scene) (depth : ℕ) (share : Option ℕ)
    → fork_text s depth (share_text share) (each_text (each_party no_cell s.columns)) ≡ text_of (choice_element s depth share)
unfolding text_of fork_text fork_row_text
fork_is s depth share =
    sym (element_is (choice_element s depth share)
    ∙ ap (λ text. fork_before (min depth 8) text)
    (sym (content_onto (with_part share one_of) (codes "</td>" ++ onto_content (all_of (each_party no_cell s.columns ++ last_cells s.columns)) (codes "</tr>")))
    ∙ ap (λ text. text ++ (codes "</td>" ++ onto_content (all_of (each_party no_cell s.columns ++ last_cells s.columns)) (codes "</tr>"))) (with_part_is share one_of)
    ∙ append_assoc (share_text share) (codes "<b>one of</b>") (codes "</td>" ++ onto_content (all_of (each_party no_cell s.columns ++ last_cells s.columns)) (codes "</tr>"))
    ∙ ap (λ text. share_text share ++ (codes "<b>one of</b></td>" ++ text)) (two_onto (each_party no_cell s.columns) (last_cells s.columns) (codes "</tr>"))))
