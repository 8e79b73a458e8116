-- The text of the rows of a run.
use Rattle.std.proofs.Common.{◌≡◌, ℕ, List, [], ◌∷◌, ◌++◌, refl, sym, ap, ◌∙◌, arith}
use Rattle.std.specs.Prelude.{codes, Bool, true, false, Option, Some, None, length, ◌<◌, ◌==◌, if◌then◌else◌}
use Rattle.std.proofs.lemmas.List.{append-nil}
use Rattle.std.specs.Fmt.{decimal}
use Rattle.spec_page.specs.declared.event_row.EventRow.{EventRow}
use Rattle.spec_page.specs.declared.event_row.Money.{Money}
use Rattle.spec_page.specs.declared.event_row.Look.{Look}
use Rattle.spec_page.specs.Figures.{sum_text}
use Rattle.spec_page.specs.Html.{Content, nothing, words, element_text, content_text, escaped, all_of}
use Rattle.spec_page.specs.Cells.{Columns, sum_cell, each_party}
use Rattle.spec_page.specs.RunPart.{look_word, row_id, money_text, said_text, number_text, note_element, note_content, changed, mark, is_actor, sum_at, sum_before, party_sum, field, last_sums, event_element, end_element}
use Rattle.draw_page.specs.Texts.{text_of, each_text, sum_cell_text, party_cell_text}
use Rattle.draw_page.specs.RunTexts.{changed_text, event_row_text, end_row_text, elsewhere_text}
use Rattle.draw_page.proofs.Onto.{onto_content, content_onto, element_is}
use Rattle.draw_page.proofs.WayLemmas.{two_onto}

pub note_is : (look : Look) (note : List ℕ) → 0 < length note → content_text (note_content look note) ≡ 32 ∷ text_of (note_element look note)
unfolding text_of
note_is look [] h = absurd (omega arith)
note_is look (b ∷ bytes) h = ap (λ text. 32 ∷ text) (append-nil (element_text (note_element look (b ∷ bytes))))

-- ---- sums

changed_is : (before : Option ℕ) (now : ℕ) (rest : Content) → content_text (changed before now rest) ≡ changed_text before now ++ content_text rest
changed_is None now rest = refl
changed_is (Some b) now rest = by_test (b == now)
  where
    by_test : (same : Bool) → content_text (if same then rest else words (sum_text now) rest)
        ≡ (if same then [] else escaped (sum_text now)) ++ content_text rest
    by_test true = refl
    by_test false = refl

pub party_sum_is : (who : Option (List ℕ)) (before : Option Money) (now : Money) (n : ℕ) (party : List ℕ)
    → party_cell_text n party (changed_text (sum_before n before) (sum_at n now) ++ content_text (mark (is_actor who party)))
    ≡ text_of (party_sum who before now n party)
unfolding text_of sum_cell_text
party_sum_is who before now n party =
    ap (λ inside. party_cell_text n party inside) (sym (changed_is (sum_before n before) (sum_at n now) (mark (is_actor who party))))

field_is : (name : List ℕ) (before : Option ℕ) (now : ℕ) → sum_cell_text [] name (changed_text before now) ≡ text_of (sum_cell [] name (changed before now nothing))
unfolding text_of sum_cell_text
field_is name before now =
    ap (λ inside. sum_cell_text [] name inside) (sym (changed_is before now nothing ∙ append-nil (changed_text before now)))

pub last_sums_are : (c : Columns) (before : Option Money) (now : Money)
    → sum_cell_text [] (codes "contract") (changed_text (field (λ m. m.contracts) before) now.contracts)
    ++ (elsewhere_text c.elsewhere (field (λ m. m.elsewhere) before) now.elsewhere
    ++ sum_cell_text [] (codes "fees") (changed_text (field (λ m. m.fees) before) now.fees))
    ≡ each_text (last_sums c before now)
last_sums_are c before now = by_elsewhere c.elsewhere
  where
    fees : sum_cell_text [] (codes "fees") (changed_text (field (λ m. m.fees) before) now.fees)
        ≡ text_of (sum_cell [] (codes "fees") (changed (field (λ m. m.fees) before) now.fees nothing)) ++ []
    fees = field_is (codes "fees") (field (λ m. m.fees) before) now.fees ∙ sym (append-nil _)

    by_elsewhere : (b : Bool)
        → sum_cell_text [] (codes "contract") (changed_text (field (λ m. m.contracts) before) now.contracts)
        ++ (elsewhere_text b (field (λ m. m.elsewhere) before) now.elsewhere
        ++ sum_cell_text [] (codes "fees") (changed_text (field (λ m. m.fees) before) now.fees))
        ≡ each_text (last_sums (record { parties = []; elsewhere = b }) before now)
    by_elsewhere true =
        λ i. field_is (codes "contract") (field (λ m. m.contracts) before) now.contracts i
        ++ (field_is (codes "elsewhere") (field (λ m. m.elsewhere) before) now.elsewhere i ++ fees i)
    by_elsewhere false = λ i. field_is (codes "contract") (field (λ m. m.contracts) before) now.contracts i ++ fees i

-- ---- rows

abbrev event_before : List ℕ → List ℕ → ℕ → List ℕ → List ℕ → List ℕ → List ℕ → List ℕ → List ℕ → List ℕ
event_before look id first money beside numbers lines told rest =
    codes "<tr class=\"ev " ++ (escaped look ++ (codes "\" id=\"" ++ (escaped id ++ (codes "\" data-first=\"" ++ (escaped (decimal first)
    ++ (codes "\" data-money=\"" ++ (escaped money ++ (codes "\" data-said=\"" ++ (escaped beside
    ++ (codes "\"><td class=\"path\"><bdi>" ++ (escaped numbers ++ (codes "</bdi></td><td class=\"what\" title=\"" ++ (escaped lines
    ++ (codes "\">" ++ (escaped told ++ rest)))))))))))))))

pub event_is : (c : Columns) (count : ℕ) (before : Option Money) (r : EventRow)
    → event_row_text (look_word r.look) (row_id r.first r.look) r.first (money_text r.money) (said_text count r) (number_text r r.look) r.lines r.words
    (content_text (note_content r.look r.note)) (each_text (each_party (party_sum r.actor before r.money) c)) (each_text (last_sums c before r.money))
    ≡ text_of (event_element c count before r)
unfolding text_of event_row_text
event_is c count before r =
    sym (element_is (event_element c count before r)
    ∙ ap (λ text. event_before (look_word r.look) (row_id r.first r.look) r.first (money_text r.money) (said_text count r) (number_text r r.look) r.lines r.words text)
    (sym (content_onto (note_content r.look r.note)
    (codes "</td>" ++ onto_content (all_of (each_party (party_sum r.actor before r.money) c ++ last_sums c before r.money)) (codes "</tr>")))
    ∙ ap (λ text. content_text (note_content r.look r.note) ++ (codes "</td>" ++ text))
    (two_onto (each_party (party_sum r.actor before r.money) c) (last_sums c before r.money) (codes "</tr>"))))

pub end_is : (c : Columns) (m : Money)
    → end_row_text (each_text (each_party (party_sum None None m) c)) (each_text (last_sums c None m)) ≡ text_of (end_element c m)
unfolding text_of end_row_text
end_is c m =
    sym (element_is (end_element c m)
    ∙ ap (λ text. codes "<tr class=\"total\"><td></td><td class=\"what\">at the end</td>" ++ text)
    (two_onto (each_party (party_sum None None m) c) (last_sums c None m) (codes "</tr>")))
