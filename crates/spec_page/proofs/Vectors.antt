-- Test vectors: sums, the rows of a contract, and texts.
use Rattle.std.proofs.Common.{◌≡◌, [], ◌∷◌, ◌++◌, refl, Some, None}
use Rattle.std.specs.Prelude.{codes, true, false, nat_le, length}
use Rattle.std.specs.Fmt.{digits}
use Rattle.spec_terms.specs.declared.path.PathStep.TheVariants.{Branch as To, Part as Into}
use Rattle.spec_page.specs.declared.status.Status.TheVariants.{Open, Offered, Taken}
use Rattle.spec_page.specs.declared.way_row.Condition.TheVariants.{Agrees, Block}
use Rattle.spec_page.specs.declared.way_row.WayRow.TheVariants.{Choice, Way}
use Rattle.spec_page.specs.Figures.{sum_text}
use Rattle.spec_page.specs.Ways.{stakes, way_rows}
use Rattle.spec_page.specs.Timeline.{statuses_text, next_change, shown_text}
use Rattle.spec_page.specs.Page.{outlook_elements, outlook_element}
use Rattle.spec_page.specs.Html.{element, void, raw, nothing, words, inner, attribute_text, escaped, element_text, is_well_formed}
use Rattle.spec_page.specs.Style.{style_text}
use Rattle.spec_page.specs.Script.{script_text}
use Rattle.spec_page.proofs.Escrow.{escrow, buyer, seller, mediator}

-- ---- sums

no_money : sum_text 0 ≡ codes "0"
unfolding digits
no_money = refl

three_digits : sum_text 999 ≡ codes "999"
unfolding digits
three_digits = refl

four_digits : sum_text 1000 ≡ codes "1,000"
unfolding digits
four_digits = refl

all_there_is : sum_text 2100000000000000 ≡ codes "2,100,000,000,000,000"
unfolding digits
all_there_is = refl

-- ---- the rows of a contract

escrow_stakes : stakes escrow.pre
    ≡ record { party = buyer; value = 100; volatile = false }
    ∷ record { party = seller; value = 0; volatile = false }
    ∷ record { party = mediator; value = 0; volatile = false } ∷ []
escrow_stakes = refl

-- what the mediator keeps stands in its own row, and the rest is one of two
escrow_rows : way_rows escrow
    ≡ Choice 0 None
    ∷ Way (To 0 ∷ []) 1 None (Agrees buyer ∷ []) (record { party = seller; value = 100; path = To 0 ∷ [] } ∷ [])
    ∷ Way (To 1 ∷ []) 1 None (Agrees seller ∷ []) (record { party = buyer; value = 100; path = To 1 ∷ [] } ∷ [])
    ∷ Way (To 2 ∷ []) 1 None (Agrees mediator ∷ Block 1000 ∷ [])
    (record { party = mediator; value = 3; path = To 2 ∷ Into 0 ∷ To 0 ∷ [] } ∷ [])
    ∷ Choice 2 (Some 97)
    ∷ Way (To 2 ∷ Into 1 ∷ To 0 ∷ []) 3 None (Agrees mediator ∷ [])
    (record { party = seller; value = 97; path = To 2 ∷ Into 1 ∷ To 0 ∷ [] } ∷ [])
    ∷ Way (To 2 ∷ Into 1 ∷ To 1 ∷ []) 3 None (Agrees mediator ∷ [])
    (record { party = buyer; value = 97; path = To 2 ∷ Into 1 ∷ To 1 ∷ [] } ∷ [])
    ∷ []
escrow_rows = refl

-- ---- looks that change

status_line : statuses_text (Open ∷ Open ∷ Offered ∷ Offered ∷ Taken ∷ []) ≡ codes "0:open 2:offered 4:taken"
unfolding digits
status_line = refl

second_text : outlook_elements (codes "a" ∷ codes "a" ∷ codes "b" ∷ codes "a" ∷ [])
    ≡ outlook_element 0 (codes "a") (Some 2) ∷ outlook_element 2 (codes "b") (Some 3) ∷ outlook_element 3 (codes "a") None ∷ []
second_text = refl

no_other_text : next_change 4 (codes "a") (codes "a" ∷ codes "a" ∷ []) ≡ None
no_other_text = refl

text_between : shown_text 2 (Some 3) ≡ codes "0:off 2:on 3:off"
unfolding digits
text_between = refl

-- ---- HTML

marks : escaped (codes "a<b>&\"c" ++ 0 ∷ 10 ∷ 200 ∷ []) ≡ codes "a&lt;b&gt;&amp;&quot;c?" ++ 10 ∷ codes "?"
marks = refl

empty_cell : element_text (element (codes "td") [] nothing) ≡ codes "<td></td>"
unfolding attribute_text
empty_cell = refl

nested : element_text (element (codes "p") ((codes "class", codes "a\"b") ∷ []) (inner (void (codes "meta") []) (words (codes "1<2") nothing)))
    ≡ codes "<p class=\"a&quot;b\"><meta>1&lt;2</p>"
unfolding attribute_text
nested = refl

early_end : is_well_formed (raw (codes "script") (codes "a</script>")) ≡ false
early_end = refl

good_style : is_well_formed (raw (codes "style") style_text) ≡ true
unfolding style_text
good_style = refl

good_script : is_well_formed (raw (codes "script") script_text) ≡ true
unfolding script_text
good_script = refl

short_script : nat_le (length script_text) 2048 ≡ true
unfolding script_text
short_script = refl

twice_named : is_well_formed (element (codes "p") ((codes "id", []) ∷ (codes "id", []) ∷ []) nothing) ≡ false
twice_named = refl
