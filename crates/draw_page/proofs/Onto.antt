-- The text of an element before a text, as it is read from left to right.
use Rattle.std.proofs.Common.{◌≡◌, ℕ, List, [], ◌∷◌, ◌++◌, refl, sym, ap, ◌∙◌, append_assoc}
use Rattle.std.specs.Prelude.{Result, Ok, Err, OnOk, flat_map}
use Rattle.std.proofs.lemmas.List.{append-nil}
use Rattle.spec_page.specs.Html.{Element, element, void, raw, Content, nothing, words, inner, element_text, content_text, escaped, attribute_text, open_tag, end_tag}
use Rattle.draw_page.specs.Texts.{text_of}

abbrev pub onto_attributes : List (List ℕ × List ℕ) → List ℕ → List ℕ
onto_attributes [] rest = rest
onto_attributes (a ∷ attributes) rest = 32 ∷ (a.0 ++ (61 ∷ 34 ∷ (escaped a.1 ++ (34 ∷ onto_attributes attributes rest))))

abbrev mutual
  pub onto_element : Element → List ℕ → List ℕ
  onto_element (element name attributes inside) rest =
      60 ∷ (name ++ onto_attributes attributes (62 ∷ onto_content inside (60 ∷ 47 ∷ (name ++ (62 ∷ rest)))))
  onto_element (void name attributes) rest = 60 ∷ (name ++ onto_attributes attributes (62 ∷ rest))
  onto_element (raw name text) rest = 60 ∷ (name ++ (62 ∷ (text ++ (60 ∷ 47 ∷ (name ++ (62 ∷ rest))))))

  pub onto_content : Content → List ℕ → List ℕ
  onto_content nothing rest = rest
  onto_content (words text others) rest = escaped text ++ onto_content others rest
  onto_content (inner first others) rest = onto_element first (onto_content others rest)

-- ---- it is the text and then the other text

three : (a b c d : List ℕ) → ((a ++ b) ++ c) ++ d ≡ a ++ (b ++ (c ++ d))
three a b c d = append_assoc (a ++ b) c d ∙ append_assoc a b (c ++ d)

attribute_onto : (name value rest : List ℕ) → attribute_text (name, value) ++ rest ≡ 32 ∷ (name ++ (61 ∷ 34 ∷ (escaped value ++ (34 ∷ rest))))
unfolding attribute_text
attribute_onto name value rest =
    ap (λ text. 32 ∷ text)
    (append_assoc name (61 ∷ 34 ∷ (escaped value ++ 34 ∷ [])) rest
    ∙ ap (λ text. name ++ (61 ∷ 34 ∷ text)) (append_assoc (escaped value) (34 ∷ []) rest))

attributes_onto : (attributes : List (List ℕ × List ℕ)) (rest : List ℕ) → flat_map attribute_text attributes ++ rest ≡ onto_attributes attributes rest
attributes_onto [] rest = refl
attributes_onto (a ∷ attributes) rest =
    append_assoc (attribute_text a) (flat_map attribute_text attributes) rest
    ∙ attribute_onto a.0 a.1 (flat_map attribute_text attributes ++ rest)
    ∙ ap (λ text. 32 ∷ (a.0 ++ (61 ∷ 34 ∷ (escaped a.1 ++ (34 ∷ text))))) (attributes_onto attributes rest)

pub open_onto : (name : List ℕ) (attributes : List (List ℕ × List ℕ)) (rest : List ℕ)
    → open_tag name attributes ++ rest ≡ 60 ∷ (name ++ onto_attributes attributes (62 ∷ rest))
open_onto name attributes rest =
    ap (λ text. 60 ∷ text)
    (append_assoc name (flat_map attribute_text attributes ++ 62 ∷ []) rest
    ∙ ap (λ text. name ++ text) (append_assoc (flat_map attribute_text attributes) (62 ∷ []) rest ∙ attributes_onto attributes (62 ∷ rest)))

end_onto : (name rest : List ℕ) → end_tag name ++ rest ≡ 60 ∷ 47 ∷ (name ++ (62 ∷ rest))
end_onto name rest = ap (λ text. 60 ∷ 47 ∷ text) (append_assoc name (62 ∷ []) rest)

mutual
  pub element_onto : (e : Element) (rest : List ℕ) → element_text e ++ rest ≡ onto_element e rest
  element_onto (element name attributes inside) rest =
      append_assoc (open_tag name attributes) (content_text inside ++ end_tag name) rest
      ∙ open_onto name attributes ((content_text inside ++ end_tag name) ++ rest)
      ∙ ap (λ text. 60 ∷ (name ++ onto_attributes attributes (62 ∷ text)))
      (append_assoc (content_text inside) (end_tag name) rest
      ∙ content_onto inside (end_tag name ++ rest)
      ∙ ap (λ text. onto_content inside text) (end_onto name rest))
  element_onto (void name attributes) rest = open_onto name attributes rest
  element_onto (raw name text) rest =
      append_assoc (open_tag name []) (text ++ end_tag name) rest
      ∙ open_onto name [] ((text ++ end_tag name) ++ rest)
      ∙ ap (λ after. 60 ∷ (name ++ (62 ∷ after))) (append_assoc text (end_tag name) rest ∙ ap (λ after. text ++ after) (end_onto name rest))

  pub content_onto : (c : Content) (rest : List ℕ) → content_text c ++ rest ≡ onto_content c rest
  content_onto nothing rest = refl
  content_onto (words text others) rest =
      append_assoc (escaped text) (content_text others) rest ∙ ap (λ after. escaped text ++ after) (content_onto others rest)
  content_onto (inner first others) rest =
      append_assoc (element_text first) (content_text others) rest
      ∙ element_onto first (content_text others ++ rest)
      ∙ ap (λ after. onto_element first after) (content_onto others rest)

-- ---- the text alone

pub element_is : (e : Element) → element_text e ≡ onto_element e []
element_is e = sym (append-nil (element_text e)) ∙ element_onto e []

pub content_is : (c : Content) → content_text c ≡ onto_content c []
content_is c = sym (append-nil (content_text c)) ∙ content_onto c []

-- what is put, by another name of it
pub put_same : {T E : Type 0} (r : Result T E) (new old a b : List ℕ) → a ≡ b → OnOk r (new ≡ old ++ a) → OnOk r (new ≡ old ++ b)
put_same (Ok t) new old a b e h = h ∙ ap (λ text. old ++ text) e
put_same (Err t) new old a b e h = h

pub put_text : {T E : Type 0} (r : Result T E) (new old : List ℕ) (e : Element) → OnOk r (new ≡ old ++ onto_element e []) → OnOk r (new ≡ old ++ text_of e)
unfolding text_of
put_text r new old e h = put_same r new old (onto_element e []) (element_text e) (sym (element_is e)) h
