-- Elements and their text, by the syntax of HTML of the WHATWG, as far as a page needs it.
use Rattle.std.specs.Prelude.{◌≡◌, ℕ, List, [], ◌∷◌, ◌++◌, map, flat_map, codes, Bool, true, false, not, ◌&&◌, ◌||◌, if◌then◌else◌, ◌==◌, nat_le}
use Rattle.std.specs.List.{list_all}
use Rattle.spec_data.specs.Lists.{is_among, are_different}

-- ---- elements

mutual
  pub data Element : Type 0 where
    -- a name, attributes with their values, and what stands between the tags
    element : (name : List ℕ) → (attributes : List (List ℕ × List ℕ)) → (inside : Content) → Element
    -- one that has no end tag
    void : (name : List ℕ) → (attributes : List (List ℕ × List ℕ)) → Element
    -- a style or a script, whose text stands as it is
    raw : (name : List ℕ) → (text : List ℕ) → Element

  pub data Content : Type 0 where
    nothing : Content
    words : (text : List ℕ) → (others : Content) → Content
    inner : (first : Element) → (others : Content) → Content

-- ---- their text

-- A byte as it stands in a text or a value: a mark that means something there by its reference, a line feed and what ASCII prints
-- as it is, and a question mark for any other.
abbrev pub escape : ℕ → List ℕ
escape b =
    if b == 60 then codes "&lt;"
    else if b == 62 then codes "&gt;"
    else if b == 38 then codes "&amp;"
    else if b == 34 then codes "&quot;"
    else if b == 10 || nat_le 32 b && nat_le b 126 then b ∷ []
    else codes "?"

abbrev pub escaped : List ℕ → List ℕ
escaped bytes = flat_map escape bytes

-- the mark around a value
abbrev pub quote : List ℕ
quote = 34 ∷ []

-- an attribute, with a space before it
unfoldable pub attribute_text : List ℕ × List ℕ → List ℕ
attribute_text a = codes " " ++ (a.0 ++ (codes "=" ++ (quote ++ (escaped a.1 ++ quote))))

abbrev pub open_tag : List ℕ → List (List ℕ × List ℕ) → List ℕ
open_tag name attributes = codes "<" ++ (name ++ (flat_map attribute_text attributes ++ codes ">"))

abbrev pub end_tag : List ℕ → List ℕ
end_tag name = codes "</" ++ (name ++ codes ">")

abbrev mutual
  pub element_text : Element → List ℕ
  element_text (element name attributes inside) = open_tag name attributes ++ (content_text inside ++ end_tag name)
  element_text (void name attributes) = open_tag name attributes
  element_text (raw name text) = open_tag name [] ++ (text ++ end_tag name)

  pub content_text : Content → List ℕ
  content_text nothing = []
  content_text (words text others) = escaped text ++ content_text others
  content_text (inner first others) = element_text first ++ content_text others

abbrev pub document_text : Element → List ℕ
document_text e = codes "<!doctype html>" ++ (10 ∷ (element_text e ++ 10 ∷ []))

-- ---- well-formed

-- the elements that have no end tag, of those that a page has
abbrev pub void_names : List (List ℕ)
void_names = codes "meta" ∷ codes "input" ∷ []

-- those whose text stands as it is
abbrev pub raw_names : List (List ℕ)
raw_names = codes "style" ∷ codes "script" ∷ []

abbrev pub is_small_letter : ℕ → Bool
is_small_letter b = nat_le 97 b && nat_le b 122

-- a small letter, and then small letters, digits and `-`
abbrev pub is_html_name : List ℕ → Bool
is_html_name [] = false
is_html_name (b ∷ bytes) = is_small_letter b && list_all (λ c. is_small_letter c || nat_le 48 c && nat_le c 57 || c == 45) bytes

-- attributes have names, which differ within an element
abbrev pub are_attributes : List (List ℕ × List ℕ) → Bool
are_attributes attributes = list_all is_html_name (map (λ a. a.0) attributes) && are_different (map (λ a. a.0) attributes)

-- no `<` stands in a text that stands as it is, so it can't end early
abbrev pub is_raw_text : List ℕ → Bool
is_raw_text text = list_all (λ b. not (b == 60)) text

abbrev mutual
  -- whether all names in an element are names, each of its kind, and raw texts end where they do
  pub is_well_formed : Element → Bool
  is_well_formed (element name attributes inside) =
      is_html_name name && not (is_among name void_names) && not (is_among name raw_names) && are_attributes attributes
      && is_well_formed_inside inside
  is_well_formed (void name attributes) = is_among name void_names && are_attributes attributes
  is_well_formed (raw name text) = is_among name raw_names && is_raw_text text

  pub is_well_formed_inside : Content → Bool
  is_well_formed_inside nothing = true
  is_well_formed_inside (words text others) = is_well_formed_inside others
  is_well_formed_inside (inner first others) = is_well_formed first && is_well_formed_inside others

-- a text is a well-formed page
pub record IsWellFormedPage (text : List ℕ) : Type 0 where
  pub tree : Element
  pub well_formed : is_well_formed tree ≡ true
  pub spelled : text ≡ document_text tree

-- ---- words for writing

-- elements one after another
abbrev pub all_of : List Element → Content
all_of [] = nothing
all_of (e ∷ es) = inner e (all_of es)

-- each with a space behind it
abbrev pub spaced : List Element → Content
spaced [] = nothing
spaced (e ∷ es) = inner e (words (codes " ") (spaced es))

-- each on a line of its own
abbrev pub lines_of : List Element → Content
lines_of [] = nothing
lines_of (e ∷ es) = inner e (words (10 ∷ []) (lines_of es))

abbrev pub said : List ℕ → Content
said text = words text nothing

-- an element of a class
abbrev pub classed : List ℕ → List ℕ → Content → Element
classed name class inside = element name ((codes "class", class) ∷ []) inside
