-- What a well-formed SVG is, by XML 1.0 of the W3C as far as an SVG needs it, and what it is that no two texts of it overlap.
use Rattle.std.specs.Prelude.{◌≡◌, ℕ, ◌+◌, List, [], ◌∷◌, map, flat_map, codes, Bool, true, false, not, ◌&&◌, ◌||◌, ◌==◌, nat_le, nat_lt}
use Rattle.std.specs.List.{list_all, list_any}
use Rattle.std.specs.Str.{bytes_eq}
use Rattle.spec_data.specs.Lists.{are_different}
use Rattle.spec_page.specs.Html.{Element, element, void, raw, Content, nothing, words, inner}
use Rattle.spec_page.specs.SvgItems.{size}
use Rattle.spec_page.specs.SvgLayout.{Placed, Drawing}
use Rattle.spec_page.specs.Svg.{svg_document}

-- ---- well-formed

abbrev pub is_letter : ℕ → Bool
is_letter b = nat_le 65 b && nat_le b 90 || nat_le 97 b && nat_le b 122

-- a letter, and then letters, digits and `-`
abbrev pub is_svg_name : List ℕ → Bool
is_svg_name [] = false
is_svg_name (b ∷ bytes) = is_letter b && list_all (λ c. is_letter c || nat_le 48 c && nat_le c 57 || c == 45) bytes

-- attributes have names, which differ within an element
abbrev pub are_svg_attributes : List (List ℕ × List ℕ) → Bool
are_svg_attributes attributes = list_all is_svg_name (map (λ a. a.0) attributes) && are_different (map (λ a. a.0) attributes)

-- what ASCII prints, but no mark that means something in XML
abbrev pub is_plain : ℕ → Bool
is_plain b = nat_le 32 b && nat_le b 126 && not (b == 60) && not (b == 62) && not (b == 38)

abbrev mutual
  -- whether all names in an element are names, each element has its end tag, and what stands as it is means nothing
  pub is_svg_part : Element → Bool
  is_svg_part (element name attributes inside) = is_svg_name name && are_svg_attributes attributes && are_svg_parts inside
  is_svg_part (void name attributes) = false
  is_svg_part (raw name text) = bytes_eq name (codes "style") && list_all is_plain text

  pub are_svg_parts : Content → Bool
  are_svg_parts nothing = true
  are_svg_parts (words text others) = are_svg_parts others
  are_svg_parts (inner first others) = is_svg_part first && are_svg_parts others

-- whether an attribute says that the names are those of SVG
abbrev pub names_svg : List ℕ × List ℕ → Bool
names_svg a = bytes_eq a.0 (codes "xmlns") && bytes_eq a.1 (codes "http://www.w3.org/2000/svg")

abbrev pub is_svg_root : Element → Bool
is_svg_root (element name attributes inside) = bytes_eq name (codes "svg") && list_any names_svg attributes
is_svg_root (void name attributes) = false
is_svg_root (raw name text) = false

-- a text is a well-formed SVG
pub record IsWellFormedSvg (text : List ℕ) : Type 0 where
  pub tree : Element
  pub root : is_svg_root tree ≡ true
  pub parts : is_svg_part tree ≡ true
  pub spelled : text ≡ svg_document tree

-- ---- no two texts overlap

-- two texts stand in different lines, or one ends before the other begins
abbrev pub is_apart : Placed → Placed → Bool
is_apart p q = not (p.line == q.line) || nat_le (p.at + size p.item) q.at || nat_le (q.at + size q.item) p.at

-- each of them and each other
abbrev pub are_apart : List Placed → Bool
are_apart [] = true
are_apart (p ∷ ps) = list_all (is_apart p) ps && are_apart ps

abbrev pub is_within : Drawing → Placed → Bool
is_within d p = nat_lt p.line d.lines && nat_le (p.at + size p.item) d.width

abbrev pub all_places : Drawing → List Placed
all_places d = flat_map (λ r. r.places) d.rows

-- all texts of a drawing stand apart, and none leaves it
pub record StandsApart (d : Drawing) : Type 0 where
  pub apart : are_apart (all_places d) ≡ true
  pub within : list_all (is_within d) (all_places d) ≡ true
