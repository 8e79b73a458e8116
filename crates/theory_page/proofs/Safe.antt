-- What is written as a text or a value stays there, and is read as it is shown.
use Rattle.std.proofs.Common.{◌≡◌, ℕ, List, [], ◌∷◌, ◌++◌, map, Bool, true, false, refl, sym, ap, ◌∙◌}
use Rattle.std.specs.Prelude.{◌&&◌, ◌||◌, ◌==◌, nat_le, if◌then◌else◌, codes}
use Rattle.std.specs.List.{list_all}
use Rattle.std.proofs.lemmas.Bool.Decides.{Decides-eqb}
use Rattle.spec_page.specs.Html.{escaped}
use Rattle.spec_page.specs.Statements.{shown_byte, read_behind, is_inside, TextsAreSafe}

-- ---- one byte, by the tests on it

-- the text of a byte
abbrev by_tests : Bool → Bool → Bool → Bool → Bool → ℕ → List ℕ
by_tests less greater ampersand quotes printed b =
    if less then codes "&lt;"
    else if greater then codes "&gt;"
    else if ampersand then codes "&amp;"
    else if quotes then codes "&quot;"
    else if printed then b ∷ []
    else codes "?"

same_number : (b n : ℕ) → (b == n) ≡ true → b ≡ n
same_number b n h = (Decides-eqb b n).0 h

-- it is read as one byte, and then the rest
reads : (less greater ampersand quotes printed : Bool) (b : ℕ) (rest : List ℕ)
    → (b == 60) ≡ less → (b == 62) ≡ greater → (b == 38) ≡ ampersand → (b == 34) ≡ quotes
    → (b == 10 || nat_le 32 b && nat_le b 126) ≡ printed
    → read_behind 0 (by_tests less greater ampersand quotes printed b ++ rest) ≡ shown_byte b ∷ read_behind 0 rest
reads true greater ampersand quotes printed b rest l g a q p =
    ap (λ x. shown_byte x ∷ read_behind 0 rest) (sym (same_number b 60 l))
reads false true ampersand quotes printed b rest l g a q p =
    ap (λ x. shown_byte x ∷ read_behind 0 rest) (sym (same_number b 62 g))
reads false false true quotes printed b rest l g a q p =
    ap (λ x. shown_byte x ∷ read_behind 0 rest) (sym (same_number b 38 a))
reads false false false true printed b rest l g a q p =
    ap (λ x. shown_byte x ∷ read_behind 0 rest) (sym (same_number b 34 q))
reads false false false false true b rest l g a q p = rw (a, p) refl
reads false false false false false b rest l g a q p = rw p refl

-- none of its bytes leaves its place
stays : (less greater ampersand quotes printed : Bool) (b : ℕ) (rest : List ℕ)
    → (b == 60) ≡ less → (b == 62) ≡ greater → (b == 34) ≡ quotes → list_all is_inside rest ≡ true
    → list_all is_inside (by_tests less greater ampersand quotes printed b ++ rest) ≡ true
stays true greater ampersand quotes printed b rest l g q h = h
stays false true ampersand quotes printed b rest l g q h = h
stays false false true quotes printed b rest l g q h = h
stays false false false true printed b rest l g q h = h
stays false false false false true b rest l g q h = rw (l, g, q) h
stays false false false false false b rest l g q h = h

-- ---- all bytes

all_stay : (bytes : List ℕ) → list_all is_inside (escaped bytes) ≡ true
all_stay [] = refl
all_stay (b ∷ bytes) =
    stays (b == 60) (b == 62) (b == 38) (b == 34) (b == 10 || nat_le 32 b && nat_le b 126) b (escaped bytes) refl refl refl (all_stay bytes)

all_read : (bytes : List ℕ) → read_behind 0 (escaped bytes) ≡ map shown_byte bytes
all_read [] = refl
all_read (b ∷ bytes) =
    reads (b == 60) (b == 62) (b == 38) (b == 34) (b == 10 || nat_le 32 b && nat_le b 126) b (escaped bytes) refl refl refl refl refl
    ∙ ap (λ xs. shown_byte b ∷ xs) (all_read bytes)

pub texts_are_safe : TextsAreSafe
texts_are_safe bytes = record { inside = all_stay bytes; read = all_read bytes }
