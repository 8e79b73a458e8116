-- Words on lists that several definitions use: the first of several answers, membership, difference, look-ups by name.
use Rattle.std.specs.Prelude.{◌≡◌, ℕ, ◌+◌, List, [], ◌∷◌, Bool, true, false, not, ◌&&◌, if◌then◌else◌, ◌==◌, Option, Some, None}
use Rattle.std.specs.List.{list_any}
use Rattle.std.specs.Str.{bytes_eq}

-- ---- the first of several tests

-- the place of the first test that is false, counted from n, and 0 where all are true
abbrev pub first_false : ℕ → List Bool → ℕ
first_false n [] = 0
first_false n (b ∷ bs) = if b then first_false (n + 1) bs else n

-- each of the tests is true
abbrev pub AllTrue : List Bool → Type 0
AllTrue [] = Unit {0}
AllTrue (b ∷ bs) = (b ≡ true) × AllTrue bs

-- the answer beside the first test that is true
abbrev pub first_reason : {R : Type 0} → List (Bool × R) → Option R
first_reason [] = None
first_reason (p ∷ ps) = if p.0 then Some (p.1) else first_reason ps

-- each test of a row is false
abbrev pub NoneTrue : {R : Type 0} → List (Bool × R) → Type 0
NoneTrue [] = Unit {0}
NoneTrue (p ∷ ps) = (p.0 ≡ false) × NoneTrue ps

-- the first, and without it the second
abbrev pub or_else : {R : Type 0} → Option R → Option R → Option R
or_else (Some r) later = Some r
or_else None later = later

-- the first answer that a list gives, element by element
abbrev pub first_answer : {X R : Type 0} → (X → Option R) → List X → Option R
first_answer f [] = None
first_answer f (x ∷ xs) = or_else (f x) (first_answer f xs)

-- ---- byte strings and numbers in lists

-- whether the byte string stands in the list
abbrev pub is_among : List ℕ → List (List ℕ) → Bool
is_among text texts = list_any (λ t. bytes_eq t text) texts

-- whether no byte string stands twice
abbrev pub are_different : List (List ℕ) → Bool
are_different [] = true
are_different (t ∷ ts) = not (is_among t ts) && are_different ts

-- whether the number stands in the list
abbrev pub has_number : ℕ → List ℕ → Bool
has_number number numbers = list_any (λ n. n == number) numbers

-- whether no number stands twice
abbrev pub are_distinct : List ℕ → Bool
are_distinct [] = true
are_distinct (n ∷ ns) = not (has_number n ns) && are_distinct ns

-- ---- look-ups by name

-- what stands beside the name, the first time that it comes
abbrev pub look_up : {V : Type 0} → List ℕ → List (List ℕ × V) → Option V
look_up name [] = None
look_up name (p ∷ ps) = if bytes_eq (p.0) name then Some (p.1) else look_up name ps
