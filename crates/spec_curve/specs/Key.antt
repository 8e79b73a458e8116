-- A public key of 33 bytes as a point: a byte 02 or 03 for an even or odd second coordinate, and the first coordinate (SEC 1, section 2.3.4).
use Rattle.std.specs.Prelude.{ℕ, ◌+◌, ◌*◌, ◌%◌, List, [], ◌∷◌, length, Bool, true, false, ◌&&◌, ◌||◌, ◌==◌, if◌then◌else◌, nat_lt, Option, Some, None}
use Rattle.spec_curve.specs.Field.{field_prime, plus, minus, times, root}
use Rattle.spec_curve.specs.Point.{Point, at}

-- the number that bytes spell behind this one, the highest byte first
abbrev pub number_from : ℕ → List ℕ → ℕ
number_from n [] = n
number_from n (b ∷ bytes) = number_from (n * 256 + b) bytes

-- the number that bytes spell, the highest byte first
abbrev pub number_of : List ℕ → ℕ
number_of bytes = number_from 0 bytes

-- x^3 + 7, the square of the second coordinate
unfoldable pub square_at : ℕ → ℕ
square_at x = let p : ℕ = field_prime in plus p (times p x (times p x x)) 7

-- y, or its opposite, whichever is as odd as the sign
unfoldable pub of_sign : ℕ → ℕ → ℕ
of_sign sign y = if y % 2 == sign % 2 then y else minus field_prime 0 y

-- the point of this sign and first coordinate, if the curve has one: the root is tried
unfoldable pub point_at : ℕ → ℕ → Option Point
point_at sign x =
    let y : ℕ = root field_prime (square_at x) in
    if times field_prime y y == square_at x then Some (at x (of_sign sign y)) else None

-- 02 for an even second coordinate, 03 for an odd one
abbrev pub is_sign : ℕ → Bool
is_sign b = b == 2 || b == 3

-- 32 bytes that spell a number of the field
abbrev pub is_coordinate : List ℕ → Bool
is_coordinate bytes = length bytes == 32 && nat_lt (number_of bytes) field_prime

-- the point that a key spells
unfoldable pub point : List ℕ → Option Point
point [] = None
point (sign ∷ bytes) = if is_sign sign && is_coordinate bytes then point_at sign (number_of bytes) else None

-- whether bytes are a key
abbrev pub is_key : List ℕ → Bool
is_key bytes = elim (point bytes) [ Some q ↦ true | None ↦ false ]
