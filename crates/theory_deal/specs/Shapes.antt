-- What is claimed of the shape of signatures.
use Rattle.std.specs.Prelude.{◌≡◌, ℕ, ◌≤◌, List, length, true, ◌↔◌}
use Rattle.spec_deal.specs.Shape.{HasShape, is_strict}

-- it is found exactly where there are an R and an S that the signature spells
abbrev pub ShapeExactly : Type 0
ShapeExactly = (signature : List ℕ) → (is_strict signature ≡ true) ↔ HasShape signature

-- a signature of the shape has at most 73 bytes
abbrev pub ShapeIsShort : Type 0
ShapeIsShort = (signature : List ℕ) → HasShape signature → length signature ≤ 73
