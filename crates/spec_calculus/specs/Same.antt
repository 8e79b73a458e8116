-- Sameness of owners, of outputs and of moves.
use Rattle.std.specs.Prelude.{ℕ, ◌&&◌, ◌==◌, Bool, true, false}
use Rattle.std.specs.Str.{bytes_eq}
use Rattle.std.specs.Cmp.Lexicographic.{pointwise}
use Rattle.spec_calculus.specs.declared.step.Owner.{Owner}
use Rattle.spec_calculus.specs.declared.step.Owner.TheVariants.{Party, Outside}
use Rattle.spec_calculus.specs.declared.step.Move.{Move}

-- whether two owners are the same
abbrev pub owner_eq : Owner → Owner → Bool
owner_eq (Party a) (Party b) = bytes_eq a b
owner_eq (Party a) Outside = false
owner_eq Outside (Party b) = false
owner_eq Outside Outside = true

-- whether two outputs have the same owner and value
abbrev pub output_eq : Owner × ℕ → Owner × ℕ → Bool
output_eq a b = owner_eq a.0 b.0 && (a.1 == b.1)

-- whether two moves have the same inputs and outputs, in order
abbrev pub move_eq : Move → Move → Bool
move_eq a b = bytes_eq a.inputs b.inputs && pointwise output_eq a.outputs b.outputs
