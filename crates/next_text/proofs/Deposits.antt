-- The lines of deposits, one after another.
use Rattle.std.proofs.Common.{◌≡◌, ℕ, List, ◌∷◌, ◌++◌}
use Rattle.std.specs.List.{flat_map}
use Rattle.std.proofs.lemmas.List.Concat.{flat_map-cons}
use Rattle.spec_text.specs.RunText.{deposit_text}

pub first_deposit : (d : List ℕ × ℕ) (ds : List (List ℕ × ℕ)) → flat_map deposit_text (d ∷ ds) ≡ deposit_text d ++ flat_map deposit_text ds
first_deposit d ds = flat_map-cons deposit_text d ds
