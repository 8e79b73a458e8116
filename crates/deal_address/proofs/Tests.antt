-- What is tested of a witness output script.
use Rattle.std.proofs.Common.{◌≡◌, ℕ, suc, ◌<◌, List, [], ◌∷◌, Bool, true, false, refl, ◌∙◌, ap, arith}
use Rattle.std.specs.Prelude.{◌&&◌, nat_lt, slice_index}
use Rattle.spec_address.specs.Address.{are_bytes}

below : (b : ℕ) → b < 256 → nat_lt b 256 ≡ true
below b h = grind (arith, h)

pub bytes_are : (bytes : List ℕ) → ((i : ℕ) → slice_index bytes i < 256) → are_bytes bytes ≡ true
bytes_are [] h = refl
bytes_are (b ∷ bytes) h = ap (λ t. t && are_bytes bytes) (below b (h 0)) ∙ bytes_are bytes (λ i. h (suc i))

-- the third of four tests, where the others are true
pub third_of : (a b fits d : Bool) → a ≡ true → b ≡ true → d ≡ true → fits ≡ (a && (b && (fits && d)))
third_of true true true true h k e = refl
third_of true true false d h k e = refl
third_of true true true false h k e = cc
third_of true false fits d h k e = absurd cc
third_of false b fits d h k e = absurd cc
