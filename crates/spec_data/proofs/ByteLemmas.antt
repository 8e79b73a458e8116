-- Lists whose elements are bytes.
use Rattle.std.proofs.Common.{ℕ, ◌-◌, List, ◌++◌, length, inl, inr, refl}
use Rattle.std.proofs.lemmas.Bool.{cases_lt}
use Rattle.std.proofs.lemmas.List.{get_or_append_left, get_or-append_right}
use Rattle.spec_data.specs.Hashes.{IsBytes}

pub IsBytes-append : (a b : List ℕ) → IsBytes a → IsBytes b → IsBytes (a ++ b)
IsBytes-append a b ha hb i =
    elim (cases_lt i (length a)) [
      | inl lt ↦ rw (get_or_append_left a b 0 i lt) (ha i)
      | inr le ↦ rw (get_or-append_right a b (length a) i 0 refl le) (hb (i - length a))
    ]
