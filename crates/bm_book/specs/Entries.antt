-- The entries of a book's index: each is a key, and behind it a digest that it has signed.
use Rattle.std.specs.Prelude.{List, ℕ, map, take, drop, length, Bool, ◌==◌}
use Rattle.std.specs.List.{list_all}
use Rattle.spec_bitcoin.specs.Keys.{Pair}

abbrev pub pair_of : List ℕ → Pair
pair_of entry = (take 33 entry, drop 33 entry)

abbrev pub pairs_of : List (List ℕ) → List Pair
pairs_of entries = map pair_of entries

-- whether each entry has the bytes of a key and of a digest
abbrev pub are_entries : List (List ℕ) → Bool
are_entries entries = list_all (λ e. length e == 65) entries
