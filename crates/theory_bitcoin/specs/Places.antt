-- The places that a transaction spends are places.
use Rattle.std.specs.Prelude.{List, [], ◌∷◌}
use Rattle.spec_bitcoin.specs.declared.tx.TxIn.{TxIn}
use Rattle.spec_bitcoin.specs.Spelling.{IsPlace}

-- what each of these inputs spends is a place
abbrev pub AllPlaces : List TxIn → Type 0
AllPlaces [] = Unit {0}
AllPlaces (i ∷ is) = IsPlace i.prev × AllPlaces is
