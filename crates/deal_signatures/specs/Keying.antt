-- The byte strings by which signatures and where they are needed are found.
use Rattle.std.specs.Prelude.{ℕ, ◌^◌, List, [], ◌++◌, length, Bool, ◌&&◌, ◌==◌, nat_lt}
use Rattle.spec_bitcoin.specs.Spelling.{word}
use Rattle.spec_deal.specs.declared.signed.Signed.{Signed}
use Rattle.spec_deal.specs.Setting.{no_key}
use Rattle.spec_deal.specs.Transactions.{Spot, Required}

-- a signature of an input of the transaction with these bytes
abbrev pub signed_by : List ℕ → ℕ → List ℕ → List ℕ → Signed
signed_by tx input key signature = record { tx = tx; input = input; key = key; signature = signature; witness = [] }

-- a wallet's witness of it
abbrev pub witnessed_by : List ℕ → ℕ → List (List ℕ) → Signed
witnessed_by tx input items = record { tx = tx; input = input; key = no_key; signature = []; witness = items }

-- the same place without a signature
abbrev pub spot_of : List ℕ → ℕ → List ℕ → Spot
spot_of tx input key = record { tx = tx; input = input; key = key }

-- and the digest that is signed there
abbrev pub required_at : List ℕ → ℕ → List ℕ → List ℕ → Required
required_at tx input key digest = record { spot = spot_of tx input key; digest = digest }

-- the number of the input, the key and the bytes of the transaction
abbrev pub place_key : List ℕ → ℕ → List ℕ → List ℕ
place_key tx input key = word input ++ (key ++ tx)

-- whether the numbers are within their bounds
abbrev pub is_place : ℕ → List ℕ → Bool
is_place input key = nat_lt input (2 ^ 32) && (length key == 33)

abbrev pub signed_key : Signed → List ℕ
signed_key g = place_key g.tx g.input g.key

abbrev pub is_sized : Signed → Bool
is_sized g = is_place g.input g.key

abbrev pub spot_key : Spot → List ℕ
spot_key spot = place_key spot.tx spot.input spot.key

abbrev pub is_spot : Spot → Bool
is_spot spot = is_place spot.input spot.key
