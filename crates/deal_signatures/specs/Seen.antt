-- Signatures, places and transactions as they are kept.
use Rattle.std.specs.Prelude.{ℕ, ◌+◌, List, [], ◌∷◌}
use Rattle.spec_deal.specs.declared.signed.Signed.{Signed}
use Rattle.spec_deal.specs.declared.transaction.Transaction.{Transaction}
use Rattle.spec_deal.specs.Transactions.{Required}
use Rattle.deal_signatures.specs.declared.given.Entry.{Entry}
use Rattle.deal_signatures.specs.declared.required.Place.{Place}
use Rattle.deal_signatures.specs.declared.known.Known.{Known}

abbrev pub signed_in : Entry → Signed
signed_in entry = entry.signed

abbrev pub required_in : Place → Required
required_in place = record { spot = record { tx = place.tx; input = place.input; key = place.key }; digest = place.digest }

abbrev pub known_in : Known → List ℕ × ℕ
known_in known = (known.bytes, known.number)

-- the bytes of each transaction with its number, where the first has number k
abbrev pub numbered : ℕ → List Transaction → List (List ℕ × ℕ)
numbered k [] = []
numbered k (t ∷ ts) = (t.bytes, k) ∷ numbered (k + 1) ts
