-- The byte strings by which needs and values are found: each kind begins with a byte of its own.
use Rattle.std.specs.Prelude.{ℕ, ◌^◌, List, [], ◌∷◌, ◌++◌, Bool, true, false, nat_lt}
use Rattle.spec_bitcoin.specs.Keys.{label_text}
use Rattle.spec_bitcoin.specs.Spelling.{word}
use Rattle.spec_bitcoin.specs.declared.tx.OutPoint.{OutPoint}
use Rattle.spec_deal.specs.declared.deal.Needed.{Needed}
use Rattle.spec_deal.specs.declared.deal.Needed.TheVariants as needs
use Rattle.spec_deal.specs.declared.entry.Value.{Value}
use Rattle.spec_deal.specs.declared.entry.Value.TheVariants as values

abbrev pub need_key : Needed → List ℕ
need_key (needs.Key label) = 75 ∷ label_text label
need_key (needs.Deposit name) = 68 ∷ name
need_key (needs.Hash name) = 72 ∷ name
need_key needs.Network = 78 ∷ []
need_key (needs.Payee party) = 80 ∷ party

-- whether a value may be given once alone: such a value is found by its key
abbrev pub is_unique : Value → Bool
is_unique (values.Key bytes) = true
is_unique (values.Place outpoint) = true
is_unique (values.Wallet outpoint own) = true
is_unique (values.Hash bytes) = true
is_unique (values.Network part) = false
is_unique (values.Script bytes) = false

-- the place of a deposit, whoever brings it
abbrev pub place_key : OutPoint → List ℕ
place_key outpoint = 68 ∷ (word outpoint.vout ++ outpoint.txid)

abbrev pub value_key : Value → List ℕ
value_key (values.Key bytes) = 75 ∷ bytes
value_key (values.Place outpoint) = place_key outpoint
value_key (values.Wallet outpoint own) = place_key outpoint
value_key (values.Hash bytes) = 72 ∷ bytes
value_key (values.Network part) = 78 ∷ part
value_key (values.Script bytes) = 83 ∷ bytes

-- whether the numbers of a value are within their bounds
abbrev pub is_sized : Value → Bool
is_sized (values.Key bytes) = true
is_sized (values.Place outpoint) = nat_lt outpoint.vout (2 ^ 32)
is_sized (values.Wallet outpoint own) = nat_lt outpoint.vout (2 ^ 32)
is_sized (values.Hash bytes) = true
is_sized (values.Network part) = true
is_sized (values.Script bytes) = true
