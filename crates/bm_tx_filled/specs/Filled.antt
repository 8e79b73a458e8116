-- An input with the witness that is put to it.
use Rattle.std.specs.Prelude.{ℕ, List, Option, Some, None}
use Rattle.spec_bitcoin.specs.declared.tx.TxIn.{TxIn}

-- the input with this witness, if there is one
abbrev pub input_with : TxIn → Option (List (List ℕ)) → TxIn
input_with input None = input
input_with input (Some witness) = record input { witness = witness }
