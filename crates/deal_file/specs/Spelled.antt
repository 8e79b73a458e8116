-- Scripts as words spell them.
use Rattle.std.specs.Prelude.{ℕ, List, Option}
use Rattle.spec_text.specs.Words.{◌>>=◌}
use Rattle.spec_address.specs.Address.{read_address}

-- the script that a word is the address of, where the network is known
abbrev pub address_on : Option (List ℕ) → List ℕ → Option (List ℕ)
address_on network word = network >>= λ part. read_address part word
