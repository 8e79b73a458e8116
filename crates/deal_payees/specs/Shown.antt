-- An output script as it is shown, and its address.
use Rattle.std.specs.Prelude.{ℕ, List, [], ◌∷◌, ◌++◌, Option, Some, None}
use Rattle.spec_data.specs.Digits.{hex_text}
use Rattle.spec_address.specs.Address.{address}

abbrev pub address_in : List ℕ → List ℕ → Option (List ℕ)
address_in hrp script = address hrp script

-- a text behind a space, if there is one
abbrev pub behind_space : Option (List ℕ) → List ℕ
behind_space None = []
behind_space (Some text) = 32 ∷ text

abbrev pub address_text : Option (List ℕ) → List ℕ → List ℕ
address_text None script = []
address_text (Some hrp) script = behind_space (address_in hrp script)

-- an output script, and where a network is named its address, if it has one
abbrev pub output_text : Option (List ℕ) → List ℕ → List ℕ
output_text network script = hex_text script ++ address_text network script
