-- A line of the header that spells something, and the room for it.
use Rattle.std.specs.Prelude.{ℕ, List, [], ◌∷◌, ◌++◌, length, true, nat_lt, Option, Some}
use Rattle.spec_run.specs.declared.header.Header.{Header}
use Rattle.spec_run.specs.declared.header.HeldSecret.{HeldSecret}
use Rattle.spec_text.specs.declared.run_fault.RunLimit.TheVariants as limits
use Rattle.spec_text.specs.RunFile.{Line, spelled_within, held_secret}
use Rattle.spec_text.specs.Words.{◌>>=◌}
use Rattle.spec_data.specs.Ranges.{most_parties, most_header_secrets}

abbrev pub with_party : Header → List ℕ → Header
with_party h name = record h { parties = h.parties ++ name ∷ [] }

abbrev pub party_room : Header → List ℕ → Line Header
party_room h name = spelled_within true (nat_lt (length h.parties) most_parties) limits.Parties (with_party h name)

abbrev pub with_honest : Header → List ℕ → Header
with_honest h name = record h { honest = h.honest ++ name ∷ [] }

abbrev pub honest_room : Header → List ℕ → Line Header
honest_room h name = spelled_within true true limits.Parties (with_honest h name)

abbrev pub with_secret : Header → HeldSecret → Header
with_secret h secret = record h { secrets = h.secrets ++ secret ∷ [] }

abbrev pub secret_room : Header → HeldSecret → Line Header
secret_room h secret = spelled_within true (nat_lt (length h.secrets) most_header_secrets) limits.Secrets (with_secret h secret)

-- the secret of an owner and a name, if there are both
abbrev pub secret_by : Option (List ℕ) → Option (List ℕ) → List ℕ → Option HeldSecret
secret_by owner name bytes = owner >>= λ a. name >>= λ s. Some (held_secret a s bytes)
