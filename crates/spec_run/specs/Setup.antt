-- What never changes in a run: the hash, the header and the contracts.
use Rattle.std.specs.Prelude.{ℕ, List, [], ◌∷◌, Bool, ◌&&◌, if◌then◌else◌, Option, Some, None, slice_get}
use Rattle.std.specs.Option.{is_some}
use Rattle.std.specs.Str.{bytes_eq}
use Rattle.spec_data.specs.Lists.{is_among}
use Rattle.spec_terms.specs.Advert.{Advert}
use Rattle.spec_terms.specs.declared.pre.Pre.{Pre}
pub use Rattle.spec_calculus.specs.Beginning.{pre_of, participants_of as people_of}
use Rattle.spec_run.specs.declared.header.Header.{Header}
use Rattle.spec_run.specs.declared.header.HeldSecret.{HeldSecret}

pub record Setup : Type 0 where
  pub hash : List ℕ → List ℕ
  pub header : Header
  -- the contracts by their number
  pub contracts : List Advert

-- ---- parties

-- whether the party is declared
abbrev pub is_declared : Setup → List ℕ → Bool
is_declared s party = is_among party s.header.parties

-- whether the party is honest
abbrev pub is_honest : Setup → List ℕ → Bool
is_honest s party = is_among party s.header.honest

-- ---- contracts

-- the contract of this number
abbrev pub contract_at : Setup → ℕ → Option Advert
contract_at s contract = slice_get s.contracts contract

-- whether there is a contract of this number
abbrev pub has_contract : Setup → ℕ → Bool
has_contract s contract = is_some (contract_at s contract)

-- its precondition, nothing without one
abbrev pub pre_at : Setup → ℕ → List Pre
pre_at s contract = pre_of (contract_at s contract)

-- its participants, nobody without one
abbrev pub people_at : Setup → ℕ → List (List ℕ)
people_at s contract = people_of (contract_at s contract)

-- whether the party takes part in the contract
abbrev pub takes_part : Setup → ℕ → List ℕ → Bool
takes_part s contract party = is_among party (people_at s contract)

-- ---- secrets

-- the bytes of a party's secret among these
abbrev pub held_among : List ℕ → List ℕ → List HeldSecret → Option (List ℕ)
held_among party name [] = None
held_among party name (held ∷ rest) =
    if bytes_eq held.party party && bytes_eq held.name name then Some held.bytes else held_among party name rest

-- the bytes of a party's secret that stands in the header
abbrev pub held_secret : Setup → List ℕ → List ℕ → Option (List ℕ)
held_secret s party name = held_among party name s.header.secrets

-- the bytes, none without them
abbrev pub bytes_or_none : Option (List ℕ) → List ℕ
bytes_or_none None = []
bytes_or_none (Some bytes) = bytes
