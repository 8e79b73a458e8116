-- The deposits and secrets that a contract needs beforehand.
use Rattle.std.specs.Prelude.{ℕ, ◌+◌, List, [], ◌∷◌, Option, Some, None, if◌then◌else◌}
use Rattle.std.specs.Str.{bytes_eq}
use Rattle.spec_data.specs.Lists.{look_up}
use Rattle.spec_terms.specs.declared.pre.Pre.{Pre}
use Rattle.spec_terms.specs.declared.pre.Pre.TheVariants.{Persistent, Volatile, Secret}

-- whose a deposit is, and its value in satoshi
pub record Holding : Type 0 where
  pub owner : List ℕ
  pub value : ℕ

abbrev pub holding : List ℕ → ℕ → Holding
holding owner value = record { owner = owner; value = value }

-- the party of an entry
abbrev pub party_of : Pre → List ℕ
party_of (Persistent party value name) = party
party_of (Volatile party value name) = party
party_of (Secret party name) = party

-- the name of the deposit or secret of an entry
abbrev pub name_in : Pre → List ℕ
name_in (Persistent party value name) = name
name_in (Volatile party value name) = name
name_in (Secret party name) = name

-- the persistent deposits in order, each under its name
abbrev pub persistent : List Pre → List (List ℕ × Holding)
persistent [] = []
persistent (Persistent party value name ∷ es) = (name, holding party value) ∷ persistent es
persistent (Volatile party value name ∷ es) = persistent es
persistent (Secret party name ∷ es) = persistent es

-- the volatile deposits in order, each under its name
abbrev pub volatile : List Pre → List (List ℕ × Holding)
volatile [] = []
volatile (Persistent party value name ∷ es) = volatile es
volatile (Volatile party value name ∷ es) = (name, holding party value) ∷ volatile es
volatile (Secret party name ∷ es) = volatile es

-- the deposits of both kinds in order, each under its name
abbrev pub deposits : List Pre → List (List ℕ × Holding)
deposits [] = []
deposits (Persistent party value name ∷ es) = (name, holding party value) ∷ deposits es
deposits (Volatile party value name ∷ es) = (name, holding party value) ∷ deposits es
deposits (Secret party name ∷ es) = deposits es

-- the secrets in order, each with its party under its name
abbrev pub secrets : List Pre → List (List ℕ × List ℕ)
secrets [] = []
secrets (Persistent party value name ∷ es) = secrets es
secrets (Volatile party value name ∷ es) = secrets es
secrets (Secret party name ∷ es) = (name, party) ∷ secrets es

-- the names of these
abbrev pub names_of : {V : Type 0} → List (List ℕ × V) → List (List ℕ)
names_of [] = []
names_of (e ∷ es) = e.0 ∷ names_of es

-- the names of the secrets of this party, of those given with their parties
abbrev pub names_of_party : List ℕ → List (List ℕ × List ℕ) → List (List ℕ)
names_of_party party [] = []
names_of_party party (s ∷ ss) = if bytes_eq s.1 party then (s.0 ∷ names_of_party party ss) else names_of_party party ss

-- the names of a party's secrets in order
abbrev pub secrets_of : List ℕ → List Pre → List (List ℕ)
secrets_of party pre = names_of_party party (secrets pre)

-- the owners of these deposits in order
abbrev pub owners_of : List (List ℕ × Holding) → List (List ℕ)
owners_of [] = []
owners_of (d ∷ ds) = d.1.owner ∷ owners_of ds

-- the sum of these deposits
abbrev pub total_of : List (List ℕ × Holding) → ℕ
total_of [] = 0
total_of (d ∷ ds) = d.1.value + total_of ds

-- the value of a deposit that was looked up, 0 without one
abbrev pub value_of : Option Holding → ℕ
value_of None = 0
value_of (Some d) = d.value

-- what the deposits of these names bring
abbrev pub value_of_puts : List (List ℕ × Holding) → List (List ℕ) → ℕ
value_of_puts ds [] = 0
value_of_puts ds (x ∷ xs) = value_of (look_up x ds) + value_of_puts ds xs
