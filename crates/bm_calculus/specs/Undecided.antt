-- Whether the predicate of a branch may still be true.
use Rattle.std.specs.Prelude.{ℕ, Bool, true, not, ◌||◌, List, Option, Some, None}
use Rattle.spec_terms.specs.Core.{core, reveals_of, test_of}
use Rattle.spec_terms.specs.Term.{Guarded}
use Rattle.spec_terms.specs.Value.{holds}
use Rattle.spec_terms.specs.declared.pre.Pre.{Pre}
use Rattle.spec_calculus.specs.declared.parts.ActiveContract.{ActiveContract}
use Rattle.spec_calculus.specs.Beginning.{pre_of}
use Rattle.spec_calculus.specs.Branches.{advert_of, contract_number, are_revealed, secret_lengths}
use Rattle.spec_calculus.specs.Configuration.{Configuration}

-- a secret that a core reveals isn't revealed, or the predicate is true of the committed lengths
abbrev pub may_hold : Configuration → ℕ → List Pre → Guarded → Bool
may_hold g contract pre c =
    not (are_revealed g.revealed contract pre (reveals_of c)) || holds (secret_lengths g.committed contract pre (reveals_of c)) (test_of c)

-- the same of a branch of an active contract, if there is one
abbrev pub may_hold_at : Configuration → Option ActiveContract → Option Guarded → Bool
may_hold_at g active None = true
may_hold_at g active (Some b) = may_hold g (contract_number active) (pre_of (advert_of g.contracts active)) (core b)
