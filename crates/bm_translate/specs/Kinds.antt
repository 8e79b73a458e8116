-- What a transaction is to the contracts that are compiled so far, by those that are compiled in the end.
use Rattle.std.specs.Prelude.{ℕ, ◌+◌, List, [], ◌∷◌, Bool, ◌&&◌, if◌then◌else◌, Option, Some, None}
use Rattle.spec_bitcoin.specs.declared.tx.Tx.{Tx}
use Rattle.spec_calculus.specs.Configuration.{Configuration}
use Rattle.spec_calculus.specs.Beginning.{contract_at, is_advertised}
use Rattle.spec_calculus.specs.Steps.{is_committed}
use Rattle.bm_compile.specs.Numbered.{Numbered}
use Rattle.bm_match.specs.Matches.{begins}

-- whether the contract is advertised, and all its participants have committed
abbrev pub is_complete_now : Configuration → ℕ → Bool
is_complete_now g contract = is_advertised g.advertised contract && is_committed g contract (contract_at g.contracts contract)

-- whether it is the initial transaction of what the contract of this number is compiled to, and that is complete
abbrev pub begins_now : Configuration → Tx → ℕ → Option Numbered → Bool
begins_now g tx contract compiled = begins tx compiled && is_complete_now g contract

-- the first contract from number k on whose initial transaction it is
abbrev pub first_begun_now : Configuration → Tx → ℕ → List (Option Numbered) → Option ℕ
first_begun_now g tx k [] = None
first_begun_now g tx k (c ∷ cs) = if begins_now g tx k c then Some k else first_begun_now g tx (k + 1) cs
