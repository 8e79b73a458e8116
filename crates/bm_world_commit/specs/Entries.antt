-- What a contract is compiled to, with its number.
use Rattle.std.specs.Prelude.{ℕ, List, Option, option_map}
use Rattle.spec_compiler.specs.Instance.{Instance}
use Rattle.bm_compile.specs.Numbered.{Numbered, numbered}

-- the contract of this number with what it is compiled to, where it is
abbrev pub entry_of : (List ℕ → List ℕ) → ℕ → Option Instance → Option (ℕ × Numbered)
entry_of hash contract instance = option_map (λ i. (contract, numbered hash i)) instance
