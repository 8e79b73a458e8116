-- An advert: what a contract needs beforehand, its fee, and the contract.
use Rattle.std.specs.Prelude.{ℕ, List}
use Rattle.spec_terms.specs.Term.{Contract}
use Rattle.spec_terms.specs.declared.pre.Pre.{Pre}

pub record Advert : Type 0 where
  -- the entries of the precondition in order
  pub pre : List Pre
  -- what the initial transaction and each later one leave to the miner, in satoshi
  pub fee : ℕ
  pub root : Contract
