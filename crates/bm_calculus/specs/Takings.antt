-- What taking a branch makes.
use Rattle.std.specs.Prelude.{ℕ, ◌+◌, ◌-◌, List, [], ◌∷◌, ◌++◌}
use Rattle.spec_terms.specs.declared.path.PathStep.TheVariants.{Branch as To}
use Rattle.spec_calculus.specs.declared.parts.ActiveContract.{ActiveContract}
use Rattle.spec_calculus.specs.Configuration.{Configuration}
use Rattle.spec_calculus.specs.Beginning.{fee_of}
use Rattle.spec_calculus.specs.Branches.{active_at, contract_number, position_of, balance_of, advert_of, gone, total_value}

-- the contract that goes on at a branch, with these deposits put in, less the fee
abbrev pub continuation : Configuration → ℕ → ℕ → List ℕ → ActiveContract
continuation g output branch numbers =
    let active = active_at g.active output in
    record {
      number = g.next;
      contract = contract_number active;
      position = position_of active ++ To branch ∷ [];
      balance = balance_of active + total_value (gone g.deposits numbers) - fee_of (advert_of g.contracts active);
    }
