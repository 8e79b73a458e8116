-- Where all have committed, what is left of the premises of letting a contract take a deposit.
use Rattle.std.proofs.Common.{◌≡◌, ℕ, List, [], ◌∷◌, Some, true}
use Rattle.spec_data.specs.Lists.{first_false, look_up}
use Rattle.spec_terms.specs.Advert.{Advert}
use Rattle.spec_terms.specs.Parties.{participants}
use Rattle.spec_calculus.specs.declared.step.Step.TheVariants.{AuthInit}
use Rattle.spec_calculus.specs.Configuration.{Configuration}
use Rattle.spec_calculus.specs.Beginning.{contract_at, have_committed, has_persistent, is_there, bindings_of}
use Rattle.spec_calculus.specs.Steps.{fails}

pub allowing : (g : Configuration) (contract : ℕ) (a : Advert) (party deposit : List ℕ) (n : ℕ)
    → Some a ≡ contract_at g.contracts contract
    → have_committed g.committed contract (participants a) ≡ true
    → n ≡ first_false 2 (has_persistent a.pre party deposit
    ∷ is_there g.deposits (look_up deposit (bindings_of g.advertised contract)) ∷ [])
    → n ≡ fails g (AuthInit contract party deposit)
allowing g contract a party deposit n there all rest = rw (← there, all) rest
