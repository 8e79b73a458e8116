-- The contracts of a run have passed the check.
use Rattle.std.proofs.Common.{◌≡◌, ℕ, zero, suc, List, [], ◌∷◌, Some, sym, ap, subst}
use Rattle.std.specs.Prelude.{slice_get}
use Rattle.std.specs.List.{AllByRecursion}
use Rattle.spec_terms.specs.Advert.{Advert}
use Rattle.spec_terms.specs.Faults.{IsWellFormed}
use Rattle.spec_compiler.specs.Instance.{Instance}
use Rattle.spec_run.specs.Setup.{Setup, contract_at}
use Rattle.spec_run.specs.World.{World}
use Rattle.spec_run.specs.Compiled.{compiled_instance}
use Rattle.spec_run.specs.Conditions.{IsSetup}
use Rattle.theory_world.proofs.Later.{compiled_is}

pub all_checked : (cs : List Advert) (k : ℕ) (a : Advert) → AllByRecursion IsWellFormed cs → slice_get cs k ≡ Some a → IsWellFormed a
all_checked [] k a h e = cc
all_checked (c ∷ cs) zero a h e = let z : c ≡ a = cc in subst IsWellFormed z h.0
all_checked (c ∷ cs) (suc k) a h e = all_checked cs k a h.1 e

-- a contract of a run
pub contract_checked : (s : Setup) → IsSetup s → (k : ℕ) (a : Advert) → contract_at s k ≡ Some a → IsWellFormed a
contract_checked s is k a h = all_checked s.contracts k a is.contracts h

-- a compiled contract
pub compiled_checked : (s : Setup) → IsSetup s → (w : World) (k : ℕ) (st : Instance) → compiled_instance s w k ≡ Some st → IsWellFormed st.advert
compiled_checked s is w k st h =
    let c = compiled_is s w k st h in
    subst IsWellFormed (sym (ap (λ (y : Instance). y.advert) c.is)) (contract_checked s is k c.advert c.there)
