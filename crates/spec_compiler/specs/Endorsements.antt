-- The signatures that an honest party waits for before it signs the initial transaction of a BitML contract, by the key plan.
use Rattle.std.specs.Prelude.{ℕ, List, Bool, Option}
use Rattle.spec_terms.specs.Term as term
use Rattle.spec_terms.specs.Advert.{Advert}
use Rattle.spec_terms.specs.declared.path.PathStep.{PathStep}
use Rattle.spec_bitcoin.specs.Keys.{Pair}
use Rattle.spec_compiler.specs.Keyed.Keys.{by_plan}
use Rattle.spec_compiler.specs.declared.prepared.Prepared.{Prepared}
use Rattle.spec_compiler.specs.Instance.{Instance}
use Rattle.spec_compiler.specs.Keyed.Endorsements as keyed
pub use Rattle.spec_compiler.specs.Keyed.Endorsements.{Need, put_owner, is_met, first_unmet, all_met}

abbrev pub branch_needs : (List ℕ → List ℕ) → ℕ → Advert → List PathStep → term.Guarded → List ℕ → List Need
branch_needs hash = keyed.branch_needs hash by_plan

abbrev pub put_needs : (List ℕ → List ℕ) → Advert → List PathStep → List (List ℕ) → List (List ℕ) → List Need
put_needs hash = keyed.put_needs hash by_plan

abbrev pub needs_of : (List ℕ → List ℕ) → ℕ → Advert → List PathStep → term.Guarded → List (List ℕ) → List Need
needs_of hash = keyed.needs_of hash by_plan

abbrev pub path_needs : (List ℕ → List ℕ) → ℕ → Advert → List PathStep → Prepared → List Need
path_needs hash = keyed.path_needs hash by_plan

abbrev pub needs : (List ℕ → List ℕ) → ℕ → Advert → List (List PathStep × Prepared) → List Need
needs hash = keyed.needs hash by_plan

abbrev pub needed : (List ℕ → List ℕ) → Instance → List Need
needed hash = keyed.needed hash by_plan

abbrev pub is_endorsed : (List ℕ → List ℕ) → Instance → List Pair → Bool
is_endorsed hash = keyed.is_endorsed hash by_plan

abbrev pub missing_endorsement : (List ℕ → List ℕ) → Instance → List Pair → Option Need
missing_endorsement hash = keyed.missing_endorsement hash by_plan
