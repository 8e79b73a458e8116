-- What is claimed of the keys that a deal needs: the key of a party's deposits is needed where one of them has no wallet, or where a withdraw
-- pays the party and no script of its own; every other key is needed, as is all else.
use Rattle.std.specs.Prelude.{◌≡◌, ◌⊎◌, ◌↔◌, ℕ, List, true, Some, None}
use Rattle.std.specs.List.{Contains}
use Rattle.spec_terms.specs.Term as term
use Rattle.spec_terms.specs.Advert.{Advert}
use Rattle.spec_terms.specs.Core.{core}
use Rattle.spec_terms.specs.Paths.{at}
use Rattle.spec_terms.specs.Precondition.{Holding, deposits}
use Rattle.spec_terms.specs.declared.path.PathStep.{PathStep}
use Rattle.spec_bitcoin.specs.declared.label.Label.TheVariants as labels
use Rattle.spec_compiler.specs.Keyed.Keys.{Keys, own_script, own_payee}
use Rattle.spec_deal.specs.declared.deal.Needed.{Needed}
use Rattle.spec_deal.specs.declared.deal.Needed.TheVariants as needs
use Rattle.spec_deal.specs.DealFile.{is_used}

-- a deposit is the party's, and no wallet brings it
pub record BringsByKey (keys : Keys) (advert : Advert) (party : List ℕ) : Type 0 where
  pub name : List ℕ
  pub holding : Holding
  pub stands : Contains (deposits advert.pre) (name, holding)
  pub owned : holding.owner ≡ party
  pub bare : own_script keys name ≡ None

-- a branch somewhere in the contract pays the party, and no line says where
pub record IsPaidByKey (keys : Keys) (advert : Advert) (party : List ℕ) : Type 0 where
  pub path : List PathStep
  pub taken : term.Guarded
  pub stands : at advert.root path ≡ Some taken
  pub pays : core taken ≡ term.withdraw party
  pub bare : own_payee keys party ≡ None

abbrev pub IsOfDeposits : List ℕ → Needed → Type 0
IsOfDeposits party what = what ≡ needs.Key (labels.Deposit party)

pub record KeysAreUsed : Type 0 where
  pub deposits : (keys : Keys) (advert : Advert) (party : List ℕ)
      → (is_used keys advert (needs.Key (labels.Deposit party)) ≡ true) ↔ (BringsByKey keys advert party ⊎ IsPaidByKey keys advert party)
  pub others : (keys : Keys) (advert : Advert) (what : Needed) → ((party : List ℕ) → IsOfDeposits party what → ⊥)
      → is_used keys advert what ≡ true
