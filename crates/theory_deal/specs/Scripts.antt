-- What is claimed of the scripts that a deal's signatures are for: the key of each signature is one for which the script of its input asks.
use Rattle.std.specs.Prelude.{◌≡◌, ℕ, List, Some, None, slice_get}
use Rattle.std.specs.List.{Contains}
use Rattle.spec_terms.specs.Term.{Guarded, Contract, branches}
use Rattle.spec_terms.specs.Paths.{contract_under}
use Rattle.spec_terms.specs.declared.path.PathStep.{PathStep}
use Rattle.spec_bitcoin.specs.declared.label.Label.{Label}
use Rattle.spec_bitcoin.specs.declared.label.Label.TheVariants as labels
use Rattle.spec_bitcoin.specs.Keys.{deposit_script}
use Rattle.spec_compiler.specs.Keyed.Keys.{Keys, key_in}
use Rattle.spec_compiler.specs.Keyed.Instance.{Instance, branch_path, position_script}
use Rattle.spec_compiler.specs.Keyed.Statements.{AreKeyDeposits}
use Rattle.spec_deal.specs.Slots.{Slot, slots}

-- the script is that of a position, and the path is that of one of its branches
pub record IsOfPosition (hash : List ℕ → List ℕ) (keys : Keys) (s : Instance) (path : List PathStep) (script : List ℕ) : Type 0 where
  pub position : List PathStep
  pub contract : Contract
  pub i : ℕ
  pub b : Guarded
  pub is_position : contract_under s.advert.root position ≡ Some contract
  pub is_branch : slice_get (branches contract) i ≡ Some b
  pub is_path : branch_path position i ≡ path
  pub is_script : script ≡ position_script hash keys s position contract

-- the script of a deposit asks for the key of its owner alone, that of a position for those of one of its branches
abbrev pub AsksForKey : (List ℕ → List ℕ) → Keys → Instance → List ℕ → Label → Type 0
AsksForKey hash keys s script (labels.Deposit party) = script ≡ deposit_script (key_in hash keys (labels.Deposit party))
AsksForKey hash keys s script (labels.Branch contract path party) = IsOfPosition hash keys s path script

-- of each that is by a key; all are where all deposits are of keys
pub record AskForKeys (hash : List ℕ → List ℕ) (keys : Keys) (s : Instance) : Type 0 where
  pub keyed : (slot : Slot) → Contains (slots hash keys s) slot → slot.wallet ≡ None → AsksForKey hash keys s slot.spent.script slot.label
  pub by_keys : AreKeyDeposits keys → (slot : Slot) → Contains (slots hash keys s) slot → slot.wallet ≡ None

abbrev pub ScriptsAsk : Type 0
ScriptsAsk = (hash : List ℕ → List ℕ) (keys : Keys) (s : Instance) → AskForKeys hash keys s
