-- What is claimed of the scripts of a contract by the key plan: on which stacks Bitcoin's consensus finds them true, and how large they
-- are.
use Rattle.std.specs.Prelude.{◌≡◌, ℕ, List, length, Bool, true}
use Rattle.std.specs.List.{list_all}
pub use Rattle.spec_data.specs.Hashes.{IsHash}
use Rattle.spec_terms.specs.Term.{Contract, branches}
use Rattle.spec_terms.specs.declared.path.PathStep.{PathStep}
use Rattle.spec_bitcoin.specs.Meaning.{script_meaning}
use Rattle.spec_compiler.specs.Keyed.Keys.{by_plan}
use Rattle.spec_compiler.specs.Instance.{Instance, position_script}
use Rattle.spec_compiler.specs.Witness.{witness_stack, chosen}
use Rattle.spec_compiler.specs.Keyed.Statements as keyed
pub use Rattle.spec_compiler.specs.Keyed.Statements.{are_valid, is_secret, are_secrets, lengths_of, secret_lengths}
pub use Rattle.spec_compiler.specs.Keyed.Statements.{has_size, is_short, IsCompiled, DepositMeaning}

-- the stack, from its top, is selectors of a branch of the position, its secrets and its signatures
abbrev pub Opens : (List ℕ → List ℕ) → (List ℕ → List ℕ → Bool) → Instance → List PathStep → Contract → List (List ℕ) → Type 0
Opens hash = keyed.Opens hash by_plan

-- the script of a position is true on a stack, given from its bottom, exactly where the stack opens a branch of the position
abbrev pub OpensExactly : (List ℕ → List ℕ) → (List ℕ → List ℕ → Bool) → Instance → List PathStep → Contract → List (List ℕ) → Type 0
OpensExactly hash = keyed.OpensExactly hash by_plan

-- for every hash, every oracle of signatures, every position of a checked contract and every stack of short items
abbrev pub ScriptTheorem : Type 0
ScriptTheorem =
    (hash : List ℕ → List ℕ) (valid : List ℕ → List ℕ → Bool)
    (s : Instance) (position : List PathStep) (contract : Contract) (stack : List (List ℕ))
    → IsHash hash → IsCompiled s position contract → list_all is_short stack ≡ true → OpensExactly hash valid s position contract stack

-- the branch that a stack chooses is the branch that it opens
abbrev pub OpenedIsChosen : Type 0
OpenedIsChosen =
    (hash : List ℕ → List ℕ) (valid : List ℕ → List ℕ → Bool)
    (s : Instance) (position : List PathStep) (contract : Contract) (stack : List (List ℕ))
    → (opened : Opens hash valid s position contract stack) → chosen (length (branches contract)) stack ≡ opened.i

-- a script has the bytes and counted operations of its cost, meets no limit of scripts, and its bytes spell its operations
abbrev pub HasCost : (List ℕ → List ℕ) → Instance → List PathStep → Contract → Type 0
HasCost hash = keyed.HasCost hash by_plan

abbrev pub SizeTheorem : Type 0
SizeTheorem =
    (hash : List ℕ → List ℕ) (s : Instance) (position : List PathStep) (contract : Contract) → IsHash hash → IsCompiled s position contract
    → HasCost hash s position contract

-- what is handed to a witness of branch i: its signatures by participant, and its secrets by reveal
abbrev pub Fills : (List ℕ → List ℕ) → (List ℕ → List ℕ → Bool) → Instance → List PathStep → Contract
    → ℕ → List (List ℕ) → List (List ℕ) → Type 0
Fills hash = keyed.Fills hash by_plan

-- a witness that is filled so makes its script true
abbrev pub WitnessOpens : Type 0
WitnessOpens =
    (hash : List ℕ → List ℕ) (valid : List ℕ → List ℕ → Bool)
    (s : Instance) (position : List PathStep) (contract : Contract) (i : ℕ) (signatures strings : List (List ℕ))
    → IsHash hash → IsCompiled s position contract → Fills hash valid s position contract i signatures strings
    → script_meaning hash valid (position_script hash s position contract)
    (witness_stack signatures strings i (length (branches contract))) ≡ true
