-- What is claimed of the lists of a contract's transactions and scripts, by the key plan: each path and each position once, with what
-- stands there.
use Rattle.std.specs.Prelude.{◌≡◌, ℕ, List, Some, option_map}
use Rattle.spec_terms.specs.Term.{Contract}
use Rattle.spec_terms.specs.declared.path.PathStep.{PathStep}
use Rattle.spec_compiler.specs.Keyed.Keys.{by_plan}
use Rattle.spec_compiler.specs.Instance.{Instance}
use Rattle.spec_compiler.specs.Transactions.{Standing}
use Rattle.spec_compiler.specs.Compilation.{compilation}
use Rattle.spec_compiler.specs.ByPath.{position_at, prepared_at}
use Rattle.theory_script.specs.Keyed.Listed as keyed
pub use Rattle.theory_script.specs.Keyed.Listed.{at_path, is_path_among, are_once}

-- the list of transactions has for each path the transaction of the branch there, and for no other path one
abbrev pub PathsAreListed : Type 0
PathsAreListed =
    (hash : List ℕ → List ℕ) (s : Instance) (path : List PathStep) → at_path path (compilation hash s).paths ≡ prepared_at hash s path

-- the list of scripts has for each position the script of its output, and for no other path one
abbrev pub ScriptsAreListed : Type 0
ScriptsAreListed = (hash : List ℕ → List ℕ) (s : Instance) (position : List PathStep)
    → at_path position (compilation hash s).scripts ≡ option_map (λ p. p.0.output.script) (position_at hash s position)

-- a position of a contract, as it stands on the chain: its path, its branches, and its script
abbrev pub StandsAt : (List ℕ → List ℕ) → Instance → List PathStep → Standing → Contract → Type 0
StandsAt hash = keyed.StandsAt hash by_plan

-- what is found by a path stands there
abbrev pub PositionsStand : Type 0
PositionsStand = (hash : List ℕ → List ℕ) (s : Instance) (position : List PathStep) (here : Standing) (contract : Contract)
    → position_at hash s position ≡ Some (here, contract) → StandsAt hash s position here contract

-- the transactions are those of the contract's branches, and the scripts those of its positions, in the order of the text, each once
abbrev pub IsInOrder : (List ℕ → List ℕ) → Instance → Type 0
IsInOrder hash = keyed.IsInOrder hash by_plan

abbrev pub PathsInOrder : Type 0
PathsInOrder = (hash : List ℕ → List ℕ) (s : Instance) → IsInOrder hash s
