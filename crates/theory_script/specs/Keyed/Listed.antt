-- What is claimed of the lists of a contract's transactions and scripts: each path and each position once, with what stands there.
use Rattle.std.specs.Prelude.{◌≡◌, ℕ, List, [], ◌∷◌, map, Bool, true, ◌&&◌, not, Option, Some, None, option_map, if◌then◌else◌}
use Rattle.std.specs.List.{list_any}
use Rattle.spec_terms.specs.Term.{Contract}
use Rattle.spec_terms.specs.Paths.{contract_under, path_eq}
use Rattle.spec_terms.specs.Order.{branch_paths, position_paths}
use Rattle.spec_terms.specs.declared.path.PathStep.{PathStep}
use Rattle.spec_compiler.specs.Keyed.Keys.{Keys}
use Rattle.spec_compiler.specs.Keyed.Instance.{Instance, position_script}
use Rattle.spec_compiler.specs.Keyed.Transactions.{Standing}
use Rattle.spec_compiler.specs.Keyed.Compilation.{compilation}
use Rattle.spec_compiler.specs.Keyed.ByPath.{position_at, prepared_at}

-- what a list has for a path
abbrev pub at_path : {V : Type 0} → List PathStep → List (List PathStep × V) → Option V
at_path path [] = None
at_path path (e ∷ es) = if path_eq e.0 path then Some (e.1) else at_path path es

-- the list of transactions has for each path the transaction of the branch there, and for no other path one
abbrev pub PathsAreListed : Type 0
PathsAreListed =
    (hash : List ℕ → List ℕ) (keys : Keys) (s : Instance) (path : List PathStep)
    → at_path path (compilation hash keys s).paths ≡ prepared_at hash keys s path

-- the list of scripts has for each position the script of its output, and for no other path one
abbrev pub ScriptsAreListed : Type 0
ScriptsAreListed = (hash : List ℕ → List ℕ) (keys : Keys) (s : Instance) (position : List PathStep)
    → at_path position (compilation hash keys s).scripts ≡ option_map (λ p. p.0.output.script) (position_at hash keys s position)

-- a position of a contract, as it stands on the chain: its path, its branches, and its script
pub record StandsAt (hash : List ℕ → List ℕ) (keys : Keys) (s : Instance) (position : List PathStep) (here : Standing)
    (contract : Contract) : Type 0 where
  pub path : here.position ≡ position
  pub branches : contract_under s.advert.root position ≡ Some contract
  pub script : here.output.script ≡ position_script hash keys s position contract

-- what is found by a path stands there
abbrev pub PositionsStand : Type 0
PositionsStand =
    (hash : List ℕ → List ℕ) (keys : Keys) (s : Instance) (position : List PathStep) (here : Standing) (contract : Contract)
    → position_at hash keys s position ≡ Some (here, contract) → StandsAt hash keys s position here contract

-- whether a path is one of these
abbrev pub is_path_among : List PathStep → List (List PathStep) → Bool
is_path_among path paths = list_any (path_eq path) paths

-- whether each of these paths stands there once
abbrev pub are_once : List (List PathStep) → Bool
are_once [] = true
are_once (path ∷ paths) = not (is_path_among path paths) && are_once paths

-- the transactions are those of the contract's branches, and the scripts those of its positions, in the order of the text, each once
pub record IsInOrder (hash : List ℕ → List ℕ) (keys : Keys) (s : Instance) : Type 0 where
  pub paths : map (λ p. p.0) (compilation hash keys s).paths ≡ branch_paths s.advert.root
  pub paths_once : are_once (branch_paths s.advert.root) ≡ true
  pub scripts : map (λ p. p.0) (compilation hash keys s).scripts ≡ position_paths s.advert.root
  pub scripts_once : are_once (position_paths s.advert.root) ≡ true

abbrev pub PathsInOrder : Type 0
PathsInOrder = (hash : List ℕ → List ℕ) (keys : Keys) (s : Instance) → IsInOrder hash keys s
