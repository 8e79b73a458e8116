-- What a BitML contract is compiled with, and the keys and the script of each of its positions, by the key that each label has.
use Rattle.std.specs.Prelude.{ℕ, List, [], ◌∷◌, ◌++◌, map}
use Rattle.spec_terms.specs.Term.{Contract, branches}
use Rattle.spec_terms.specs.Advert.{Advert}
use Rattle.spec_terms.specs.Parties.{participants}
use Rattle.spec_terms.specs.declared.path.PathStep.{PathStep}
use Rattle.spec_terms.specs.declared.path.PathStep.TheVariants.{Branch as To}
use Rattle.spec_bitcoin.specs.declared.tx.OutPoint.{OutPoint}
use Rattle.spec_bitcoin.specs.declared.label.Label.{Label}
use Rattle.spec_bitcoin.specs.declared.label.Label.TheVariants as labels
use Rattle.spec_bitcoin.specs.Scripts.{encode}
use Rattle.spec_compiler.specs.Keyed.Keys.{Keys, key_in}
use Rattle.spec_compiler.specs.Scripts.{Demands, output_ops, demands_from}

pub record Instance : Type 0 where
  -- the number of the contract in its run
  pub contract : ℕ
  pub advert : Advert
  -- where the deposit of each name lies
  pub bound : List (List ℕ × OutPoint)
  -- the committed digest of the secret of each name
  pub hashes : List (List ℕ × List ℕ)

-- the participants in order
abbrev pub people : Instance → List (List ℕ)
people s = participants s.advert

-- the path of branch i at a position
abbrev pub branch_path : List PathStep → ℕ → List PathStep
branch_path position i = position ++ To i ∷ []

-- the label of a participant's key of the branch at a path
abbrev pub branch_label : ℕ → List PathStep → List ℕ → Label
branch_label contract path party = labels.Branch contract path party

-- each participant's key of the branch at a path
abbrev pub branch_keys : (List ℕ → List ℕ) → Keys → Instance → List PathStep → List (List ℕ)
branch_keys hash keys s path = map (λ party. key_in hash keys (branch_label s.contract path party)) (people s)

-- a party's key of its deposits
abbrev pub deposit_key : (List ℕ → List ℕ) → Keys → List ℕ → List ℕ
deposit_key hash keys party = key_in hash keys (labels.Deposit party)

-- what the script of each branch of a position asks for
abbrev pub position_demands : (List ℕ → List ℕ) → Keys → Instance → List PathStep → Contract → List Demands
position_demands hash keys s position contract =
    demands_from (λ i. branch_keys hash keys s (branch_path position i)) s.hashes 0 (branches contract)

-- the script of a position
unfoldable pub position_script : (List ℕ → List ℕ) → Keys → Instance → List PathStep → Contract → List ℕ
position_script hash keys s position contract = encode (output_ops (position_demands hash keys s position contract))
