-- All transactions and scripts of a BitML contract, in the order of its text, by the key that each label has.
use Rattle.std.specs.Prelude.{ℕ, ◌+◌, List, [], ◌∷◌, ◌++◌, map}
use Rattle.spec_terms.specs.Term as term
use Rattle.spec_terms.specs.Term.{Contract, no_branch, branch, auth, after, put_reveal, withdraw, split, Parts, no_part, part}
use Rattle.spec_terms.specs.Core.{lock}
use Rattle.spec_terms.specs.declared.path.PathStep.{PathStep}
use Rattle.spec_compiler.specs.Keyed.Keys.{Keys}
use Rattle.spec_compiler.specs.declared.prepared.Prepared.{Prepared}
use Rattle.spec_compiler.specs.Keyed.Instance.{Instance, branch_path, position_script}
use Rattle.spec_compiler.specs.declared.unsigned.Unsigned.{Unsigned}
use Rattle.spec_compiler.specs.Keyed.Transactions.{Standing, prepared, continued_value, part_position, core_unsigned, continued}
use Rattle.spec_compiler.specs.Keyed.Transactions.{part_standing, initial_unsigned, root_standing}

-- ---- the transactions by path

abbrev mutual
  -- of the branches of a position from number i on, with all that stands under them
  pub choice_transactions : (List ℕ → List ℕ) → Keys → Instance → Standing → ℕ → Contract → List (List PathStep × Unsigned)
  choice_transactions hash keys s here i no_branch = []
  choice_transactions hash keys s here i (branch b bs) =
      branch_transactions hash keys s here i (lock b) b ++ choice_transactions hash keys s here (i + 1) bs

  -- of branch i of a position, which has this lock
  pub branch_transactions : (List ℕ → List ℕ) → Keys → Instance → Standing → ℕ → ℕ → term.Guarded
      → List (List PathStep × Unsigned)
  branch_transactions hash keys s here i l (auth party body) = branch_transactions hash keys s here i l body
  branch_transactions hash keys s here i l (after height body) = branch_transactions hash keys s here i l body
  branch_transactions hash keys s here i l (put_reveal puts reveals test next) =
      (branch_path here.position i, core_unsigned hash keys s here i l (put_reveal puts reveals test next))
      ∷ choice_transactions hash keys s
      (continued hash keys s (branch_path here.position i) (core_unsigned hash keys s here i l (put_reveal puts reveals test next))
      (continued_value s here.output.value puts) next)
      0 next
  branch_transactions hash keys s here i l (withdraw party) =
      (branch_path here.position i, core_unsigned hash keys s here i l (withdraw party)) ∷ []
  branch_transactions hash keys s here i l (split parts) =
      (branch_path here.position i, core_unsigned hash keys s here i l (split parts))
      ∷ parts_transactions hash keys s (branch_path here.position i) (core_unsigned hash keys s here i l (split parts)) 0 parts

  -- of the parts from number k on of the split at a path, which this transaction makes
  pub parts_transactions : (List ℕ → List ℕ) → Keys → Instance → List PathStep → Unsigned → ℕ → Parts
      → List (List PathStep × Unsigned)
  parts_transactions hash keys s path made k no_part = []
  parts_transactions hash keys s path made k (part v c ps) =
      choice_transactions hash keys s (part_standing hash keys s path made k v c) 0 c ++ parts_transactions hash keys s path made (k + 1) ps

-- the transaction of each path
abbrev pub path_transactions : (List ℕ → List ℕ) → Keys → Instance → List (List PathStep × Unsigned)
path_transactions hash keys s = choice_transactions hash keys s (root_standing hash keys s) 0 s.advert.root

-- ---- the scripts by position

abbrev mutual
  -- of the positions under the branches of a position from number i on
  pub choice_scripts : (List ℕ → List ℕ) → Keys → Instance → List PathStep → ℕ → Contract → List (List PathStep × List ℕ)
  choice_scripts hash keys s position i no_branch = []
  choice_scripts hash keys s position i (branch b bs) =
      branch_scripts hash keys s (branch_path position i) b ++ choice_scripts hash keys s position (i + 1) bs

  -- of the positions under the branch at a path
  pub branch_scripts : (List ℕ → List ℕ) → Keys → Instance → List PathStep → term.Guarded → List (List PathStep × List ℕ)
  branch_scripts hash keys s path (auth party body) = branch_scripts hash keys s path body
  branch_scripts hash keys s path (after height body) = branch_scripts hash keys s path body
  branch_scripts hash keys s path (put_reveal puts reveals test next) =
      (path, position_script hash keys s path next) ∷ choice_scripts hash keys s path 0 next
  branch_scripts hash keys s path (withdraw party) = []
  branch_scripts hash keys s path (split parts) = parts_scripts hash keys s path 0 parts

  -- of the parts from number k on of the split at a path
  pub parts_scripts : (List ℕ → List ℕ) → Keys → Instance → List PathStep → ℕ → Parts → List (List PathStep × List ℕ)
  parts_scripts hash keys s path k no_part = []
  parts_scripts hash keys s path k (part v c ps) =
      ((part_position path k, position_script hash keys s (part_position path k) c) ∷ choice_scripts hash keys s (part_position path k) 0 c)
      ++ parts_scripts hash keys s path (k + 1) ps

-- the script of each position
abbrev pub scripts : (List ℕ → List ℕ) → Keys → Instance → List (List PathStep × List ℕ)
scripts hash keys s = ([], position_script hash keys s [] s.advert.root) ∷ choice_scripts hash keys s [] 0 s.advert.root

-- ---- all of it

-- what a contract is compiled to: the initial transaction, the transaction of each path, and the script of each position
pub record Compilation : Type 0 where
  pub init : Prepared
  pub paths : List (List PathStep × Prepared)
  pub scripts : List (List PathStep × List ℕ)

abbrev pub compilation : (List ℕ → List ℕ) → Keys → Instance → Compilation
compilation hash keys s = record {
  init = prepared hash (initial_unsigned hash keys s);
  paths = map (λ p. (p.0, prepared hash p.1)) (path_transactions hash keys s);
  scripts = scripts hash keys s;
}
