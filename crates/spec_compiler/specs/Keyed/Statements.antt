-- What is claimed of the scripts of a contract: on which stacks Bitcoin's consensus finds them true, and how large they are. It is claimed
-- for every way to give a key of 33 bytes to each label.
use Rattle.std.specs.Prelude.{◌≡◌, ℕ, ◌-◌, ◌≤◌, List, [], ◌∷◌, ◌++◌, length, map, reverse, Bool, true, false, ◌&&◌, nat_le, slice_get}
use Rattle.std.specs.Prelude.{Option, Some, None, ◌==◌}
use Rattle.std.specs.List.{list_all}
use Rattle.std.specs.Str.{bytes_eq}
use Rattle.spec_data.specs.Hashes.{IsBytes}
use Rattle.spec_data.specs.Ranges.{least_secret_bytes, most_item_bytes, most_script_bytes, most_operations}
use Rattle.spec_terms.specs.Term as term
use Rattle.spec_terms.specs.Term.{Contract, branches}
use Rattle.spec_terms.specs.Core.{core, reveals_of, test_of}
use Rattle.spec_terms.specs.Value.{holds}
use Rattle.spec_terms.specs.Cost.{cost}
use Rattle.spec_terms.specs.Paths.{contract_under}
use Rattle.spec_terms.specs.Precondition.{secrets, names_of}
use Rattle.spec_terms.specs.Faults.{IsWellFormed}
use Rattle.spec_terms.specs.declared.path.PathStep.{PathStep}
use Rattle.spec_bitcoin.specs.declared.label.Label.{Label}
use Rattle.spec_bitcoin.specs.Effects.{truth}
use Rattle.spec_bitcoin.specs.Scripts.{script_ops, counted}
use Rattle.spec_bitcoin.specs.Meaning.{script_meaning}
use Rattle.spec_bitcoin.specs.Keys.{key_bytes, deposit_script}
use Rattle.spec_compiler.specs.Keyed.Keys.{Keys, key_in, own_script, own_payee}
use Rattle.spec_compiler.specs.Scripts.{digest_of, output_ops}
use Rattle.spec_compiler.specs.Keyed.Instance.{Instance, people, branch_path, branch_keys, position_demands, position_script}
use Rattle.spec_compiler.specs.Witness.{selection, witness_stack, chosen}

-- ---- signatures and secrets

-- one valid signature for each key
abbrev pub are_valid : (List ℕ → List ℕ → Bool) → List (List ℕ) → List (List ℕ) → Bool
are_valid valid [] [] = true
are_valid valid [] (key ∷ keys) = false
are_valid valid (signature ∷ signatures) [] = false
are_valid valid (signature ∷ signatures) (key ∷ keys) = valid signature key && are_valid valid signatures keys

-- a string with as many bytes as a secret may have, 16 to 520, and this digest
abbrev pub is_secret : (List ℕ → List ℕ) → List ℕ → List ℕ → Bool
is_secret hash secret digest =
    (nat_le least_secret_bytes (length secret) && nat_le (length secret) most_item_bytes) && bytes_eq (hash secret) digest

-- one such string for each digest
abbrev pub are_secrets : (List ℕ → List ℕ) → List (List ℕ) → List (List ℕ) → Bool
are_secrets hash [] [] = true
are_secrets hash [] (digest ∷ digests) = false
are_secrets hash (secret ∷ strings) [] = false
are_secrets hash (secret ∷ strings) (digest ∷ digests) = is_secret hash secret digest && are_secrets hash strings digests

-- the length that each name has, by the byte counts of its strings: less by the fewest bytes of a secret
abbrev pub lengths_of : List (List ℕ) → List ℕ → List (List ℕ × ℕ)
lengths_of [] counts = []
lengths_of (name ∷ names) [] = []
lengths_of (name ∷ names) (count ∷ counts) = (name, count - least_secret_bytes) ∷ lengths_of names counts

-- the lengths of the secrets of these names
abbrev pub secret_lengths : List (List ℕ) → List (List ℕ) → List (List ℕ × ℕ)
secret_lengths names strings = lengths_of names (map length strings)

-- ---- what opens a position

-- the stack, from its top, is selectors of a branch of the position, its secrets and its signatures
pub record Opens (hash : List ℕ → List ℕ) (keys : Keys) (valid : List ℕ → List ℕ → Bool)
    (s : Instance) (position : List PathStep) (contract : Contract) (stack : List (List ℕ)) : Type 0 where
  -- the branch and its number
  pub i : ℕ
  pub b : term.Guarded
  pub is_branch : slice_get (branches contract) i ≡ Some b
  -- the three groups
  pub selectors : List (List ℕ)
  pub strings : List (List ℕ)
  pub signatures : List (List ℕ)
  pub is_stack : stack ≡ selectors ++ (strings ++ signatures)
  -- the selectors choose the branch
  pub selects : map truth selectors ≡ selection i (length (branches contract))
  -- the secrets are those that it reveals, and its predicate is true of their lengths
  pub fits : are_secrets hash strings (map (digest_of s.hashes) (reveals_of (core b))) ≡ true
  pub predicate : holds (secret_lengths (reveals_of (core b)) strings) (test_of (core b)) ≡ true
  -- each participant has signed by its key of the branch
  pub signed : are_valid valid signatures (branch_keys hash keys s (branch_path position i)) ≡ true

-- ---- where the theorems hold

-- the key of each label has 33 bytes
abbrev pub AreKeys : (List ℕ → List ℕ) → Keys → Type 0
AreKeys hash keys = (label : Label) → length (key_in hash keys label) ≡ key_bytes

-- each deposit is of its owner's key: none has an output script of a wallet's
abbrev pub AreKeyDeposits : Keys → Type 0
AreKeyDeposits keys = (name : List ℕ) → own_script keys name ≡ None

-- a script with no more bytes than the longest that a wallet is paid at, a witness program of 32 bytes
pub record IsPayable (script : List ℕ) : Type 0 where
  pub bytes : IsBytes script
  pub few : length script ≤ 34

-- each participant who is paid at a script of its own is paid at such a one
abbrev pub ArePayable : Keys → Type 0
ArePayable keys = (party script : List ℕ) → own_payee keys party ≡ Some script → IsPayable script

-- whether a string has so many bytes
abbrev pub has_size : ℕ → List ℕ → Bool
has_size n bytes = length bytes == n

-- a string that a witness may have below its script
abbrev pub is_short : List ℕ → Bool
is_short item = nat_le (length item) most_item_bytes

-- the contract passed the check, each of its secrets is committed to by a digest of 32 bytes, and the branches are those of the position
pub record IsCompiled (s : Instance) (position : List PathStep) (contract : Contract) : Type 0 where
  pub checked : IsWellFormed s.advert
  pub committed : list_all (λ name. has_size 32 (digest_of s.hashes name)) (names_of (secrets s.advert.pre)) ≡ true
  pub is_position : contract_under s.advert.root position ≡ Some contract

-- ---- the theorems

-- the script of a position is true on a stack, given from its bottom, exactly where the stack opens a branch of the position
pub record OpensExactly (hash : List ℕ → List ℕ) (keys : Keys) (valid : List ℕ → List ℕ → Bool)
    (s : Instance) (position : List PathStep) (contract : Contract) (stack : List (List ℕ)) : Type 0 where
  pub true_opens : script_meaning hash valid (position_script hash keys s position contract) stack ≡ true
      → Opens hash keys valid s position contract (reverse stack)
  pub opens_true : Opens hash keys valid s position contract (reverse stack)
      → script_meaning hash valid (position_script hash keys s position contract) stack ≡ true

-- for every hash, all keys, every oracle of signatures, every position of a checked contract and every stack of short items
abbrev pub ScriptTheorem : Type 0
ScriptTheorem =
    (hash : List ℕ → List ℕ) (keys : Keys) (valid : List ℕ → List ℕ → Bool)
    (s : Instance) (position : List PathStep) (contract : Contract) (stack : List (List ℕ))
    → AreKeys hash keys → IsCompiled s position contract → list_all is_short stack ≡ true
    → OpensExactly hash keys valid s position contract stack

-- the branch that a stack chooses is the branch that it opens
abbrev pub OpenedIsChosen : Type 0
OpenedIsChosen =
    (hash : List ℕ → List ℕ) (keys : Keys) (valid : List ℕ → List ℕ → Bool)
    (s : Instance) (position : List PathStep) (contract : Contract) (stack : List (List ℕ))
    → (opened : Opens hash keys valid s position contract stack) → chosen (length (branches contract)) stack ≡ opened.i

-- a script has the bytes and counted operations of its cost, meets no limit of scripts, and its bytes spell its operations
pub record HasCost (hash : List ℕ → List ℕ) (keys : Keys) (s : Instance) (position : List PathStep)
    (contract : Contract) : Type 0 where
  pub bytes : length (position_script hash keys s position contract) ≡ (cost (length (people s)) contract).bytes
  pub operations : counted (output_ops (position_demands hash keys s position contract))
      ≡ (cost (length (people s)) contract).operations
  pub few_bytes : length (position_script hash keys s position contract) ≤ most_script_bytes
  pub few_operations : counted (output_ops (position_demands hash keys s position contract)) ≤ most_operations
  pub spells : script_ops (position_script hash keys s position contract)
      ≡ Some (output_ops (position_demands hash keys s position contract))

abbrev pub SizeTheorem : Type 0
SizeTheorem =
    (hash : List ℕ → List ℕ) (keys : Keys) (s : Instance) (position : List PathStep) (contract : Contract)
    → AreKeys hash keys → IsCompiled s position contract → HasCost hash keys s position contract

-- what is handed to a witness of branch i: its signatures by participant, and its secrets by reveal
pub record Fills (hash : List ℕ → List ℕ) (keys : Keys) (valid : List ℕ → List ℕ → Bool)
    (s : Instance) (position : List PathStep) (contract : Contract) (i : ℕ) (signatures strings : List (List ℕ)) : Type 0 where
  pub b : term.Guarded
  pub is_branch : slice_get (branches contract) i ≡ Some b
  pub fits : are_secrets hash strings (map (digest_of s.hashes) (reveals_of (core b))) ≡ true
  pub predicate : holds (secret_lengths (reveals_of (core b)) strings) (test_of (core b)) ≡ true
  pub signed : are_valid valid signatures (branch_keys hash keys s (branch_path position i)) ≡ true
  pub short : list_all is_short signatures ≡ true

-- a witness that is filled so makes its script true
abbrev pub WitnessOpens : Type 0
WitnessOpens =
    (hash : List ℕ → List ℕ) (keys : Keys) (valid : List ℕ → List ℕ → Bool)
    (s : Instance) (position : List PathStep) (contract : Contract) (i : ℕ) (signatures strings : List (List ℕ))
    → AreKeys hash keys → IsCompiled s position contract → Fills hash keys valid s position contract i signatures strings
    → script_meaning hash valid (position_script hash keys s position contract)
    (witness_stack signatures strings i (length (branches contract))) ≡ true

-- the script of a deposit is true on a stack exactly where the stack is one signature that is valid for its key
abbrev pub DepositMeaning : Type 0
DepositMeaning = (hash : List ℕ → List ℕ) (valid : List ℕ → List ℕ → Bool) (key : List ℕ) (stack : List (List ℕ))
    → length key ≡ key_bytes → list_all is_short stack ≡ true
    → script_meaning hash valid (deposit_script key) stack ≡ are_valid valid (reverse stack) (key ∷ [])
