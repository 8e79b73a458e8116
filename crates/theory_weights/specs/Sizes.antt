-- Weights by sizes alone: how many signatures, secrets and selectors a witness has, and how many bytes its script and its transaction have.
use Rattle.std.specs.Prelude.{◌≡◌, ℕ, ◌+◌, ◌-◌, ◌*◌, List, length, if◌then◌else◌, nat_lt, Some}
use Rattle.std.specs.Option.{option_map_or}
use Rattle.spec_terms.specs.Parties.{participants}
use Rattle.spec_terms.specs.declared.path.PathStep.{PathStep}
use Rattle.spec_bitcoin.specs.Spelling.{compact, stripped}
use Rattle.spec_compiler.specs.Instance.{Instance}
use Rattle.spec_compiler.specs.Statements.{IsHash}
use Rattle.spec_compiler.specs.declared.unsigned.Unsigned.{Unsigned}
use Rattle.spec_compiler.specs.Transactions.{tx_of, initial_unsigned}
use Rattle.spec_compiler.specs.ByPath.{position_at, unsigned_at}
use Rattle.spec_tool.specs.Weights.{initial_weight, weight_with, last_branch, position_of, choices_at, reveal_count}

-- the bytes of a count
abbrev pub count_size : ℕ → ℕ
count_size n = length (compact n)

-- the bytes of an item with its length before it
abbrev pub item_size : ℕ → ℕ
item_size n = count_size n + n

-- the bytes of a signature in a witness, with its length before it
abbrev pub signature_bytes : ℕ
signature_bytes = 67

-- the bytes of the witness of a deposit: a count, a signature of 66 bytes and a script of 35
abbrev pub deposit_bytes : ℕ
deposit_bytes = 104

-- how many selectors branch i of n has
abbrev pub selector_count : ℕ → ℕ → ℕ
selector_count i n = if nat_lt (i + 1) n then i + 1 else i

-- and how many bytes they have, with their lengths
abbrev pub selector_bytes : ℕ → ℕ → ℕ
selector_bytes i n = if nat_lt (i + 1) n then i + 2 else i

-- the bytes of the witness of a branch: by how many participants and secrets there are, the size of a secret, the number of the branch,
-- how many branches there are, and the size of the script
abbrev pub branch_bytes : ℕ → ℕ → ℕ → ℕ → ℕ → ℕ → ℕ
branch_bytes people secrets size i n script =
    count_size (people + secrets + selector_count i n + 1) + people * signature_bytes + secrets * item_size size + selector_bytes i n
    + item_size script

-- the weight of a transaction of this size without marker and witnesses, whose witnesses have so many bytes
abbrev pub marked_weight : ℕ → ℕ → ℕ
marked_weight bare witnesses = 4 * bare + 2 + witnesses

-- how many bytes the script of a position has
abbrev pub script_size : (List ℕ → List ℕ) → Instance → List PathStep → ℕ
script_size hash s position = option_map_or (λ p. length (p.0.output.script)) (position_at hash s position) 0

abbrev pub bare_size : Unsigned → ℕ
bare_size d = length (stripped (tx_of d))

-- the weight of an initial transaction that spends so many deposits
abbrev pub initial_sized : ℕ → ℕ → ℕ
initial_sized bare deposits = if nat_lt 0 deposits then marked_weight bare (deposits * deposit_bytes) else 4 * bare

-- the weight of the transaction of a path, with secrets of this size
abbrev pub path_sized : (List ℕ → List ℕ) → Instance → List PathStep → ℕ → Unsigned → ℕ
path_sized hash s path size d =
    marked_weight (bare_size d)
    (branch_bytes (length (participants s.advert)) (reveal_count s.advert path) size (last_branch path) (choices_at s.advert path)
    (script_size hash s (position_of path)) + (length d.spends - 1) * deposit_bytes)

pub record IsSized (hash : List ℕ → List ℕ) (s : Instance) : Type 0 where
  pub initial : initial_weight (initial_unsigned hash s)
      ≡ initial_sized (bare_size (initial_unsigned hash s)) (length (initial_unsigned hash s).spends)
  pub paths : (path : List PathStep) (d : Unsigned) → unsigned_at hash s path ≡ Some d
      → (size : ℕ) → weight_with s.advert path size d ≡ path_sized hash s path size d

-- where the hash has 32 bytes
abbrev pub WeightsBySizes : Type 0
WeightsBySizes = (hash : List ℕ → List ℕ) (s : Instance) → IsHash hash → IsSized hash s
