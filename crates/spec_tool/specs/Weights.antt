-- The weights of a contract's transactions, by BIP 141, with witnesses of ideal signatures.
use Rattle.std.specs.Prelude.{◌≡◌, ℕ, ◌+◌, ◌*◌, ◌≤◌, List, [], ◌∷◌, length, map, take, replicate, Bool}
use Rattle.std.specs.Prelude.{if◌then◌else◌}
use Rattle.std.specs.List.{AllByRecursion}
use Rattle.std.specs.Option.{option_map_or}
use Rattle.spec_data.specs.Ranges.{least_secret_bytes, most_item_bytes}
use Rattle.spec_terms.specs.Advert.{Advert}
use Rattle.spec_terms.specs.Core.{core, reveals_of}
use Rattle.spec_terms.specs.Parties.{participants}
use Rattle.spec_terms.specs.Paths.{at, contract_under, path_eq}
use Rattle.spec_terms.specs.declared.path.PathStep.{PathStep}
use Rattle.spec_terms.specs.declared.path.PathStep.TheVariants.{Branch as To, Part as Into}
use Rattle.spec_bitcoin.specs.declared.tx.Tx.{Tx}
use Rattle.spec_bitcoin.specs.Spelling.{stripped, spelling}
use Rattle.spec_compiler.specs.Instance.{Instance}
use Rattle.spec_compiler.specs.declared.unsigned.Spent.{Spent}
use Rattle.spec_compiler.specs.declared.unsigned.Unsigned.{Unsigned}
use Rattle.spec_compiler.specs.Transactions.{tx_of, initial_unsigned}
use Rattle.spec_compiler.specs.Compilation.{path_transactions}
use Rattle.spec_compiler.specs.Witness.{witness_of}
use Rattle.spec_run.specs.Ledger.{count_of}
use Rattle.spec_run.specs.Firing.{with_witnesses}
use Rattle.spec_tool.specs.declared.weight.Weight.{Weight}

-- three times the size without marker and witnesses, and the whole size
abbrev pub weight_of : Tx → ℕ
weight_of tx = 3 * length (stripped tx) + length (spelling tx)

-- ---- full witnesses

-- a signature's size in bytes
abbrev pub signature_size : ℕ
signature_size = 66

-- the witness of a deposit, by its signature
abbrev pub deposit_full : List ℕ → Spent → List (List ℕ)
deposit_full signature spent = signature ∷ (spent.script ∷ [])

-- those of several deposits, by their signatures
abbrev pub deposits_full : List (List ℕ) → List Spent → List (List (List ℕ))
deposits_full signatures [] = []
deposits_full [] (spent ∷ rest) = []
deposits_full (signature ∷ signatures) (spent ∷ rest) = deposit_full signature spent ∷ deposits_full signatures rest

-- the number of the branch that a path ends with
abbrev pub last_branch : List PathStep → ℕ
last_branch [] = 0
last_branch (To i ∷ []) = i
last_branch (Into k ∷ []) = 0
last_branch (s ∷ (t ∷ steps)) = last_branch (t ∷ steps)

-- the position whose branch the path is: all steps but the last
abbrev pub position_of : List PathStep → List PathStep
position_of [] = []
position_of (s ∷ []) = []
position_of (s ∷ (t ∷ steps)) = s ∷ position_of (t ∷ steps)

-- how many branches the path's position has
abbrev pub choices_at : Advert → List PathStep → ℕ
choices_at advert path = count_of (contract_under advert.root (position_of path))

-- the witnesses of a branch's transaction, by the participants' signatures in order, the secrets in the order of the
-- reveals, and the signatures of the deposits that are put
abbrev pub branch_full : Advert → List PathStep → List (List ℕ) → List (List ℕ) → List (List ℕ) → List Spent → List (List (List ℕ))
branch_full advert path signatures secrets others [] = []
branch_full advert path signatures secrets others (spent ∷ rest) =
    witness_of signatures secrets (last_branch path) (choices_at advert path) spent.script ∷ deposits_full others rest

-- how many secrets the branch at a path reveals
abbrev pub reveal_count : Advert → List PathStep → ℕ
reveal_count advert path = option_map_or (λ b. length (reveals_of (core b))) (at advert.root path) 0

-- ---- the least and the greatest weight

-- a signature of any bytes
abbrev pub any_signature : List ℕ
any_signature = replicate signature_size 0

abbrev pub any_signatures : ℕ → List (List ℕ)
any_signatures n = replicate n any_signature

-- the initial transaction's weight, with its full witnesses
abbrev pub initial_weight : Unsigned → ℕ
initial_weight d = weight_of (with_witnesses (tx_of d) (deposits_full (any_signatures (length d.spends)) d.spends))

-- secrets of this size, as many as the branch at a path reveals
abbrev pub any_secrets : Advert → List PathStep → ℕ → List (List ℕ)
any_secrets advert path size = replicate (reveal_count advert path) (replicate size 0)

-- full witnesses of a path's transaction, where all its secrets have this size
abbrev pub any_full : Advert → List PathStep → ℕ → Unsigned → List (List (List ℕ))
any_full advert path size d =
    branch_full advert path (any_signatures (length (participants advert))) (any_secrets advert path size)
    (any_signatures (length d.spends)) d.spends

-- the weight of a path's transaction, where all its secrets have this size
abbrev pub weight_with : Advert → List PathStep → ℕ → Unsigned → ℕ
weight_with advert path size d = weight_of (with_witnesses (tx_of d) (any_full advert path size d))

abbrev pub exactly : ℕ → Weight
exactly n = record { least = n; most = n }

-- the least and the greatest weight of a path's transaction
abbrev pub path_weight : Advert → List PathStep → Unsigned → Weight
path_weight advert path d =
    record { least = weight_with advert path least_secret_bytes d; most = weight_with advert path most_item_bytes d }

abbrev pub added : Weight → Weight → Weight
added a b = record { least = a.least + b.least; most = a.most + b.most }

-- ---- totals

-- whether the first path is the second or on the way to it
abbrev pub is_on_way : List PathStep → List PathStep → Bool
is_on_way path to = path_eq path (take (length path) to)

-- the weights of those of these paths that are on the way, and this weight
abbrev pub total_to : List PathStep → Weight → List (List PathStep × Weight) → Weight
total_to to sum [] = sum
total_to to sum (p ∷ ps) = total_to to (if is_on_way (p.0) to then added sum (p.1) else sum) ps

-- each path with its weight and its total, which begins with this weight
abbrev pub with_totals : Weight → List (List PathStep × Weight) → List (List PathStep × Weight) → List (Weight × Weight)
with_totals init all [] = []
with_totals init all (p ∷ ps) = (p.1, total_to (p.0) init all) ∷ with_totals init all ps

abbrev pub path_weights : (List ℕ → List ℕ) → Instance → List (List PathStep × Weight)
path_weights hash instance = map (λ p. (p.0, path_weight instance.advert (p.0) (p.1))) (path_transactions hash instance)

abbrev pub all_weights : Weight → List (List PathStep × Weight) → List (Weight × Weight)
all_weights init paths = (init, init) ∷ with_totals init paths paths

-- Of the initial transaction and then of each path its weight and its total: the weights of all transactions that lead
-- there, the initial one's included.
abbrev pub weights : (List ℕ → List ℕ) → Instance → List (Weight × Weight)
weights hash instance = all_weights (exactly (initial_weight (initial_unsigned hash instance))) (path_weights hash instance)

-- ---- what is full

abbrev pub IsSignature : List ℕ → Type 0
IsSignature item = length item ≡ signature_size

pub record IsSecret (item : List ℕ) : Type 0 where
  pub long : least_secret_bytes ≤ length item
  pub short : length item ≤ most_item_bytes

-- full witnesses of the initial transaction
pub record IsInitialFull (d : Unsigned) (witnesses : List (List (List ℕ))) : Type 0 where
  pub signatures : List (List ℕ)
  pub each : AllByRecursion IsSignature signatures
  pub count : length signatures ≡ length d.spends
  pub same : witnesses ≡ deposits_full signatures d.spends

-- full witnesses of a path's transaction: signatures of 66 bytes, secrets of 16 to 520
pub record IsPathFull (advert : Advert) (path : List PathStep) (d : Unsigned) (witnesses : List (List (List ℕ))) : Type 0 where
  pub signatures : List (List ℕ)
  pub secrets : List (List ℕ)
  pub others : List (List ℕ)
  pub each_signature : AllByRecursion IsSignature signatures
  pub each_secret : AllByRecursion IsSecret secrets
  pub each_other : AllByRecursion IsSignature others
  pub signature_count : length signatures ≡ length (participants advert)
  pub secret_count : length secrets ≡ reveal_count advert path
  pub other_count : length others + 1 ≡ length d.spends
  pub same : witnesses ≡ branch_full advert path signatures secrets others d.spends
