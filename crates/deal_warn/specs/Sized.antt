-- Sizes of full witnesses, by counts and lengths alone.
use Rattle.std.specs.Prelude.{ℕ, ◌+◌, ◌*◌, ◌/◌, List, [], ◌∷◌, length, Bool, true, false, ◌||◌, if◌then◌else◌, Option, Some, None}
use Rattle.spec_terms.specs.Advert.{Advert}
use Rattle.spec_terms.specs.Parties.{participants}
use Rattle.spec_terms.specs.declared.path.PathStep.{PathStep}
use Rattle.spec_bitcoin.specs.Spelling.{is_filled, witness_bytes}
use Rattle.spec_tool.specs.declared.which.Which.{Which}
use Rattle.spec_tool.specs.declared.which.Which.TheVariants as names
use Rattle.spec_tool.specs.Weights.{last_branch, choices_at, reveal_count}
use Rattle.theory_weights.specs.Sizes.{count_size, item_size, selector_count, selector_bytes, marked_weight}
use Rattle.spec_deal.specs.declared.transaction.Input.{Input}
use Rattle.spec_deal.specs.declared.transaction.Transaction.{Transaction}
use Rattle.spec_deal.specs.declared.transaction.Wallet.{Wallet}
use Rattle.spec_deal.specs.WarnText.{full_items}

-- ---- one witness

-- of a deposit of a key: a count, a signature of 72 bytes with its length, and the script
abbrev pub key_bytes : ℕ → ℕ
key_bytes script = 74 + item_size script

-- of a deposit of a wallet
unfoldable pub wallet_bytes : List ℕ → ℕ
wallet_bytes script = length (witness_bytes (full_items script))

abbrev pub deposit_bytes : Option Wallet → ℕ → ℕ
deposit_bytes None script = key_bytes script
deposit_bytes (Some w) script = wallet_bytes w.script

-- of a branch: by how many participants and secrets there are, the number of the branch, how many branches there are, and the size of
-- the script
abbrev pub branch_bytes : ℕ → ℕ → ℕ → ℕ → ℕ → ℕ
branch_bytes people secrets i n script =
    count_size (people + secrets + selector_count i n + 1) + people * 73 + secrets * 81 + selector_bytes i n + item_size script

abbrev pub path_bytes : Advert → List PathStep → ℕ → ℕ
path_bytes advert path script =
    branch_bytes (length (participants advert)) (reveal_count advert path) (last_branch path) (choices_at advert path) script

-- ---- the witnesses of a transaction

abbrev pub input_bytes : Input → ℕ
input_bytes input = deposit_bytes input.wallet (length input.spent.script)

-- of inputs that spend deposits
abbrev pub deposits_bytes : List Input → ℕ
deposits_bytes [] = 0
deposits_bytes (input ∷ inputs) = input_bytes input + deposits_bytes inputs

abbrev pub taken_bytes : Advert → List PathStep → List Input → ℕ
taken_bytes advert path [] = 0
taken_bytes advert path (input ∷ inputs) = path_bytes advert path (length input.spent.script) + deposits_bytes inputs

abbrev pub witnesses_bytes : Advert → Which → List Input → ℕ
witnesses_bytes advert names.Init inputs = deposits_bytes inputs
witnesses_bytes advert (names.At path) inputs = taken_bytes advert path inputs

-- ---- whether some witness has an item

abbrev pub is_wallet_filled : Option Wallet → Bool
is_wallet_filled None = true
is_wallet_filled (Some w) = is_filled (full_items w.script)

abbrev pub are_deposits_filled : List Input → Bool
are_deposits_filled [] = false
are_deposits_filled (input ∷ inputs) = is_wallet_filled input.wallet || are_deposits_filled inputs

-- of the inputs of a transaction of this name; the witness of a branch has its script
abbrev pub is_any_filled : Which → List Input → Bool
is_any_filled names.Init inputs = are_deposits_filled inputs
is_any_filled (names.At path) [] = false
is_any_filled (names.At path) (input ∷ inputs) = true

-- ---- the whole

-- the virtual size of a transaction of so many bytes without witnesses, whose witnesses have so many
abbrev pub virtual_size : ℕ → Bool → ℕ → ℕ
virtual_size bare filled witnesses = ((if filled then marked_weight bare witnesses else 4 * bare) + 3) / 4

-- the virtual size of a transaction with full witnesses
unfoldable pub size_by : Advert → Transaction → ℕ
size_by advert t =
    virtual_size (length t.bytes) (is_any_filled t.which t.inputs) (witnesses_bytes advert t.which t.inputs)
