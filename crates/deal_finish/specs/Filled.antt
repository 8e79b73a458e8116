-- Witnesses, by what is known of the transactions.
use Rattle.std.specs.Prelude.{ℕ, ◌+◌, List, [], ◌∷◌, ◌++◌, length, map, reverse, slice_get, Bool, ◌||◌, ◌==◌, Option, Some, None}
use Rattle.std.specs.List.{find, flat_map}
use Rattle.std.specs.Option.{option_map}
use Rattle.spec_terms.specs.Term as term
use Rattle.spec_terms.specs.Term.{Contract, branches}
use Rattle.spec_terms.specs.Advert.{Advert}
use Rattle.spec_terms.specs.Core.{core, reveals_of}
use Rattle.spec_terms.specs.Paths.{at, contract_under}
use Rattle.spec_terms.specs.Value.{holds}
use Rattle.spec_terms.specs.declared.path.PathStep.{PathStep}
use Rattle.spec_bitcoin.specs.declared.tx.Tx.{Tx}
use Rattle.spec_compiler.specs.Keyed.Statements.{secret_lengths}
use Rattle.spec_compiler.specs.Witness.{witness_of}
use Rattle.spec_run.specs.Firing.{with_witnesses}
use Rattle.spec_tool.specs.declared.which.Which.{Which}
use Rattle.spec_tool.specs.declared.which.Which.TheVariants as names
use Rattle.spec_tool.specs.Weights.{last_branch, position_of}
use Rattle.spec_deal.specs.declared.entry.Shown.{Shown}
use Rattle.spec_deal.specs.declared.signed.Signed.{Signed}
use Rattle.spec_deal.specs.declared.transaction.Signer.{Signer}
use Rattle.spec_deal.specs.declared.transaction.Input.{Input}
use Rattle.spec_deal.specs.declared.transaction.Transaction.{Transaction}
use Rattle.spec_deal.specs.declared.transaction.Wallet.{Wallet}
use Rattle.spec_deal.specs.Transactions.{is_at}
use Rattle.spec_deal.specs.Finished.{bytes_or_none, items_or_none, strings_of}

-- the branch of a transaction; the initial one has none
abbrev pub branch_of : Advert → Which → Option term.Guarded
branch_of advert names.Init = None
branch_of advert (names.At path) = at advert.root path

-- whether there are no names, or a predicate is true of the lengths of their secrets
abbrev pub fits_by : List Shown → List (List ℕ) → term.Pred → Bool
fits_by strings names test = (length names == 0) || holds (secret_lengths names (strings_of strings names)) test

-- ---- signatures

-- of input k of the transaction with these bytes, by this key
abbrev pub signature_at : List Signed → List ℕ → ℕ → List ℕ → List ℕ
signature_at given tx k key =
    bytes_or_none (option_map (λ (g : Signed). g.signature) (find (is_at (record { tx = tx; input = k; key = key })) given))

abbrev pub signatures_by : List Signed → List ℕ → ℕ → Input → List (List ℕ)
signatures_by given tx k input = map (λ (s : Signer). signature_at given tx k s.key) input.signers

-- ---- deposits

-- the items of a witness of input k of the transaction with these bytes, by this key
abbrev pub witness_at : List Signed → List ℕ → ℕ → List ℕ → List (List ℕ)
witness_at given tx k key =
    items_or_none (option_map (λ (g : Signed). g.witness) (find (is_at (record { tx = tx; input = k; key = key })) given))

-- what the wallet gave
abbrev pub wallet_by : List Signed → List ℕ → ℕ → List Signer → List (List ℕ)
wallet_by given tx k signers = flat_map (λ (s : Signer). witness_at given tx k s.key) signers

-- the owner's signature, and the script; or what the wallet gave
abbrev pub deposit_by_wallet : List Signed → List ℕ → ℕ → Input → Option Wallet → List (List ℕ)
deposit_by_wallet given tx k input None = signatures_by given tx k input ++ input.spent.script ∷ []
deposit_by_wallet given tx k input (Some w) = wallet_by given tx k input.signers

abbrev pub deposit_by : List Signed → List ℕ → ℕ → Input → List (List ℕ)
deposit_by given tx k input = deposit_by_wallet given tx k input input.wallet

-- of the inputs from number k on
abbrev pub deposits_by : List Signed → List ℕ → ℕ → List Input → List (List (List ℕ))
deposits_by given tx k [] = []
deposits_by given tx k (input ∷ inputs) = deposit_by given tx k input ∷ deposits_by given tx (k + 1) inputs

-- ---- the output of a position

-- what stands behind the signatures where branch i of n is taken: secrets, selectors and script
abbrev pub items_of : List Shown → ℕ → ℕ → List ℕ → Option term.Guarded → List (List ℕ)
items_of strings i n script None = []
items_of strings i n script (Some b) = witness_of [] (strings_of strings (reveals_of (core b))) i n script

-- the same of branch i of a choice
abbrev pub choice_items : List Shown → ℕ → List ℕ → Option Contract → List (List ℕ)
choice_items strings i script None = []
choice_items strings i script (Some c) = items_of strings i (length (branches c)) script (slice_get (branches c) i)

abbrev pub path_items : Advert → List Shown → List PathStep → List ℕ → List (List ℕ)
path_items advert strings path script = choice_items strings (last_branch path) script (contract_under advert.root (position_of path))

abbrev pub branch_by : Advert → List Signed → List Shown → List ℕ → List PathStep → Input → List (List ℕ)
branch_by advert given strings tx path input =
    reverse (signatures_by given tx 0 input) ++ path_items advert strings path input.spent.script

-- ---- transactions

abbrev pub path_by : Advert → List Signed → List Shown → List ℕ → List PathStep → List Input → List (List (List ℕ))
path_by advert given strings tx path [] = []
path_by advert given strings tx path (input ∷ inputs) =
    branch_by advert given strings tx path input ∷ deposits_by given tx 1 inputs

abbrev pub by_which : Advert → List Signed → List Shown → List ℕ → List Input → Which → List (List (List ℕ))
by_which advert given strings tx inputs names.Init = deposits_by given tx 0 inputs
by_which advert given strings tx inputs (names.At path) = path_by advert given strings tx path inputs

abbrev pub witnesses_by : Advert → List Signed → List Shown → Transaction → List (List (List ℕ))
witnesses_by advert given strings t = by_which advert given strings t.bytes t.inputs t.which

abbrev pub finished_by : Advert → List Signed → List Shown → Transaction → Tx
finished_by advert given strings t = with_witnesses t.tx (witnesses_by advert given strings t)
