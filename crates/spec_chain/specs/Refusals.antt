-- Why a transaction can't have come where a deal stands: the first reason that holds.
use Rattle.std.specs.Prelude.{ℕ, ◌+◌, List, [], ◌∷◌, Bool, true, not, ◌&&◌, nat_lt, if◌then◌else◌, Option, Some, None, is_some}
use Rattle.std.specs.List.{list_any}
use Rattle.std.specs.Str.{bytes_eq}
use Rattle.spec_data.specs.Lists.{first_reason, or_else}
use Rattle.spec_bitcoin.specs.declared.tx.OutPoint.{OutPoint}
use Rattle.spec_bitcoin.specs.declared.tx.TxIn.{TxIn}
use Rattle.spec_bitcoin.specs.declared.tx.Tx.{Tx}
use Rattle.spec_bitcoin.specs.Meaning.{script_meaning}
use Rattle.spec_bitcoin.specs.Spelling.{stripped, is_filled}
use Rattle.spec_bitcoin.specs.Verdict.{script_of, items_of, is_long}
use Rattle.spec_compiler.specs.Keyed.Instance.{Instance}
use Rattle.spec_tool.specs.declared.which.Which.{Which}
use Rattle.spec_deal.specs.declared.transaction.Input.{Input}
use Rattle.spec_deal.specs.declared.transaction.Transaction.{Transaction}
use Rattle.spec_deal.specs.SignatureFile.{has_bytes}
use Rattle.spec_chain.specs.declared.fault.ChainReason.{ChainReason}
use Rattle.spec_chain.specs.declared.fault.ChainReason.TheVariants as reasons
use Rattle.spec_chain.specs.declared.output.Output.{Output}
use Rattle.spec_chain.specs.Outputs.{has_place, without, position_outputs, deal_outputs, transaction_named}
use Rattle.spec_chain.specs.Following.{State, own_transaction, which_shown}

-- ---- what it spends

-- why input k is bad, which spends this place: an output of the deal, whose outputs are these, that isn't live; or a position, if
-- the transaction isn't the deal's
abbrev pub input_row : Instance → List Transaction → Bool → List Output → ℕ → OutPoint → List (Bool × ChainReason)
input_row s ts is_own live k place =
    (has_place (deal_outputs s ts) place && not (has_place live place), reasons.Input k)
    ∷ (not is_own && has_place (position_outputs s.advert ts) place, reasons.Foreign k)
    ∷ []

-- the first bad input from number k on, where these are live; what an input spends isn't live for the next
abbrev pub inputs_reason : Instance → List Transaction → Bool → List Output → ℕ → List TxIn → Option ChainReason
inputs_reason s ts is_own live k [] = None
inputs_reason s ts is_own live k (i ∷ is) =
    or_else (first_reason (input_row s ts is_own live k i.prev)) (inputs_reason s ts is_own (without live i.prev) (k + 1) is)

-- ---- what a transaction of the deal needs

-- a block may have it from the height after its lock on
abbrev pub lock_reason : ℕ → Tx → Option ChainReason
lock_reason height tx = if nat_lt tx.lock height then None else Some reasons.Lock

-- the oracle that takes every signature with every key
abbrev pub takes_all : List ℕ → List ℕ → Bool
takes_all signature key = true

-- whether a witness has the script as its last item and opens it, if every signature is good
abbrev pub opens : (List ℕ → List ℕ) → List ℕ → List (List ℕ) → Bool
opens hash script witness =
    is_filled witness
    && (bytes_eq (script_of witness) script
    && (not (list_any is_long (items_of witness)) && script_meaning hash takes_all script (items_of witness)))

-- whether a witness opens what an input spends: of a wallet's nothing but an item is asked
abbrev pub opens_input : (List ℕ → List ℕ) → Input → List (List ℕ) → Bool
opens_input hash i witness = elim i.wallet [
  | None ↦ opens hash i.spent.script witness
  | Some w ↦ is_filled witness
]

-- the first witness from input k on that doesn't open what the input spends
abbrev pub witnesses_reason : (List ℕ → List ℕ) → ℕ → List Input → List TxIn → Option ChainReason
witnesses_reason hash k [] ins = None
witnesses_reason hash k (i ∷ is) [] = None
witnesses_reason hash k (i ∷ is) (x ∷ xs) =
    if opens_input hash i x.witness then witnesses_reason hash (k + 1) is xs else Some (reasons.Witness k)

-- the branch that is shown has another transaction
abbrev pub branch_reason : List Transaction → Tx → Which → Option ChainReason
branch_reason ts tx which = elim (transaction_named ts which) [
  | None ↦ Some reasons.Branch
  | Some t ↦ if has_bytes (stripped tx) t then None else Some reasons.Branch
]

-- why it is bad, as the deal's
abbrev pub own_reason : (List ℕ → List ℕ) → Instance → List Transaction → ℕ → Tx → Option Transaction → Option ChainReason
own_reason hash s ts height tx None = None
own_reason hash s ts height tx (Some t) =
    or_else (lock_reason height tx)
    (or_else (witnesses_reason hash 0 t.inputs tx.inputs) (branch_reason ts tx (which_shown s tx t.which)))

-- ---- all

-- why a transaction of a block of this height is bad where the deal stands so
abbrev pub refusal : (List ℕ → List ℕ) → Instance → List Transaction → State → ℕ → Tx → Option ChainReason
refusal hash s ts state height tx =
    or_else (inputs_reason s ts (is_some (own_transaction ts tx)) state.live 0 tx.inputs)
    (own_reason hash s ts height tx (own_transaction ts tx))
